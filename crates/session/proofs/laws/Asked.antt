-- Laws of what specs/Asked.antt defines.
use Rattle.std.specs.Prelude.{Option, None, Some, unwrap_or}
use Rattle.std.specs.List.{fold, position_or_len}
use Rattle.std.proofs.Common.{arith, length-take}
use Rattle.std.proofs.Math.Seq.{take-add}
use Rattle.std.proofs.lemmas.List.{get_or-drop, get_or-take}
use Rattle.std.proofs.lemmas.List.Sums.{fails_before_first, passes_at_first, prefix_len-le-length}
use Prim.Native.Nat.{ℕ, zero, suc, min, ◌+◌, ◌-◌, ◌<◌, ◌≤◌}
use mathlib.Core.Bool.{Bool, true, false, not, cond}
use mathlib.Core.List.{List, [], ◌∷◌, foldl-append}
use mathlib.Core.Logic.{⊎_elim}
use borrow.Author.Tests.{eqb-true, ltb-true, ltb-false, lt-ltb}
use mathlib.Core.Path.{◌≡◌, refl, sym, ap, ◌∙◌}
use lib.Dec.{eqb, ltb}
use lib.ListN.{length, get_or, take, drop, length-drop}
use Rattle.laws.proofs.laws.Choice.{pick_true, pick_false, pick_when, look}
use Rattle.laws.proofs.laws.Fold.{over_step}
use Rattle.lines.specs.Orders.{longest}
use Rattle.lines.specs.Parts.{line_feed}
use Rattle.lines.specs.Held.{no_line, pushed, order_held}
use Rattle.lines.specs.Feed.{Reading, line_end, byte_read, all_read}
use Rattle.lines.specs.declared.LineState.{LineState}
use Rattle.lines.specs.declared.Typed.{Typed}
use Rattle.session.specs.Asked.{ReadsOn}
use Rattle.session.specs.World.{World, act}

-- ---- laws

byte_held : (r : Reading World) (b : ℕ) → eqb b line_feed ≡ false → byte_read act r b ≡ record { line = pushed r.line b; state = r.state }
unfolding byte_read
byte_held r b e = pick_false _ _ e

pub byte_ends : (r : Reading World) → byte_read act r line_feed ≡ line_end act r
unfolding byte_read
byte_ends r = pick_true _ _ refl

line_acts : (whole : LineState) (w : World) (t : Typed) → t ≡ order_held whole
    → line_end act (record { line = whole; state = w }) ≡ record { line = no_line; state = act w t }
unfolding line_end
line_acts whole w t e = rw e

-- bytes of which none is an LF
held_all : (q : Reading World) (bytes : List ℕ) → ((k : ℕ) → k < length bytes → eqb (get_or bytes k 0) line_feed ≡ false)
    → all_read act q bytes ≡ record { line = fold pushed q.line bytes; state = q.state }
held_all q [] h = refl
held_all q (b ∷ bytes) h =
    ap (λ (z : Reading World). all_read act z bytes) (byte_held q b (h 0 (omega arith)))
    ∙ held_all (record { line = pushed q.line b; state = q.state }) bytes (λ k l. h (suc k) (omega arith))

-- a line of more than 31 bytes keeps no more
full_stays : (s : LineState) (l : List ℕ) → longest < s.len → fold pushed s l ≡ s
unfolding pushed
full_stays s [] h = refl
full_stays s (b ∷ l) h = ap (λ (z : LineState). fold pushed z l) (pick_true _ _ (lt-ltb longest s.len h)) ∙ full_stays s l h

fills : (s : LineState) (b n : ℕ) → longest < suc n + s.len → longest < n + (pushed s b).len
unfolding pushed
fills s b n h = pick_when (λ (z : LineState). longest < n + z.len) (ltb longest s.len) (λ e. omega (arith, ltb-true longest s.len e)) (λ e. omega arith)

front_held : (s : LineState) (l : List ℕ) (n : ℕ) → longest < n + s.len → fold pushed s (take n l) ≡ fold pushed s l
front_held s l zero h = sym (full_stays s l (omega (arith, h)))
front_held s [] (suc n) h = refl
front_held s (b ∷ l) (suc n) h = front_held (pushed s b) l n (fills s b n h)

-- so the first bytes that fit are all that is held of some
pub most_held : (s : LineState) (l : List ℕ) (len most : ℕ) → most ≡ min len 32 → fold pushed s (take most l) ≡ fold pushed s (take len l)
most_held s l len most e =
    ⊎_elim
    (λ h. let k = ltb-true len 32 h in let m : most ≡ len = omega (arith, e) in rw m)
    (λ h. let k = ltb-false len 32 h in front_held s l most (omega (arith, e)) ∙ sym (front_held s l len (omega arith)))
    (look (ltb len 32))

-- the first place that passes, or the end
pub first_or_end : {A : Type 0} (t : A → Bool) (l : List A) {r : Option ℕ} → r ≡ cond (ltb (position_or_len t l) (length l)) (Some (position_or_len t l)) None
    → unwrap_or r (length l) ≡ position_or_len t l
first_or_end t l e = ap (λ r. unwrap_or r (length l)) e ∙ low_or_end (position_or_len t l) (length l) (prefix_len-le-length (λ x. not (t x)) l)
  where
    low_or_end : (p n : ℕ) → p ≤ n → unwrap_or (cond (ltb p n) (Some p) None) n ≡ p
    low_or_end p n m = ⊎_elim (λ h. rw h) (λ h. let k = ltb-false p n h in rw h (omega (arith, k, m))) (look (ltb p n))

-- what comes in a chunk from a place on, up to its first LF or the end
pub rest_read : (chunk : List ℕ) (from len : ℕ) (line held : LineState) → from ≤ length chunk
    → len ≡ position_or_len (λ b. eqb b line_feed) (drop from chunk) → held ≡ fold pushed line (take len (drop from chunk))
    → ReadsOn line chunk from (record { line = held; at = from + len })
rest_read chunk from len line held low el eh =
    let rest = drop from chunk in
    let lf : ℕ → Bool = λ b. eqb b line_feed in
    let n : length rest ≡ length chunk - from = length-drop _ _ in
    let m = prefix_len-le-length (λ b. not (lf b)) rest in
    let none : (k : ℕ) → k < length (take len rest) → lf (get_or (take len rest) k 0) ≡ false =
    λ k l.
    let b : k < len = omega (arith, l, length-take len rest) in
    rw (get_or-take len rest k 0 b) (fails_before_first lf rest k 0 (omega (arith, b, el))) in
    record {
      up = omega arith;
      low = omega (arith, low, n, m, el);
      ends = λ h.
          let g : lf (get_or rest len 0) ≡ true = rw el (passes_at_first lf rest 0 (omega (arith, low, n, h, el))) in
          sym (get_or-drop from chunk len 0) ∙ eqb-true _ _ g;
      held = λ q e.
          let w = all_read act q (take from chunk) in
          ap (all_read act q) (take-add from len chunk)
          ∙ foldl-append (byte_read act) q (take from chunk) (take len rest)
          ∙ held_all w (take len rest) none
          ∙ ap (λ (z : LineState). record { line = z; state = w.state }) (ap (λ (z : LineState). fold pushed z (take len rest)) e ∙ sym eh);
    }

module _ (q : Reading World) (chunk : List ℕ) where
  -- the LF that ends a line: its order is acted on
  pub line_turn : (from end : ℕ) (whole : LineState) (t : Typed) → end < length chunk → get_or chunk end 0 ≡ line_feed
      → all_read act q (take end chunk) ≡ record { line = whole; state = (all_read act q (take from chunk)).state } → t ≡ order_held whole
      → all_read act q (take (end + 1) chunk) ≡ record { line = no_line; state = act (all_read act q (take from chunk)).state t }
  line_turn from end whole t h lf e is =
      sym (over_step (byte_read act) q chunk end h)
      ∙ ap (byte_read act (all_read act q (take end chunk))) lf
      ∙ ap (λ (z : Reading World). byte_read act z line_feed) e
      ∙ byte_ends (record { line = whole; state = (all_read act q (take from chunk)).state })
      ∙ line_acts whole (all_read act q (take from chunk)).state t is
