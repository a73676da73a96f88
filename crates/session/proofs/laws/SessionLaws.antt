-- What is read does not depend on what was said before: the text comes behind it. And the first bytes of a chunk.
use Prim.Native.Nat.{ℕ, ◌≤◌}
use mathlib.Core.Bool.{Bool, true, false}
use mathlib.Core.List.{List, [], ◌∷◌, ◌++◌, append_assoc, append-nil}
use mathlib.Core.Path.{◌≡◌, refl, sym, ap, ◌∙◌}
use native.Mathlib.Omega.{arith}
use lib.ListN.{length, take}
use lib.Seq.{take_all}
use lib.Dec.{eqb, ltb}
use borrow.Author.Tests.{ltb-false}
use Rattle.laws.specs.Choice.{pick}
use Rattle.laws.proofs.laws.Choice.{pick_when}
use Rattle.lines.specs.Parts.{line_feed}
use Rattle.lines.specs.Held.{pushed}
use Rattle.lines.specs.Feed.{Reading, line_end, byte_read, all_read, input_end}
use Rattle.session.specs.World.{World, saying, act}
use Rattle.session.specs.Session.{within, session_of, last_of}

-- a reading behind some text
abbrev pub behind_text : List ℕ → Reading World → Reading World
behind_text x r = record { line = r.line; state = saying x r.state }

-- a reading with nothing said
abbrev pub quiet : Reading World → Reading World
quiet r = within (session_of r) r.state.post

pub behind_none : (r : Reading World) → r ≡ behind_text r.state.text (quiet r)
behind_none r =
    ap
    (λ (x : List ℕ). record { line = r.line; state = record { desk = r.state.desk; night = r.state.night; post = r.state.post; text = x } })
    (sym (append-nil r.state.text))

pub behind_twice : (x y : List ℕ) (r : Reading World) → behind_text (x ++ y) r ≡ behind_text x (behind_text y r)
behind_twice x y r =
    ap
    (λ (z : List ℕ). record { line = r.line; state = record { desk = r.state.desk; night = r.state.night; post = r.state.post; text = z } })
    (append_assoc x y r.state.text)

pub line_says : (r : Reading World) → line_end act r ≡ behind_text r.state.text (line_end act (quiet r))
unfolding line_end act
line_says r = refl

pub byte_says : (r : Reading World) (b : ℕ) → byte_read act r b ≡ behind_text r.state.text (byte_read act (quiet r) b)
unfolding byte_read pick
byte_says r b = go (eqb b line_feed)
  where
    held : Reading World → Reading World
    held q = record { line = pushed q.line b; state = q.state }

    go : (t : Bool) → pick t (line_end act r) (held r) ≡ behind_text r.state.text (pick t (line_end act (quiet r)) (held (quiet r)))
    go true = line_says r
    go false = behind_none (held r)

pub all_says : (l : List ℕ) (r : Reading World) → all_read act r l ≡ behind_text r.state.text (all_read act (quiet r) l)
all_says [] r = behind_none r
all_says (b ∷ l) r =
    let q = byte_read act (quiet r) b in
    ap (λ (z : Reading World). all_read act z l) (byte_says r b)
    ∙ all_says l (behind_text r.state.text q)
    ∙ behind_twice r.state.text q.state.text (all_read act (quiet q) l)
    ∙ sym (ap (behind_text r.state.text) (all_says l q))

-- the last line is the end of the input
pub last_says : (r : Reading World) → input_end act r ≡ saying r.state.text (last_of (session_of r) r.state.post).state
unfolding input_end last_of pick
last_says r = go (eqb r.line.len 0)
  where
    go : (t : Bool) → pick t r.state (line_end act r).state ≡ saying r.state.text (pick t (quiet r) (line_end act (quiet r))).state
    go true = ap (λ (z : Reading World). z.state) (behind_none r)
    go false = ap (λ (z : Reading World). z.state) (line_says r)

-- the first n of at most m bytes
pub take_within : (n m : ℕ) (l : List ℕ) → length l ≤ m → take (pick (ltb n m) n m) l ≡ take n l
take_within n m l h =
    pick_when (λ k. take k l ≡ take n l) (ltb n m) (λ t. refl) (λ t. let o = ltb-false n m t in take_all m l h ∙ sym (take_all n l (omega arith)))
