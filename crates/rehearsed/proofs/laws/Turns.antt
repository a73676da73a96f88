-- Laws of what specs/Turns.antt defines.
use Rattle.records.specs.Answers.{refusal_no}
use Rattle.records.specs.declared.answers.Refusal.{Refusal}
use Rattle.records.specs.declared.answers.Refusal.TheVariants.{NotSound, PostFull}
use Rattle.std.specs.Prelude.{Option}
use Prim.Native.Nat.{ℕ, ◌+◌, ◌≤◌, ◌<◌}
use mathlib.Core.Bool.{true}
use mathlib.Core.List.{List, [], ◌++◌, append_assoc}
use mathlib.Core.Logic.{◌⊎◌, inl, inr, ◌≢◌}
use mathlib.Core.Path.{◌≡◌, refl, sym, ap, subst₃, ◌∙◌}
use native.Mathlib.Decide.{dec_le}
use native.Mathlib.Omega.{arith}
use lib.ListN.{length, take, drop, set, length-append, length-drop, length-set, take-append-drop}
use lib.Seq.{length-take-le, take_at, take-set-lt}
use lib.Dec.{leb, ltb, eqb}
use borrow.Author.Tests.{le-leb, lt-leb, ne_eqb}
use Rattle.laws.specs.Choice.{pick}
use Rattle.laws.proofs.laws.Choice.{or_right}
use Rattle.laws.specs.Tray.{onto}
use Rattle.laws.proofs.laws.Tray.{onto_nil, onto_length}
use Rattle.house.specs.Limits.{most_post}
use Rattle.house.specs.Plan.{boxes_of}
use Rattle.house.specs.declared.Plan.{Plan}
use Rattle.house.specs.declared.Order.{Order}
use Rattle.house.specs.declared.Order.TheVariants.{Carry}
use Rattle.records.specs.Rec.{Rec}
use Rattle.records.specs.Bytes.{encode_all}
use Rattle.records.proofs.laws.Bytes.{encode_append}
use Rattle.boxes.specs.Out.{Out, refused, does, guard}
use Rattle.boxes.proofs.laws.Answers.{guard_does}
use Rattle.boxes.specs.declared.BoxState.{BoxState}
use Rattle.world.specs.World as Worlds
use Rattle.world.specs.World.{World}
use Rattle.stays_sound.proofs.laws.Sends.{every_does}
use Rattle.world.proofs.laws.Reached.{Reached, given_turned}
use Rattle.world.proofs.laws.Answers.{answers, carry_answers}
use Rattle.rehearsal.specs.Night as Nights
use Rattle.post.specs.Posting.{room_of}
use Rattle.post.proofs.laws.Posting.{room_most}
use Rattle.rehearsal.specs.Night.{fitting, turn_of, post_of}
use Rattle.rehearsal.specs.declared.Night.{Night}
use Rattle.rehearsed.proofs.laws.Same.{Same, whose_same, given_same}
use Rattle.rehearsed.specs.Turns.{night_after, post_after}

-- ---- the post's bytes

-- the room goes by the length alone
pub room_same : (s t : List ℕ) → length s ≡ length t → room_of s ≡ room_of t
unfolding room_of
room_same s t e = ap (λ (k : ℕ). pick (ltb k most_post) k most_post) e

written_none : (P : Plan) (s : List ℕ) (u : ℕ) → take u s ++ onto (encode_all P []) (drop u s) ≡ s
unfolding encode_all
written_none P s u = rw (onto_nil (drop u s)) (take-append-drop u s)

written_length : (s bs : List ℕ) (u : ℕ) → u + length bs ≤ length s → length (take u s ++ onto bs (drop u s)) ≡ length s
written_length s bs u h =
    let a = length-append (take u s) (onto bs (drop u s)) in
    let b = length-take-le u s (omega arith) in
    let d = length-drop u s in
    let c = onto_length bs (drop u s) (omega arith) in
    omega arith

written_front : (s bs : List ℕ) (u : ℕ) → u ≤ length s → take (u + length bs) (take u s ++ onto bs (drop u s)) ≡ take u s ++ bs
unfolding onto
written_front s bs u h =
    ap (take (u + length bs)) (sym (append_assoc (take u s) bs (drop (length bs) (drop u s))))
    ∙
    take_at
    (take u s ++ bs)
    (drop (length bs) (drop u s))
    (u + length bs)
    (length-append (take u s) bs ∙ ap (λ (k : ℕ). k + length bs) (length-take-le u s h))

-- ---- an outcome behind tests

-- what is done exists
pub done_exists : (P : Plan) (w : World) (o : Order) {x : BoxState} {l : List Rec} {d : Option ℕ} → Worlds.given P w o ≡ does x l d
    → Worlds.exists P w o ≡ true
unfolding Worlds.given
done_exists P w o e = (guard_does _ _ _ (guard_does _ _ _ e).1).0

-- the test that the records fit
fits_passes : (P : Plan) (n : Night) (s : List ℕ) (x : BoxState) (l : List Rec) (d : Option ℕ) → n.used + length (encode_all P l) ≤ room_of s
    → fitting P n s (does x l d) ≡ does x l d
unfolding fitting guard
fits_passes P n s x l d h =
    rw (or_right (eqb (length (encode_all P l)) 0) (leb (n.used + length (encode_all P l)) (room_of s))
    (le-leb (n.used + length (encode_all P l)) (room_of s) h))

fits_fails : (P : Plan) (n : Night) (s : List ℕ) (x : BoxState) (l : List Rec) (d : Option ℕ) → n.used ≤ room_of s
    → room_of s < n.used + length (encode_all P l)
    → fitting P n s (does x l d) ≡ refused PostFull
unfolding fitting guard
fits_fails P n s x l d u h =
    rw (ne_eqb (length (encode_all P l)) 0 (omega arith), lt-leb (n.used + length (encode_all P l)) (room_of s) h)

-- ---- an order that is refused changes nothing

module _ (P : Plan) (n : Night) (s : List ℕ) (o : Order) {why : Refusal} (e : Nights.given P n s o ≡ refused why) where
  pub night_stays : night_after P n s o ≡ n
  night_stays = ap (λ (g : Out). (turn_of P n (Nights.whose P n s o) g).night) e

  pub post_stays : post_after P n s o ≡ s
  post_stays = ap (post_of P n s) e ∙ written_none P s n.used

pub world_stays : (P : Plan) (w : World) (o : Order) {why : Refusal} → Worlds.given P w o ≡ refused why → Worlds.step P w o ≡ w
unfolding Worlds.step
world_stays P w o e = ap (Worlds.finish w (Worlds.whose w o)) e

-- ---- one order

module _ {P : Plan} {n : Night} {s : List ℕ} {w : World} (R : Reached P w) (S : Same P n s w) where
  -- a box set, records appended
  same_written : (p : ℕ) (x : BoxState) (l : List Rec) → p < boxes_of P → n.used + length (encode_all P l) ≤ room_of s
      → Same P (record { boxes = set n.boxes p x; used = n.used + length (encode_all P l) }) (take n.used s ++ onto (encode_all P l) (drop n.used s))
      (record { boxes = set w.boxes p x; post = w.post ++ l })
  same_written p x l b f =
      let m = room_most s in let z = written_length s (encode_all P l) n.used (omega arith) in
      record {
        boxes = take-set-lt (boxes_of P) n.boxes p x b ∙ ap (λ (q : List BoxState). set q p x) S.boxes;
        twelve = length-set n.boxes p x ∙ S.twelve;
        used =
            ap (λ (q : ℕ). q + length (encode_all P l)) S.used
            ∙ sym (ap (length) (encode_append P w.post l) ∙ length-append (encode_all P w.post) (encode_all P l));
        bytes =
            written_front s (encode_all P l) n.used (omega (arith, S.fits))
            ∙ ap (λ (q : List ℕ). q ++ encode_all P l) S.bytes ∙ sym (encode_append P w.post l);
        fits = rw (room_same (take n.used s ++ onto (encode_all P l) (drop n.used s)) s z) f;
      }

  -- refused by the world, refused here, for the same reason
  pub refused_same : (o : Order) {why : Refusal} → Worlds.given P w o ≡ refused why → Nights.given P n s o ≡ refused why
  refused_same o e = given_same R S o ∙ ap (Nights.if_fits P n s) e

  module _ (o : Order) {x : BoxState} {l : List Rec} {d : Option ℕ} (e : Worlds.given P w o ≡ does x l d) where
    -- done by the world and the records fit: done here, and the two stay side by side
    pub does_same : n.used + length (encode_all P l) ≤ room_of s → Nights.given P n s o ≡ does x l d
    does_same h = given_same R S o ∙ ap (Nights.if_fits P n s) e ∙ fits_passes P n s x l d h

    pub after_same : n.used + length (encode_all P l) ≤ room_of s → Same P (night_after P n s o) (post_after P n s o) (Worlds.step P w o)
    unfolding Worlds.step
    after_same h =
        subst₃ (λ (p : ℕ) (g k : Out). Same P (turn_of P n p g).night (post_of P n s g) (Worlds.finish w (Worlds.whose w o) k))
        (sym (whose_same R S o (done_exists P w o e))) (sym (does_same h)) (sym e)
        (same_written (Worlds.whose w o) x l (every_does (given_turned R o) e).low h)

    pub after_length : n.used + length (encode_all P l) ≤ room_of s → length (post_after P n s o) ≡ length s
    after_length h = ap (λ (g : Out). length (post_of P n s g)) (does_same h) ∙ (let m = room_most s in written_length s (encode_all P l) n.used (omega arith))

    -- they do not fit: 12
    pub does_full : room_of s < n.used + length (encode_all P l) → Nights.given P n s o ≡ refused PostFull
    does_full h = given_same R S o ∙ ap (Nights.if_fits P n s) e ∙ fits_fails P n s x l d S.fits h

-- the same refusal; night, post and world stay
pub record Refused (P : Plan) (n : Night) (s : List ℕ) (w : World) (o : Order) : Type 0 where
  pub why : Refusal
  pub world_refuses : Worlds.given P w o ≡ refused why
  pub refuses : Nights.given P n s o ≡ refused why
  pub night : night_after P n s o ≡ n
  pub post : post_after P n s o ≡ s
  pub world : Worlds.step P w o ≡ w

-- the same box and records, which fit
pub record Done (P : Plan) (n : Night) (s : List ℕ) (w : World) (o : Order) : Type 0 where
  pub box : BoxState
  pub sent : List Rec
  pub delivered : Option ℕ
  pub world_does : Worlds.given P w o ≡ does box sent delivered
  pub room : n.used + length (encode_all P sent) ≤ room_of s
  pub does_it : Nights.given P n s o ≡ does box sent delivered
  pub same : Same P (night_after P n s o) (post_after P n s o) (Worlds.step P w o)
  pub long : length (post_after P n s o) ≡ length s

-- the world's records do not fit; night and post stay
pub record Full (P : Plan) (n : Night) (s : List ℕ) (w : World) (o : Order) : Type 0 where
  pub box : BoxState
  pub sent : List Rec
  pub delivered : Option ℕ
  pub world_does : Worlds.given P w o ≡ does box sent delivered
  pub no_room : room_of s < n.used + length (encode_all P sent)
  pub refuses : Nights.given P n s o ≡ refused PostFull
  pub night : night_after P n s o ≡ n
  pub post : post_after P n s o ≡ s

pub data Alike (P : Plan) (n : Night) (s : List ℕ) (w : World) (o : Order) : Type 0 where
  both_refuse : Refused P n s w o → Alike P n s w o
  both_do : Done P n s w o → Alike P n s w o
  full : Full P n s w o → Alike P n s w o

module _ {P : Plan} {n : Night} {s : List ℕ} {w : World} (R : Reached P w) (S : Same P n s w) where
  -- every order is one of the three
  pub alike : (o : Order) → Alike P n s w o
  alike o = go (Worlds.given P w o) refl
    where
      fit : (x : BoxState) (l : List Rec) (d : Option ℕ) → Worlds.given P w o ≡ does x l d → Dec (n.used + length (encode_all P l) ≤ room_of s)
          → Alike P n s w o
      fit x l d e (yes h) =
          both_do
          (record {
            box = x;
            sent = l;
            delivered = d;
            world_does = e;
            room = h;
            does_it = does_same R S o e h;
            same = after_same R S o e h;
            long = after_length R S o e h;
          })
      fit x l d e (no h) =
          let r = does_full R S o e (omega arith) in
          full
          (record {
            box = x;
            sent = l;
            delivered = d;
            world_does = e;
            no_room = omega arith;
            refuses = r;
            night = night_stays P n s o r;
            post = post_stays P n s o r;
          })

      go : (g : Out) → Worlds.given P w o ≡ g → Alike P n s w o
      go (refused why) e =
          let r = refused_same R S o e in
          both_refuse
          (record {
            why = why;
            world_refuses = e;
            refuses = r;
            night = night_stays P n s o r;
            post = post_stays P n s o r;
            world = world_stays P w o e;
          })
      go (does x l d) e = fit x l d e (dec_le (n.used + length (encode_all P l)) (room_of s))

  refused_why : {a b : Refusal} → ◌≡◌ {A = Out} (refused a) (refused b) → a ≡ b
  refused_why e = cc

  refused_not : {a : Refusal} {x : BoxState} {l : List Rec} {d : Option ℕ} → ◌≡◌ {A = Out} (does x l d) (refused a) → ⊥
  refused_not e = let z : ◌≡◌ {A = ℕ} 0 1 = cc in omega arith

  -- a refusal is the world's, or 12
  pub refusal_is : (o : Order) (why : Refusal) → Nights.given P n s o ≡ refused why → (Worlds.given P w o ≡ refused why) ⊎ (why ≡ PostFull)
  refusal_is o why e = go (alike o)
    where
      go : Alike P n s w o → (Worlds.given P w o ≡ refused why) ⊎ (why ≡ PostFull)
      go (both_refuse r) = inl (r.world_refuses ∙ ap refused (refused_why (sym r.refuses ∙ e)))
      go (both_do r) = absurd (refused_not (sym r.does_it ∙ e))
      go (full r) = inr (refused_why (sym e ∙ r.refuses))

  -- every answer is 6 to 12
  pub night_answers : (o : Order) (why : Refusal) → Nights.given P n s o ≡ refused why → (6 ≤ refusal_no why) × (refusal_no why ≤ 12)
  night_answers o why e = go (refusal_is o why e)
    where
      go : (Worlds.given P w o ≡ refused why) ⊎ (why ≡ PostFull) → (6 ≤ refusal_no why) × (refusal_no why ≤ 12)
      go (inl r) = let f = answers R o why r in omega arith
      go (inr r) = rw r (omega arith)

  -- no order answers 1
  pub night_never_one : (o : Order) → Nights.given P n s o ≢ refused NotSound
  night_never_one o e = let f = night_answers o NotSound e in omega arith

  -- a record of the post, by its bytes: never 1 to 6, so neither another shape nor another value
  pub night_carry_never : (i : ℕ) (why : Refusal) → Nights.given P n s (Carry i) ≡ refused why
      → (refusal_no why ≢ 1) × (refusal_no why ≢ 2) × (refusal_no why ≢ 3) × (refusal_no why ≢ 4) × (refusal_no why ≢ 5) × (refusal_no why ≢ 6)
  night_carry_never i why e = go (refusal_is (Carry i) why e)
    where
      go : (Worlds.given P w (Carry i) ≡ refused why) ⊎ (why ≡ PostFull)
          → (refusal_no why ≢ 1) × (refusal_no why ≢ 2) × (refusal_no why ≢ 3) × (refusal_no why ≢ 4) × (refusal_no why ≢ 5) × (refusal_no why ≢ 6)
      go (inl r) = let f = carry_answers R i why r in omega arith
      go (inr r) = rw r (omega arith)
