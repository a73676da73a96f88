-- A night and its post's bytes beside a world: the same boxes, and the bytes of the world's records.
-- An order to the night is the order to the world, with one test more at the end: that the records fit.
use Rattle.records.specs.declared.answers.Refusal.TheVariants.{NotSound, NoSuch}
use Rattle.std.specs.Prelude.{None}
use Prim.Native.Nat.{ℕ, ◌≤◌, ◌<◌}
use mathlib.Core.Bool.{true, false, ◌&&◌}
use mathlib.Core.List.{List, ◌++◌}
use mathlib.Core.Logic.{◌⊎◌, inl, inr}
use mathlib.Core.Path.{◌≡◌, refl, sym, ap, ap₂, subst₂, ◌∙◌}
use lib.ListN.{length, get_or, take, drop, take-append-drop}
use lib.Seq.{get_or-take}
use lib.Dec.{ltb}
use borrow.Author.Tests.{ltb-true, lt-ltb}
use Rattle.laws.proofs.laws.Choice.{look, and_left}
use Rattle.laws.specs.Place.{In}
use Rattle.house.specs.Limits.{least_tray}
use Rattle.house.specs.Pairs.{box_no}
use Rattle.house.specs.Plan.{boxes_of, is_job, plan_sound}
use Rattle.house.proofs.laws.Says.{some_box}
use Rattle.house.specs.declared.Plan.{Plan}
use Rattle.house.specs.declared.Order.{Order}
use Rattle.house.specs.declared.Order.TheVariants.{Post, Stand, Retry, Cut, Carry}
use Rattle.records.proofs.laws.Lengths.{Arrays}
use Rattle.records.specs.Rec.{Rec, carried, sender_of, addressee_of}
use Rattle.records.specs.Bytes.{encode, encode_all}
use Rattle.spelling.proofs.laws.Round.{parse_encode, encode_shaped}
use Rattle.boxes.specs.Box.{fresh}
use Rattle.boxes.specs.Sound.{sound}
use Rattle.boxes.specs.Out.{does, guard}
use Rattle.boxes.specs.Post.{posts}
use Rattle.boxes.specs.Step.{takes, receives, stood, retried, cut_off}
use Rattle.boxes.specs.declared.BoxState.{BoxState}
use Rattle.stays_sound.proofs.laws.Sends.{Good}
use Rattle.world.specs.World as Worlds
use Rattle.world.specs.World.{World, box_at, record_at}
use Rattle.world.proofs.laws.Reached.{Reached, record_good, record_box}
use Rattle.post.specs.Posting.{room_of, start_of, bytes_from, to_box}
use Rattle.rehearsal.specs.Night as Nights
use Rattle.rehearsal.specs.Night.{box_in, if_fits}
use Rattle.rehearsal.specs.declared.Night.{Night}
use Rattle.rehearsed.proofs.laws.Walk.{inside, to_is, bytes_are}

-- ---- side by side

-- the plan's boxes are the world's; the used bytes are those of the world's records
pub record Same (P : Plan) (n : Night) (s : List ℕ) (w : World) : Type 0 where
  pub boxes : take (boxes_of P) n.boxes ≡ w.boxes
  pub twelve : length n.boxes ≡ 12
  pub used : n.used ≡ length (encode_all P w.post)
  pub bytes : take n.used s ≡ encode_all P w.post
  pub fits : n.used ≤ room_of s

-- ---- a record's bytes given to a box

-- bytes of a good record are that record, so the box's checks 2 and 3 pass
pub receives_takes : (P : Plan) (x : BoxState) (m : Rec) → plan_sound P ≡ true → sound P x ≡ true → Good P (sender_of m) m
    → receives P x least_tray (encode P (carried m)) ≡ takes P x least_tray (carried m)
unfolding receives guard
receives_takes P x m p s g =
    let A = g.sized in
    rw (s, encode_shaped P (carried m) p A g.is_valid, parse_encode P (carried m) p A g.is_valid)

-- ---- an order

module _ {P : Plan} {n : Night} {s : List ℕ} {w : World} (R : Reached P w) (S : Same P n s w) where
  rest : List ℕ
  rest = drop n.used s

  split : s ≡ encode_all P w.post ++ rest
  unfolding rest
  split = sym (take-append-drop n.used s) ∙ ap (λ (x : List ℕ). x ++ drop n.used s) S.bytes

  sized : (m : Rec) → In m w.post → Arrays (carried m)
  sized m i = (R.good m i).sized

  -- what holds of the records' bytes holds of the post
  over : (Q : List ℕ → ℕ → Type 0) → Q (encode_all P w.post ++ rest) (length (encode_all P w.post)) → Q s n.used
  over Q q = subst₂ Q (sym split) (sym S.used) q

  pub inside_same : (k : ℕ) → ltb (start_of P s n.used k) n.used ≡ ltb k (length w.post)
  inside_same k = over (λ x u. ltb (start_of P x u k) u ≡ ltb k (length w.post)) (inside P w.post rest R.plan sized k)

  pub to_same : (k : ℕ) → k < length w.post → to_box s (start_of P s n.used k) ≡ (addressee_of (record_at w k)).0
  to_same k l = over (λ x u. to_box x (start_of P x u k) ≡ (addressee_of (record_at w k)).0) (to_is P w.post rest R.plan sized k l)

  pub bytes_same : (k : ℕ) → k < length w.post → bytes_from P s (start_of P s n.used k) ≡ encode P (carried (record_at w k))
  bytes_same k l = over (λ x u. bytes_from P x (start_of P x u k) ≡ encode P (carried (record_at w k))) (bytes_are P w.post rest R.plan sized k l)

  pub box_same : (p : ℕ) → p < boxes_of P → box_in n p ≡ box_at w p
  unfolding box_in
  box_same p l = sym (get_or-take (boxes_of P) n.boxes p (fresh (box_no 0)) l) ∙ ap (λ (x : List BoxState). get_or x p (fresh (box_no 0))) S.boxes

  -- there is such a box, job or record in both
  pub exists_same : (o : Order) → Nights.exists P n s o ≡ Worlds.exists P w o
  unfolding Nights.exists Worlds.exists
  exists_same (Post j) = refl
  exists_same (Stand p) = refl
  exists_same (Retry p j) = refl
  exists_same (Cut p) = refl
  exists_same (Carry k) = go (look (ltb k (length w.post)))
    where
      go : (ltb k (length w.post) ≡ true) ⊎ (ltb k (length w.post) ≡ false)
          → (ltb (start_of P s n.used k) n.used && ltb (to_box s (start_of P s n.used k)) (boxes_of P)) ≡ ltb k (length w.post)
      go (inl e) =
          let l = ltb-true k (length w.post) e in rw (inside_same k, e, to_same k l) (lt-ltb (addressee_of (record_at w k)).0 (boxes_of P) (record_box R k l))
      go (inr e) = rw (inside_same k, e)

  -- it is the same box's order
  pub whose_same : (o : Order) → Worlds.exists P w o ≡ true → Nights.whose P n s o ≡ Worlds.whose w o
  unfolding Nights.whose Worlds.whose Worlds.exists
  whose_same (Post j) e = refl
  whose_same (Stand p) e = refl
  whose_same (Retry p j) e = refl
  whose_same (Cut p) e = refl
  whose_same (Carry k) e = to_same k (ltb-true k (length w.post) e)

  -- and the box does the same
  pub acts_same : (o : Order) → Worlds.exists P w o ≡ true → Nights.acts P n s o ≡ Worlds.acts P w o
  unfolding Nights.acts Worlds.acts Worlds.exists Nights.whose
  acts_same (Post j) e = ap (λ (x : BoxState). does x (posts P j) None) (box_same 0 (some_box P R.plan))
  acts_same (Stand p) e = ap (λ (x : BoxState). stood P x least_tray) (box_same p (ltb-true p (boxes_of P) e))
  acts_same (Retry p j) e =
      ap (λ (x : BoxState). retried P x j least_tray) (box_same p (ltb-true p (boxes_of P) (and_left (ltb p (boxes_of P)) (is_job P j) e)))
  acts_same (Cut p) e = ap (λ (x : BoxState). cut_off P x) (box_same p (ltb-true p (boxes_of P) e))
  acts_same (Carry k) e =
      let l = ltb-true k (length w.post) e in let m = record_at w k in let b = record_box R k l in
      ap₂ (λ (x : BoxState) (y : List ℕ). receives P x least_tray y) (ap (box_in n) (to_same k l) ∙ box_same (addressee_of m).0 b) (bytes_same k l)
      ∙ receives_takes P (box_at w (addressee_of m).0) m R.plan (R.box (addressee_of m).0 b).is_sound (record_good R k l)

  -- the rehearsal is that world with refusal 12
  pub given_same : (o : Order) → Nights.given P n s o ≡ if_fits P n s (Worlds.given P w o)
  unfolding Nights.given Worlds.given guard
  given_same o = go (look (Worlds.exists P w o))
    where
      go : (Worlds.exists P w o ≡ true) ⊎ (Worlds.exists P w o ≡ false)
          → guard (plan_sound P) NotSound (guard (Nights.exists P n s o) NoSuch (if_fits P n s (Nights.acts P n s o)))
          ≡ if_fits P n s (guard (plan_sound P) NotSound (guard (Worlds.exists P w o) NoSuch (Worlds.acts P w o)))
      go (inl e) = rw (R.plan, exists_same o, e, acts_same o e)
      go (inr e) = rw (R.plan, exists_same o, e)
