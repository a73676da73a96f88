-- Laws of what specs/Alone.antt defines.
use Prim.Native.Nat.{ℕ, ◌+◌, ◌<◌}
use mathlib.Core.Bool.{Bool, true, false, ◌&&◌}
use mathlib.Core.List.{List}
use mathlib.Core.Logic.{◌⊎◌, ⊎_elim}
use mathlib.Core.Path.{◌≡◌, refl, sym, ap, ◌∙◌}
use native.Mathlib.Omega.{arith}
use lib.ListN.{length, get_or}
use lib.Dec.{ltb}
use borrow.Author.Tests.{ltb-true}
use Rattle.house.specs.Limits.{most_boxes}
use Rattle.laws.proofs.laws.Choice.{and_left, and_right}
use Rattle.laws.proofs.laws.Place.{at_get_d_lem, get_d_at_is_lem}
use Rattle.house.specs.Pairs.{box_no}
use Rattle.house.specs.Plan.{boxes_of, is_job, plan_sound}
use Rattle.house.proofs.laws.Says.{boxes_most}
use Rattle.house.specs.declared.Plan.{Plan}
use Rattle.house.specs.declared.Order.{Order}
use Rattle.house.specs.declared.Order.TheVariants.{Post, Stand, Retry, Cut, Carry}
use Rattle.records.specs.declared.answers.Refusal.{Refusal}
use Rattle.records.specs.declared.answers.Refusal.TheVariants.{NotSound, NoSuch}
use Rattle.post.specs.Posting.{start_of, to_box}
use Rattle.post.specs.Index.{Indexed}
use Rattle.post.specs.declared.Index.{Index}
use Rattle.boxes.specs.Box.{fresh}
use Rattle.boxes.specs.Out.{Out, does, guard}
use Rattle.boxes.specs.declared.BoxState.{BoxState}
use Rattle.rehearsal.specs.Night.{box_in, whose, exists, acts, fitting, if_fits, given}
use Rattle.rehearsal.specs.declared.Night.{Night}
use Rattle.rehearsal.specs.declared.exists.Place.{Place}
use Rattle.rehearsal.specs.Alone.{Stands, here, acts_on, alone, Starts, Found}

-- a box of a night, whichever default
pub box_in_lem : (n : Night) (i : ℕ) (d : BoxState) → i < length n.boxes → get_or n.boxes i d ≡ box_in n i
unfolding box_in
box_in_lem n i d h = sym (get_d_at_is_lem n.boxes i (fresh (box_no 0)) (at_get_d_lem n.boxes i d h)) ∙ refl

-- ---- the night's own words say the same

-- whether there is such a box, job or record, and whether records fit, hangs on how much of the post is used
pub exists_is : (P : Plan) (n : Night) (s : List ℕ) (o : Order) → exists P n s o ≡ exists P (here n.used) s o
unfolding exists
exists_is P n s (Post j) = refl
exists_is P n s (Stand p) = refl
exists_is P n s (Retry p j) = refl
exists_is P n s (Cut p) = refl
exists_is P n s (Carry k) = refl

whose_is : (P : Plan) (n : Night) (s : List ℕ) (o : Order) → whose P n s o ≡ whose P (here n.used) s o
unfolding whose
whose_is P n s (Post j) = refl
whose_is P n s (Stand p) = refl
whose_is P n s (Retry p j) = refl
whose_is P n s (Cut p) = refl
whose_is P n s (Carry k) = refl

-- the box at the place that was found stands there
pub found_stands : (P : Plan) (fixed : Bool) (n : Night) (s : List ℕ) (o : Order) (index : Index) (r : Place) (later : Index)
    → Found P fixed n.used o s index r later
    → Stands P n.used (box_in n r.at) s o n r.at
found_stands P fixed n s o index r later F =
    record { used_is = refl; box_is = refl; asked = λ p h. F.asked p (sym (exists_is P n s o) ∙ h) ∙ sym (whose_is P n s o) }

pub fits_is : (P : Plan) (n : Night) (s : List ℕ) (o : Out) → if_fits P n s o ≡ if_fits P (here n.used) s o
unfolding fitting
fits_is P n s (Out.refused why) = refl
fits_is P n s (does x l d) = refl

-- a box in its place acts as it does alone
acts_is : (P : Plan) (n : Night) (at : ℕ) (s : List ℕ) (o : Order) → at ≡ whose P n s o → acts P n s o ≡ acts_on P n.used (box_in n at) s o
unfolding acts acts_on whose
acts_is P n at s (Post j) e = rw e
acts_is P n at s (Stand p) e = rw e
acts_is P n at s (Retry p j) e = rw e
acts_is P n at s (Cut p) e = rw e
acts_is P n at s (Carry k) e = rw e

under_both : (a b : Bool) (k m : Refusal) (o q : Out) → (a ≡ true → b ≡ true → o ≡ q) → guard a k (guard b m o) ≡ guard a k (guard b m q)
unfolding guard
under_both true true k m o q f = f refl refl
under_both true false k m o q f = refl
under_both false b k m o q f = refl

pub alone_is : (P : Plan) (used : ℕ) (x : BoxState) (s : List ℕ) (o : Order) (n : Night) (at : ℕ) → Stands P used x s o n at
    → given P n s o ≡ alone P used x s o
unfolding given
alone_is P used x s o n at S =
    let u = S.used_is in
    let e : exists P n s o ≡ exists P (here used) s o = exists_is P n s o ∙ ap (λ (v : ℕ). exists P (here v) s o) u in
    let f : (plan_sound P ≡ true) → (exists P n s o ≡ true) → if_fits P n s (acts P n s o) ≡ if_fits P (here used) s (acts_on P used x s o) =
    λ p h. ap (if_fits P n s) (acts_is P n at s o (S.asked p h)) ∙ fits_is P n s (acts_on P n.used (box_in n at) s o)
    ∙ ap (λ (v : ℕ). if_fits P (here v) s (acts_on P v (box_in n at) s o)) u ∙ ap (λ (y : BoxState). if_fits P (here used) s (acts_on P used y s o)) S.box_is in
    under_both (plan_sound P) (exists P n s o) NotSound NoSuch (if_fits P n s (acts P n s o)) (if_fits P (here used) s (acts_on P used x s o)) f
    ∙ ap (λ (b : Bool). guard (plan_sound P) NotSound (guard b NoSuch (if_fits P (here used) s (acts_on P used x s o)))) e

-- ---- the places that are found

pub starts_carry : (P : Plan) (s : List ℕ) (used k at : ℕ) → at ≡ start_of P s used k → Starts P s used (Carry k) at
starts_carry P s used k at e m q = let h : k ≡ m = cc in e ∙ ap (start_of P s used) h

pub found_as : {P : Plan} {fixed : Bool} {used : ℕ} {o p : Order} {s : List ℕ} {index later : Index} {r : Place} → o ≡ p
    → Found P fixed used p s index r later
    → Found P fixed used o s index r later
found_as e F = rw e F

-- a box below the plan's number of boxes has its own place
module _ (P : Plan) (r p : ℕ) (is : p < most_boxes → r ≡ p) where
  in_night : plan_sound P ≡ true → ltb p (boxes_of P) ≡ true → r ≡ p
  in_night s h = let l = ltb-true p (boxes_of P) h in let m = boxes_most P s in is (omega (arith, l, m))

  pub carry_asked : (used k : ℕ) (s : List ℕ) (start : ℕ) → start ≡ start_of P s used k → p ≡ get_or s (start + 3) 0
      → plan_sound P ≡ true → exists P (here used) s (Carry k) ≡ true → r ≡ whose P (here used) s (Carry k)
  unfolding whose exists to_box
  carry_asked used k s start es et sound h =
      let f : p ≡ get_or s (start_of P s used k + 3) 0 = et ∙ rw es in
      let q : (ltb (start_of P s used k) used && ltb p (boxes_of P)) ≡ true = rw f h in
      in_night sound (and_right (ltb (start_of P s used k) used) (ltb p (boxes_of P)) q) ∙ f

  -- an order that carries nothing
  module _ {fixed : Bool} {used : ℕ} {s : List ℕ} {index : Index} (I : Indexed P s used index.places.now index.last) where
    here_found : (o : Order) → r < most_boxes → ((k : ℕ) → o ≡ Carry k → ⊥)
        → (plan_sound P ≡ true → exists P (here used) s o ≡ true → r ≡ whose P (here used) s o)
        → Found P fixed used o s index (record { at = r; start = 0 }) index
    here_found o l n w = record { at_low = l; asked = w; start_low = omega arith; starts = λ k q. absurd (n k q); indexed = I; lent = refl; stays = λ h. refl }

    pub post_found : (j : ℕ) → r < most_boxes → p ≡ 0 → Found P fixed used (Post j) s index (record { at = r; start = 0 }) index
    unfolding whose
    post_found j l z = here_found (Post j) l (λ k q. let w : ◌≡◌ {A = ℕ} 0 1 = cc in omega arith) (λ h e. is (omega (arith, z)) ∙ z)

    stand_found : r < most_boxes → Found P fixed used (Stand p) s index (record { at = r; start = 0 }) index
    unfolding whose exists
    stand_found l = here_found (Stand p) l (λ k q. let w : ◌≡◌ {A = ℕ} 0 1 = cc in omega arith) (λ h e. in_night h e)

    retry_found : (j : ℕ) → r < most_boxes → Found P fixed used (Retry p j) s index (record { at = r; start = 0 }) index
    unfolding whose exists
    retry_found j l =
        here_found (Retry p j) l (λ k q. let w : ◌≡◌ {A = ℕ} 0 1 = cc in omega arith) (λ h e. in_night h (and_left (ltb p (boxes_of P)) (is_job P j) e))

    cut_found : r < most_boxes → Found P fixed used (Cut p) s index (record { at = r; start = 0 }) index
    unfolding whose exists
    cut_found l = here_found (Cut p) l (λ k q. let w : ◌≡◌ {A = ℕ} 0 1 = cc in omega arith) (λ h e. in_night h e)

    pub box_found : {o : Order} → r < most_boxes → (o ≡ Stand p) ⊎ (((j : ℕ) × (o ≡ Retry p j)) ⊎ (o ≡ Cut p))
        → Found P fixed used o s index (record { at = r; start = 0 }) index
    box_found l =
        ⊎_elim (λ e. found_as e (stand_found l)) (λ q. ⊎_elim (λ e. found_as e.1 (retry_found e.0 l)) (λ e. found_as e (cut_found l)) q)
