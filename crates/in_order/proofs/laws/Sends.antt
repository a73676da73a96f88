-- Records that a step sends: which they are, and that one to each box that is meant is among them.
-- And small laws of guards and of unlike records that the view and the origins use.
use Rattle.std.specs.Prelude.{Option}
use Prim.Native.Nat.{ℕ, zero, suc, ◌<◌}
use mathlib.Core.Bool.{Bool, true}
use mathlib.Core.List.{List, [], ◌∷◌, ◌++◌}
use mathlib.Core.Logic.{◌⊎◌, inl, inr, ⊎_elim}
use mathlib.Core.Path.{◌≡◌, refl}
use native.Mathlib.Nat.{eq-or-lt_of_le}
use native.Mathlib.Omega.{arith}
use Rattle.laws.specs.Choice.{pick}
use Rattle.laws.proofs.laws.Choice.{pick_true, pick_cases}
use Rattle.laws.specs.Fold.{upto}
use Rattle.laws.specs.Place.{In}
use Rattle.laws.proofs.laws.Place.{in_nil, in_one, in_cases, in_left, in_right}
use Rattle.house.specs.Pairs.{box_no}
use Rattle.house.specs.declared.BoxNo.{BoxNo}
use Rattle.house.specs.Plan.{boxes_of}
use Rattle.house.specs.declared.Plan.{Plan}
use Rattle.records.specs.Rec.{Rec}
use Rattle.boxes.specs.Out.{does, to_each}
use Rattle.boxes.specs.declared.BoxState.{BoxState}

-- any goal from two unlike constructors
pub clash : {A : Type 0} → ◌≡◌ {A = ℕ} 0 1 → A
clash z = absurd (omega arith)

pub does_box : {a x : BoxState} {b l : List Rec} {c d : Option ℕ} → does a b c ≡ does x l d → x ≡ a
does_box e = cc

pub does_sent : {a x : BoxState} {b l : List Rec} {c d : Option ℕ} → does a b c ≡ does x l d → l ≡ b
does_sent e = cc

-- a record sent: to box q, which is meant
pub record SentTo (P : Plan) (meant : BoxNo → Bool) (f : BoxNo → Rec) (r : Rec) : Type 0 where
  pub to : BoxNo
  pub known : to.0 < boxes_of P
  pub meant_it : meant to ≡ true
  pub is : r ≡ f to

module _ (meant : BoxNo → Bool) (f : BoxNo → Rec) where
  -- the records to the boxes below n
  each_below : ℕ → List Rec
  each_below n = upto (λ l p. l ++ pick (meant (box_no p)) (f (box_no p) ∷ []) []) [] n

  one_of : (q : BoxNo) {r : Rec} → In r (pick (meant q) (f q ∷ []) []) → (meant q ≡ true) × (r ≡ f q)
  one_of q {r} h = pick_cases (meant q) (f q ∷ []) [] refl (λ t e. (t, in_one (rw (← e) at h))) (λ t e. absurd (in_nil (rw (← e) at h)))

  in_below : (n : ℕ) {r : Rec} → In r (each_below n) → (q : BoxNo) × (q.0 < n) × (meant q ≡ true) × (r ≡ f q)
  unfolding each_below
  in_below zero h = absurd (in_nil h)
  in_below (suc n) {r} h = go (in_cases (each_below n) (pick (meant (box_no n)) (f (box_no n) ∷ []) []) h) (λ k. in_below n k)
    where
      go : In r (each_below n) ⊎ In r (pick (meant (box_no n)) (f (box_no n) ∷ []) [])
          → (In r (each_below n) → (q : BoxNo) × (q.0 < n) × (meant q ≡ true) × (r ≡ f q))
          → (q : BoxNo) × (q.0 < suc n) × (meant q ≡ true) × (r ≡ f q)
      go (inl i) g = let z = g i in let l = z.1 in (z.0, omega arith, z.2, z.3)
      go (inr i) g = let z = one_of (box_no n) i in (box_no n, omega arith, z.0, z.1)

  below_in : (n : ℕ) (q : BoxNo) → q.0 < n → meant q ≡ true → In (f q) (each_below n)
  unfolding each_below
  below_in zero q l t = absurd (omega arith)
  below_in (suc n) q l t =
      ⊎_elim
      (λ (e : q.0 ≡ n). in_right (each_below n) _ (rw (← e, pick_true (f q ∷ []) [] t) (record { place = 0; there = refl })))
      (λ b. in_left (each_below n) _ (below_in n q b t))
      (eq-or-lt_of_le {n = q.0} {m = n} (omega arith))

pub in_each : {P : Plan} {meant : BoxNo → Bool} {f : BoxNo → Rec} {r : Rec} → In r (to_each P meant f) → SentTo P meant f r
unfolding to_each each_below
in_each {P} {meant} {f} h = let z = in_below meant f (boxes_of P) h in record { to = z.0; known = z.1; meant_it = z.2; is = z.3 }

pub each_in : (P : Plan) (meant : BoxNo → Bool) (f : BoxNo → Rec) (q : BoxNo) → q.0 < boxes_of P → meant q ≡ true → In (f q) (to_each P meant f)
unfolding to_each each_below
each_in P meant f q l t = below_in meant f (boxes_of P) q l t
