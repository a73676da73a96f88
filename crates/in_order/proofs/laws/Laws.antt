-- General laws that the proof misses below: stamps' times, the largest kept stamp, raised clocks, pairs of numbers of the kept places.
-- They speak of definitions of lower rooms, and of no world.
use Prim.Native.Nat.{ℕ, zero, suc, ◌*◌, ◌≤◌, ◌<◌}
use mathlib.Core.Bool.{Bool, true, false}
use mathlib.Core.Logic.{◌⊎◌, inl, inr, ◌≢◌, ⊎_elim}
use mathlib.Core.Path.{◌≡◌, refl, ap, ◌∙◌}
use native.Mathlib.Decide.{ℕ_discrete}
use native.Mathlib.Nat.{eq-or-lt_of_le}
use native.Mathlib.Omega.{arith}
use lib.Dec.{ltb}
use lib.ListN.{get_or, replicate}
use borrow.Author.Tests.{ltb-true, ltb-false}
use Rattle.laws.proofs.laws.Choice.{look, never, pick_when, or_fails, pick_true}
use Rattle.laws.specs.Lex.{Three, less, same, more, larger}
use Rattle.laws.proofs.laws.Lex.{larger_left, larger_right, lex_below, Below, first, second}
use Rattle.house.specs.Limits.{most_districts, most_jobs}
use Rattle.house.specs.Pairs.{district, box_no, no_stamp, no_ballot, stamp_lt, later_stamp, is_no_ballot}
use Rattle.house.proofs.laws.Orders.{stamp_order, no_ballot_says}
use Rattle.house.specs.declared.Stamp.{Stamp}
use Rattle.house.specs.declared.Ballot.{Ballot}
use Rattle.house.specs.declared.BoxNo.{BoxNo}
use Rattle.house.specs.declared.District.{District}
use Rattle.house.specs.Plan.{names}
use Rattle.house.specs.declared.Plan.{Plan}
use Rattle.boxes.specs.Box.{kept_at, kept_ballot, kept_stamp, raised}
use Rattle.boxes.specs.Accept.{latest_kept, kept_for, kept_vector}
use Rattle.boxes.specs.declared.BoxState.{BoxState}
use Rattle.in_order.proofs.laws.Compare.{Sooner, Until, le_le}

-- a place of a list of one value
pub one_value : {A : Type 0} (n i : ℕ) (a : A) → get_or (replicate n a) i a ≡ a
one_value zero i a = refl
one_value (suc n) zero a = refl
one_value (suc n) (suc i) a = one_value n i a

-- ---- times and numbers

pub until_time : {s t : Stamp} → Until s t → s.time ≤ t.time
unfolding stamp_lt
until_time {s} {t} h = ltb-false t.time s.time (or_fails (ltb t.time s.time) _ h.says).0

pub sooner_time : {s t : Stamp} → Sooner s t → s.time ≤ t.time
unfolding stamp_lt
sooner_time {s} {t} h = go (lex_below s.time s.district.0 t.time t.district.0 h.says)
  where
    go : Below s.time s.district.0 t.time t.district.0 → s.time ≤ t.time
    go (first k) = omega arith
    go (second e k) = omega arith

-- a real ballot is not none
pub real_some : (b : Ballot) → 1 ≤ b.number → is_no_ballot b ≡ false
real_some b h = go (look (is_no_ballot b))
  where
    go : (is_no_ballot b ≡ true) ⊎ (is_no_ballot b ≡ false) → is_no_ballot b ≡ false
    go (inl e) = let q : b.number ≡ 0 = ap (λ (c : Ballot). c.number) (no_ballot_says b e) in absurd (omega arith)
    go (inr e) = e

-- one box or another
pub box_ne : {p q : BoxNo} → p ≢ q → p.0 ≢ q.0
box_ne n e = n (ap box_no e)

pub same_box : (p q : BoxNo) → Dec (p ≡ q)
same_box p q = go (ℕ_discrete p.0 q.0)
  where
    go : Dec (p.0 ≡ q.0) → Dec (p ≡ q)
    go (yes e) = yes (ap box_no e)
    go (no n) = no (λ e. n (ap (λ (b : BoxNo). b.0) e))

-- ---- clocks

pub raised_left : (c t : ℕ) → c ≤ raised c t
unfolding raised
raised_left c t = pick_when (λ x. c ≤ x) (ltb c t) (λ h. let l = ltb-true c t h in omega arith) (λ h. omega arith)

pub raised_right : (c t : ℕ) → t ≤ raised c t
unfolding raised
raised_right c t = pick_when (λ x. t ≤ x) (ltb c t) (λ h. omega arith) (λ h. ltb-false c t h)

-- ---- the largest kept stamp

pub data Latest (P : Plan) (x : BoxState) (j n : ℕ) (s : Stamp) : Type 0 where
  nowhere : ((d : ℕ) → d < n → names P j (district d) ≡ false) → s ≡ no_stamp → Latest P x j n s
  somewhere : (d : ℕ) → d < n → names P j (district d) ≡ true → s ≡ kept_stamp x j (district d) → Latest P x j n s

pub more_below : {n : ℕ} {A : ℕ → Type 0} → ((k : ℕ) → k < n → A k) → A n → (k : ℕ) → k < suc n → A k
more_below {n} f a k l = ⊎_elim (λ (e : k ≡ n). rw e a) (λ (h : k < n). f k h) (eq-or-lt_of_le {n = k} {m = n} (omega arith))

-- the larger of two is one of them
pub larger_one : {A : Type 0} (lt : A → A → Bool) (a b : A) → (larger lt a b ≡ a) ⊎ (larger lt a b ≡ b)
unfolding larger
larger_one lt a b = pick_when (λ c. (c ≡ a) ⊎ (c ≡ b)) (lt a b) (λ h. inr refl) (λ h. inl refl)

none_first : (b : Stamp) → later_stamp no_stamp b ≡ b
unfolding larger
none_first b = pick_when (λ c. c ≡ b) (stamp_lt no_stamp b) (λ h. refl) (λ h. go h (stamp_order.three no_stamp b))
  where
    go : stamp_lt no_stamp b ≡ false → Three Stamp stamp_lt no_stamp b → no_stamp ≡ b
    go h (less k) = never k h
    go h (same e) = e
    go h (more k) = never k (stamp_order.lowest b)

pub latest_is : (P : Plan) (x : BoxState) (j n : ℕ) → Latest P x j n (latest_kept P x j n)
unfolding latest_kept
latest_is P x j zero = nowhere (λ d l. absurd (omega arith)) refl
latest_is P x j (suc n) =
    let s = latest_kept P x j n in
    let k = kept_stamp x j (district n) in
    pick_when
    (λ c. Latest P x j (suc n) c)
    (names P j (district n))
    (λ t. here t (latest_is P x j n) (larger_one stamp_lt s k))
    (λ t. there t (latest_is P x j n))
  where
    here : names P j (district n) ≡ true → Latest P x j n (latest_kept P x j n)
        →
        (later_stamp (latest_kept P x j n) (kept_stamp x j (district n)) ≡ latest_kept P x j n)
        ⊎
        (later_stamp (latest_kept P x j n) (kept_stamp x j (district n)) ≡ kept_stamp x j (district n))
        → Latest P x j (suc n) (later_stamp (latest_kept P x j n) (kept_stamp x j (district n)))
    here t (nowhere f e) _ = somewhere n (omega arith) t (rw e (none_first (kept_stamp x j (district n))))
    here t (somewhere d l q e) (inl h) = somewhere d (omega arith) q (h ∙ e)
    here t (somewhere d l q e) (inr h) = somewhere n (omega arith) t h

    there : names P j (district n) ≡ false → Latest P x j n (latest_kept P x j n) → Latest P x j (suc n) (latest_kept P x j n)
    there t (nowhere f e) = nowhere (more_below f t) e
    there t (somewhere d l q e) = somewhere d (omega arith) q e

pub latest_most : (P : Plan) (x : BoxState) (j n d : ℕ) → d < n → names P j (district d) ≡ true → Until (kept_stamp x j (district d)) (latest_kept P x j n)
unfolding latest_kept
latest_most P x j zero d l t = absurd (omega arith)
latest_most P x j (suc n) d l t =
    let s = latest_kept P x j n in
    let k = kept_stamp x j (district n) in
    ⊎_elim
    (λ (e : d ≡ n). rw (e, pick_true (later_stamp s k) s (rw e at t)) (record { says = larger_right stamp_order s k }))
    (λ (h : d < n). pick_when (λ c. Until (kept_stamp x j (district d)) c) (names P j (district n))
    (λ _. le_le stamp_order (latest_most P x j n d h t) (record { says = larger_left stamp_order s k })) (λ _. latest_most P x j n d h t))
    (eq-or-lt_of_le {n = d} {m = n} (omega arith))

-- ---- the places of kept ACCEPTs

pub kept_place_lem : (j : ℕ) (d : District) → j < most_jobs → d.0 < most_districts → kept_at j d < most_jobs * most_districts
unfolding kept_at
kept_place_lem j d lj ld = omega arith

pub kept_apart : (j k : ℕ) (d e : District) → d.0 < most_districts → e.0 < most_districts → kept_at j d ≡ kept_at k e → (j ≡ k) × (d.0 ≡ e.0)
unfolding kept_at
kept_apart j k d e ld le q = let a : j ≡ k = omega arith in (a, omega arith)

-- ---- the vector of an acknowledgement

pub vector_at : (P : Plan) (x : BoxState) (j : ℕ) (d : District) → d.0 < most_districts → names P j d ≡ true
    → get_or (kept_vector P x j) d.0 no_ballot ≡ kept_ballot x j d
unfolding kept_vector kept_for
vector_at P x j d l n = go d.0 l refl
  where
    entry : kept_for P x j d.0 ≡ kept_ballot x j d
    entry = pick_true (kept_ballot x j d) no_ballot n

    go : (i : ℕ) → i < most_districts → i ≡ d.0 → get_or (kept_vector P x j) i no_ballot ≡ kept_ballot x j d
    go zero l e = ap (kept_for P x j) e ∙ entry
    go (suc zero) l e = ap (kept_for P x j) e ∙ entry
    go (suc (suc zero)) l e = ap (kept_for P x j) e ∙ entry
    go (suc (suc (suc zero))) l e = ap (kept_for P x j) e ∙ entry
    go (suc (suc (suc (suc i)))) l e = absurd (omega arith)
