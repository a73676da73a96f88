-- The plan drawn is sound exactly if the numbers typed are, however large they are and however many: a byte of 255 and a count of 65
-- stand for all that is larger, and are unsound as well.
use Prim.Native.Nat.{ℕ, ◌+◌, ◌-◌, ◌^◌, ◌<◌, ◌≤◌}
use mathlib.Core.Bool.{Bool, true, false, ◌&&◌}
use mathlib.Core.List.{List, [], ◌∷◌, ◌++◌, foldl, map, append_assoc, append-nil}
use mathlib.Core.Path.{◌≡◌, refl, sym, ap, ◌∙◌}
use native.Mathlib.Nat.{zero-add}
use native.Mathlib.Omega.{arith}
use lib.ListN.{length, get_or, replicate, length-map, length-append, get_or-append, get_or-map}
use lib.Dec.{leb, ltb}
use lib.Pow.{pow_mono}
use borrow.Author.Tests.{leb-true, leb-false, le-leb, lt-leb, le-ltb}
use Rattle.laws.specs.Choice.{pick}
use Rattle.laws.proofs.laws.Choice.{pick_true, pick_false, and_left, and_right}
use Rattle.laws.specs.Fold.{all_below}
use Rattle.laws.proofs.laws.Fold.{upto_same}
use Rattle.laws.proofs.laws.Codec.{fill_step}
use Rattle.house.specs.Limits.{most_districts, most_jobs}
use Rattle.house.specs.Plan.{mask_sound, counts_sound, masks_sound, plan_sound}
use Rattle.house.specs.declared.Plan.{Plan}
use Rattle.session.specs.Desk.{capped, no_plan, empty_desk, with_districts, one_job, with_job}
use Rattle.session.specs.declared.Desk.{Desk}

-- 1 to 4 districts, 1 to 64 jobs, and each mask names districts 0 to G - 1, at least one
unfoldable pub typed_sound : ℕ → List ℕ → Bool
typed_sound g masks =
    ((leb 1 g && leb g most_districts) && (leb 1 (length masks) && leb (length masks) most_jobs))
    && all_below (λ j. mask_sound g (get_or masks j 0)) (length masks)

-- the desk after `districts g` and a `job` line for each mask, all in place
unfoldable pub typed : ℕ → List ℕ → Desk
typed g masks = foldl with_job (with_districts empty_desk g) masks

-- ---- a number as a byte

capped_low : (n : ℕ) → leb 255 n ≡ false → capped n ≡ n
unfolding capped
capped_low n e = pick_false _ _ e

capped_high : (n : ℕ) → leb 255 n ≡ true → capped n ≡ 255
unfolding capped
capped_high n e = pick_true _ _ e

districts_same : (g : ℕ) → leb 1 (capped g) && leb (capped g) most_districts ≡ leb 1 g && leb g most_districts
districts_same g = go (leb 255 g) refl
  where
    go : (t : Bool) → leb 255 g ≡ t → leb 1 (capped g) && leb (capped g) most_districts ≡ leb 1 g && leb g most_districts
    go false e = rw (capped_low g e)
    go true e =
        let h : 255 ≤ g = leb-true 255 g e in
        rw (capped_high g e, le-leb 1 g (omega arith), lt-leb g most_districts (omega arith))

mask_same : (g m : ℕ) → g ≤ 4 → mask_sound g (capped m) ≡ mask_sound g m
unfolding mask_sound
mask_same g m k = go (leb 255 m) refl
  where
    go : (t : Bool) → leb 255 m ≡ t → leb 1 (capped m) && ltb (capped m) (2 ^ g) ≡ leb 1 m && ltb m (2 ^ g)
    go false e = rw (capped_low m e)
    go true e =
        let h : 255 ≤ m = leb-true 255 m e in
        let p : 2 ^ g ≤ 16 = pow_mono k in
        rw (capped_high m e, le-leb 1 m (omega arith), le-ltb m (2 ^ g) (omega arith), le-ltb 255 (2 ^ g) (omega arith))

-- ---- up to 64 jobs

-- the plan with these masks
abbrev filled : ℕ → List ℕ → Plan
filled g l = record { districts = capped g; jobs = length l; masks = map capped l ++ replicate (64 - length l) 0 }

map_snoc : (l : List ℕ) (m : ℕ) → map capped l ++ (capped m ∷ []) ≡ map capped (l ++ (m ∷ []))
map_snoc [] m = refl
map_snoc (x ∷ l) m = ap (λ (r : List ℕ). capped x ∷ r) (map_snoc l m)

one_more : (g : ℕ) (l : List ℕ) (m : ℕ) → length l < 64 → one_job (filled g l) m ≡ filled g (l ++ (m ∷ []))
unfolding one_job
one_more g l m h =
    let k : length (l ++ (m ∷ [])) ≡ length l + 1 = length-append l (m ∷ []) in
    pick_false _ _ (lt-leb most_jobs (length l) (omega arith))
    ∙ rw (k, fill_step (map capped l) 64 (length l) 0 (capped m) (length-map l capped) h, map_snoc l m)

all_filled : (g : ℕ) (more l : List ℕ) → length l + length more ≤ 64 → foldl one_job (filled g l) more ≡ filled g (l ++ more)
all_filled g [] l h = ap (filled g) (sym (append-nil l))
all_filled g (m ∷ more) l h =
    let k : length (l ++ (m ∷ [])) ≡ length l + 1 = length-append l (m ∷ []) in
    ap (λ (P : Plan). foldl one_job P more) (one_more g l m (omega arith))
    ∙ all_filled g more (l ++ (m ∷ [])) (omega arith)
    ∙ ap (filled g) (append_assoc l (m ∷ []) more)

-- ---- more than 64 jobs

one_count : (P : Plan) (m : ℕ) → P.jobs < 64 → (one_job P m).jobs ≡ P.jobs + 1
unfolding one_job
one_count P m h = ap (λ (Q : Plan). Q.jobs) (pick_false _ _ (lt-leb most_jobs P.jobs h))

one_over : (P : Plan) (m : ℕ) → 64 ≤ P.jobs → (one_job P m).jobs ≡ 65
unfolding one_job
one_over P m h = ap (λ (Q : Plan). Q.jobs) (pick_true _ _ (le-leb most_jobs P.jobs h))

all_over : (more : List ℕ) (P : Plan) → P.jobs ≤ 65 → 64 < P.jobs + length more → (foldl one_job P more).jobs ≡ 65
all_over [] P h k = omega arith
all_over (m ∷ more) P h k = go (leb 64 P.jobs) refl (all_over more (one_job P m))
  where
    go : (t : Bool) → leb 64 P.jobs ≡ t → ((one_job P m).jobs ≤ 65 → 64 < (one_job P m).jobs + length more → (foldl one_job (one_job P m) more).jobs ≡ 65)
        → (foldl one_job (one_job P m) more).jobs ≡ 65
    go true e r = let c = one_over P m (leb-true 64 P.jobs e) in r (omega arith) (omega arith)
    go false e r = let b = leb-false 64 P.jobs e in let c = one_count P m b in r (omega arith) (omega arith)

-- ---- sound exactly if typed so

and_same : (a b c d : Bool) → a ≡ b → (b ≡ true → c ≡ d) → a && c ≡ b && d
and_same a true c d p q = rw p (q refl)
and_same a false c d p q = rw p

first_fails : (a b c : Bool) → b ≡ false → (a && b) && c ≡ false
first_fails true b c e = rw e
first_fails false b c e = refl

at_mapped : (l : List ℕ) (j : ℕ) → get_or (map capped l) j 0 ≡ capped (get_or l j 0)
unfolding capped pick
at_mapped l j = get_or-map capped l j 0

masks_same : (g : ℕ) (l : List ℕ) → g ≤ 4 → masks_sound (filled g l) (length l) ≡ all_below (λ j. mask_sound g (get_or l j 0)) (length l)
unfolding masks_sound all_below
masks_same g l h =
    upto_same
    (λ (ok : Bool) (j : ℕ). ok && mask_sound (capped g) (get_or (map capped l ++ replicate (64 - length l) 0) j 0))
    (λ (ok : Bool) (j : ℕ). ok && mask_sound g (get_or l j 0))
    true
    (length l)
    (λ ok j k. ap (λ (t : Bool). ok && t) (one j k))
  where
    one : (j : ℕ) → j < length l → mask_sound (capped g) (get_or (map capped l ++ replicate (64 - length l) 0) j 0) ≡ mask_sound g (get_or l j 0)
    one j k =
        rw (
          get_or-append (map capped l) (replicate (64 - length l) 0) 0 j (rw (length-map l capped) k),
          at_mapped l j,
          capped_low g (lt-leb 255 g (omega arith)),
        )
        (mask_same g (get_or l j 0) h)

-- the desk's plan is made of the jobs, one after the other
plan_typed : (masks : List ℕ) (d : Desk) → (foldl with_job d masks).plan ≡ foldl one_job d.plan masks
plan_typed [] d = refl
plan_typed (m ∷ masks) d = plan_typed masks (with_job d m)

few : (g : ℕ) (l : List ℕ) → length l ≤ 64 → plan_sound (foldl one_job (filled g []) l) ≡ typed_sound g l
unfolding plan_sound counts_sound typed_sound
few g l h =
    let t : Bool = leb 1 (length l) && leb (length l) most_jobs in
    ap plan_sound (all_filled g l [] (rw zero-add h))
    ∙ and_same _ _ _ _ (ap (λ (b : Bool). b && t) (districts_same g))
    (λ e. masks_same g l (leb-true g most_districts (and_right (leb 1 g) (leb g most_districts) (and_left (leb 1 g && leb g most_districts) t e))))

many : (g : ℕ) (l : List ℕ) → 64 < length l → plan_sound (foldl one_job (filled g []) l) ≡ typed_sound g l
unfolding plan_sound counts_sound typed_sound
many g l h =
    let P = foldl one_job (filled g []) l in
    let c : P.jobs ≡ 65 = all_over l (filled g []) (omega arith) (rw zero-add h) in
    let x : (leb 1 P.jobs && leb P.jobs most_jobs) ≡ false = rw c in
    let y : (leb 1 (length l) && leb (length l) most_jobs) ≡ false = rw (le-leb 1 (length l) (omega arith), lt-leb (length l) most_jobs h) in
    first_fails (leb 1 P.districts && leb P.districts most_districts) (leb 1 P.jobs && leb P.jobs most_jobs) (masks_sound P P.jobs) x
    ∙ sym (first_fails (leb 1 g && leb g most_districts) (leb 1 (length l)
    && leb (length l) most_jobs) (all_below (λ j. mask_sound g (get_or l j 0)) (length l)) y)

pub sound_as_typed : (g : ℕ) (masks : List ℕ) → plan_sound (typed g masks).plan ≡ typed_sound g masks
unfolding typed
sound_as_typed g masks = ap plan_sound (plan_typed masks (with_districts empty_desk g)) ∙ go (leb (length masks) 64) refl
  where
    go : (t : Bool) → leb (length masks) 64 ≡ t → plan_sound (foldl one_job (filled g []) masks) ≡ typed_sound g masks
    go true e = few g masks (leb-true (length masks) 64 e)
    go false e = many g masks (leb-false (length masks) 64 e)

-- without a `districts` line the plan isn't sound
pub none_unsound : plan_sound no_plan ≡ false
unfolding plan_sound counts_sound
none_unsound = refl
