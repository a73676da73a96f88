-- Laws of what specs/Size.antt defines.
use Prim.Native.Nat.{ℕ, ◌+◌, ◌*◌, ◌≤◌}
use mathlib.Core.Bool.{true}
use mathlib.Core.List.{List, [], ◌∷◌}
use mathlib.Core.Path.{◌≡◌, refl, ◌∙◌}
use native.Mathlib.Nat.{mul-le-mul_right, suc-mul}
use native.Mathlib.Omega.{arith}
use lib.ListN.{length, length-append}
use Rattle.laws.specs.Choice.{pick}
use Rattle.laws.specs.Place.{In}
use Rattle.laws.proofs.laws.Place.{in_tail}
use Rattle.house.specs.Limits.{most_jobs}
use Rattle.house.specs.Plan.{size_of, plan_sound}
use Rattle.house.proofs.laws.Says.{plan_says}
use Rattle.house.specs.declared.Plan.{Plan}
use Rattle.records.specs.Format.{entry, or_plan, ballots_in, stamps_in, rows_in}
use Rattle.records.specs.Rec.{Rec, multicast, accept, accept_ack, deliver, newleader, newleader_ack, new_state, newstate_ack, unknown, carried}
use Rattle.records.specs.Bytes.{encode, encode_all, stamps_at, rows_at, length_of}
use Rattle.records.proofs.laws.Lengths.{Arrays, encode_length}
use Rattle.stays_sound.specs.Size.{longest_output}

-- the bytes of a record by kind: sections of 4, 3, 5 and 11 bytes an element, each after its count
abbrev pub size_of_rec : Plan → Rec → ℕ
size_of_rec P (multicast from to j) = 8
size_of_rec P (accept from to j y) = 16
size_of_rec P (accept_ack from to j bs) = 8 + P.districts * 3
size_of_rec P (deliver from to j y) = 21
size_of_rec P (newleader from to b) = 11
size_of_rec P (newleader_ack from to y) = 19 + P.jobs * 11
size_of_rec P (new_state from to y) = 16 + P.jobs * 11
size_of_rec P (newstate_ack from to b) = 11
size_of_rec P unknown = 8

pub kind_size : (P : Plan) (m : Rec) → length_of P (carried m).kind ≡ size_of_rec P m
unfolding carried length_of rows_at stamps_at ballots_in stamps_in rows_in entry or_plan pick
kind_size P (multicast from to j) = refl
kind_size P (accept from to j y) = refl
kind_size P (accept_ack from to j bs) = omega arith
kind_size P (deliver from to j y) = refl
kind_size P (newleader from to b) = refl
kind_size P (newleader_ack from to y) = omega arith
kind_size P (new_state from to y) = omega arith
kind_size P (newstate_ack from to b) = refl
kind_size P unknown = refl

-- every record that has its arrays' lengths, under a sound plan
pub record_size : (P : Plan) (m : Rec) → plan_sound P ≡ true → Arrays (carried m) → length (encode P (carried m)) ≡ size_of_rec P m
record_size P m s Z = encode_length P (carried m) s Z ∙ kind_size P m

-- ---- lists of records

-- at most w bytes each
pub all_most : (P : Plan) (w : ℕ) (l : List Rec) → ((m : Rec) → In m l → length (encode P (carried m)) ≤ w) → length (encode_all P l) ≤ length l * w
unfolding encode_all
all_most P w [] h = omega arith
all_most P w (m ∷ l) h =
    let a = h m (record { place = 0; there = refl }) in
    let r = all_most P w l (λ k i. h k (in_tail i)) in
    rw (length-append, suc-mul) (omega arith)

-- n records at most
pub few_most : (P : Plan) (w n : ℕ) (l : List Rec) → length l ≤ n → ((m : Rec) → In m l → length (encode P (carried m)) ≤ w) → length (encode_all P l) ≤ n * w
few_most P w n l c h = let a = all_most P w l h in let b = mul-le-mul_right {m = length l} {n = n} w c in omega arith

-- the one place where the number of a district's boxes is used
pub size_most : (P : Plan) → size_of P ≤ 3
unfolding size_of
size_most P = omega arith

-- a hand-out of at most 64 jobs to a district's boxes
pub hand_out_most : (P : Plan) → plan_sound P ≡ true → (P.jobs * size_of P) * 21 ≤ longest_output
hand_out_most P s =
    let j = (plan_says P s).jobs_most in
    let a = mul-le-mul_right {m = P.jobs} {n = most_jobs} (size_of P) j in
    omega (arith, size_most P)
