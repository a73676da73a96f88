-- Laws of what specs/Promises.antt defines.
use Rattle.std.specs.Prelude.{IfOk}
use Prim.Native.Nat.{ℕ}
use mathlib.Core.List.{List}
use mathlib.Core.Path.{◌≡◌, refl, sym, ap, ◌∙◌}
use lib.ListN.{length}
use Rattle.house.specs.declared.Plan.{Plan}
use Rattle.house.specs.declared.Order.{Order}
use Rattle.records.specs.Answers.{Answered}
use Rattle.records.proofs.laws.Answers.{one_result}
use Rattle.boxes.specs.Out.{Out, refused, does, records_of}
use Rattle.boxes.specs.Promise.{was_done, number_of}
use Rattle.rehearsal.specs.Night.{whose, given, turn_of, post_of}
use Rattle.rehearsal.specs.declared.Night.{Night}
use Rattle.rehearsal.specs.declared.nights.Turn.{Turn}
use Rattle.rehearsal.specs.Promises.{NightFresh, OrderRehearsed}

-- ---- no second answer fits

pub one_night : {n m : Night} → NightFresh n → NightFresh m → n ≡ m
one_night p q = p ∙ sym q

pub one_turn : {P : Plan} {n : Night} {before : List ℕ} {o : Order} {t u : Turn} {s v : List ℕ} → OrderRehearsed P n before o t s
    → OrderRehearsed P n before o u v
    → (t ≡ u) × (s ≡ v)
one_turn p q =
    let a = one_result _ p.answer q.answer p.records q.records in let m = p.night ∙ sym q.night in
    (λ i. record { answer = a i; night = m i }, p.post ∙ sym q.post)

-- ---- the turn as the code makes it

turn_answer : (P : Plan) (n : Night) (p : ℕ) (o : Out) → Answered (turn_of P n p o).answer (was_done o) (number_of o)
turn_answer P n p (refused why) = record { done_is = refl; number = refl }
turn_answer P n p (does x l d) = record { done_is = refl; number = refl }

turn_records : (P : Plan) (n : Night) (p : ℕ) (o : Out) → IfOk (turn_of P n p o).answer (λ records. records ≡ length (records_of o))
turn_records P n p (refused why) = tt
turn_records P n p (does x l d) = refl

pub order_rehearsed : {P : Plan} {n : Night} {s : List ℕ} {o : Order} {t : Turn} {after : List ℕ} → t ≡ turn_of P n (whose P n s o) (given P n s o)
    → after ≡ post_of P n s (given P n s o) → OrderRehearsed P n s o t after
order_rehearsed {P} {n} {s} {o} e f =
    let g = given P n s o in let p = whose P n s o in
    record {
      answer = rw e (turn_answer P n p g);
      records = rw e (turn_records P n p g);
      night = ap (λ (u : Turn). u.night) e;
      post = f;
    }

-- the promise says the turn
pub turn_is : {P : Plan} {n : Night} {s : List ℕ} {o : Order} {t : Turn} {after : List ℕ} → OrderRehearsed P n s o t after
    → t ≡ turn_of P n (whose P n s o) (given P n s o)
turn_is p = (one_turn p (order_rehearsed refl refl)).0
