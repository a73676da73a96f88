-- THE PROMISES of the rehearsal: what an order answers, the night after it and every byte of the post, for every input.
-- The contracts of src/lib.rt are these names; that no second answer fits is said of them.
use Rattle.std.specs.Prelude.{ℕ, List, ◌≡◌, length, IfOk}
use Rattle.house.specs.declared.Plan.{Plan}
use Rattle.house.specs.declared.Order.{Order}
use Rattle.records.specs.Answers.{Answered}
use Rattle.boxes.specs.Out.{records_of}
use Rattle.boxes.specs.Promise.{was_done, number_of}
use Rattle.rehearsal.specs.Night.{whose, given, turn_of, post_of, fresh_night}
use Rattle.rehearsal.specs.declared.Night.{Night}
use Rattle.rehearsal.specs.declared.nights.Turn.{Turn}

-- fresh_night: fresh boxes, and nothing of the post is used
abbrev pub NightFresh : Night → Type 0
NightFresh n = n ≡ fresh_night

-- rehearse: an order in a night, over the bytes of the post
pub record OrderRehearsed (P : Plan) (n : Night) (before : List ℕ) (o : Order) (t : Turn) (after : List ℕ) : Type 0 where
  -- done, or the number of the refusal
  pub answer : Answered t.answer (was_done (given P n before o)) (number_of (given P n before o))
  -- the records written
  pub records : IfOk t.answer (λ records. records ≡ length (records_of (given P n before o)))
  -- one box changes, and the records' bytes are used; a refusal leaves the night as it is
  pub night : t.night ≡ (turn_of P n (whose P n before o) (given P n before o)).night
  -- the records' bytes stand behind the last record; all others stay
  pub post : after ≡ post_of P n before (given P n before o)
