-- stand: a box stands for leader (Figure 4, lines 35-36).
use Rattle.std.specs.Prelude.{◌+◌, List, ltb, None}
use Rattle.house.specs.Limits.{most_number}
use Rattle.house.specs.declared.Ballot.{Ballot}
use Rattle.house.specs.declared.Plan.{Plan}
use Rattle.records.specs.Answers.{or_no, Answer, done}
use Rattle.records.specs.declared.answers.Refusal.TheVariants.{AtLimit}
use Rattle.records.specs.Rec.{Rec, newleader}
use Rattle.boxes.specs.Box.{own_of}
use Rattle.boxes.specs.Out.{Out, does, to_home, under}
use Rattle.boxes.specs.declared.BoxState.{BoxState}

-- (ballot number + 1, own)
unfoldable pub next_ballot : BoxState → Ballot
next_ballot x = record { number = x.core.ballot.number + 1; owner = own_of x }

-- stand sends kind 5 with the next ballot to the district (lines 35-36)
abbrev pub standing : Plan → BoxState → List Rec
standing P x = to_home P x (λ to. newleader (own_of x) to (next_ballot x))

-- what it is answered: a new ballot needs room for its number
abbrev pub stand_answer : BoxState → Answer
stand_answer x = or_no (ltb x.core.ballot.number most_number) AtLimit done

unfoldable pub stand : Plan → BoxState → Out
stand P x = under (stand_answer x) (does x (standing P x) None)
