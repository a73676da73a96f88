-- retry: a box sends a job again (Figure 4, lines 32-34).
use Rattle.std.specs.Prelude.{ℕ, List, None}
use Rattle.house.specs.Plan.{names}
use Rattle.house.specs.declared.Plan.{Plan}
use Rattle.records.specs.Answers.{or_no, Answer, done}
use Rattle.records.specs.declared.answers.Refusal.TheVariants.{NotNamed, AlreadyDone}
use Rattle.records.specs.Rec.{Rec, multicast}
use Rattle.boxes.specs.Box.{own_of, home_in}
use Rattle.boxes.specs.Out.{Out, does, to_named, under}
use Rattle.boxes.specs.Ready.{is_open}
use Rattle.boxes.specs.declared.BoxState.{BoxState}

-- retry does so from a box (lines 32-34)
unfoldable pub retries : Plan → BoxState → ℕ → List Rec
retries P x j = to_named P j (λ to. multicast (own_of x) to j)

-- what it is answered
abbrev pub retry_answer : Plan → BoxState → ℕ → Answer
retry_answer P x j =
    or_no (names P j (home_in P x)) NotNamed
    -- phase 0 or 3: 9
    (or_no (is_open x j) AlreadyDone
    done)

unfoldable pub retry : Plan → BoxState → ℕ → Out
retry P x j = under (retry_answer P x j) (does x (retries P x j) None)
