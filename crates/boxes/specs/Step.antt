-- Each order as it is given to a box: the checks 1 to 5, then what the kind or the order does.
use Rattle.std.specs.Prelude.{ℕ, List, [], leb, eqb, Err, None, Ok}
use Rattle.house.specs.Limits.{least_tray}
use Rattle.house.specs.Plan.{is_job, plan_sound}
use Rattle.house.specs.declared.Plan.{Plan}
use Rattle.records.specs.Rec.{Rec, multicast, accept, accept_ack, deliver, newleader, newleader_ack, new_state, newstate_ack, unknown, meaning}
use Rattle.records.specs.Answers.{Answer, done, answer_no, or_no}
use Rattle.records.specs.declared.answers.Refusal.TheVariants.{NotSound, SmallTray, Unreadable, BrokenRule, OtherBox, NotNamed}
use Rattle.records.specs.Bytes.{shaped, parse}
use Rattle.records.specs.Rules.{valid}
use Rattle.records.specs.declared.Record.{Record}
use Rattle.boxes.specs.Box.{own_of}
use Rattle.boxes.specs.Sound.{sound}
use Rattle.boxes.specs.Out.{Out, refused, does, guard}
use Rattle.boxes.specs.Multicast.{on_multicast}
use Rattle.boxes.specs.Accept.{on_accept}
use Rattle.boxes.specs.AcceptAck.{on_accept_ack}
use Rattle.boxes.specs.Deliver.{on_deliver}
use Rattle.boxes.specs.Newleader.{on_newleader}
use Rattle.boxes.specs.NewleaderAck.{on_newleader_ack}
use Rattle.boxes.specs.NewState.{on_new_state}
use Rattle.boxes.specs.NewstateAck.{on_newstate_ack}
use Rattle.boxes.specs.Post.{posts}
use Rattle.boxes.specs.Retry.{retry}
use Rattle.boxes.specs.Stand.{stand}
use Rattle.boxes.specs.Cut.{cut}
use Rattle.boxes.specs.declared.BoxState.{BoxState}

-- what each kind does: answers 6 to 10, or the step
unfoldable pub react : Plan → BoxState → Rec → Out
react P x (multicast from to j) = on_multicast P x j
react P x (accept from to j y) = on_accept P x from j y
react P x (accept_ack from to j bs) = on_accept_ack P x from j bs
react P x (deliver from to j y) = on_deliver P x j y
react P x (newleader from to b) = on_newleader P x from b
react P x (newleader_ack from to y) = on_newleader_ack P x from y
react P x (new_state from to y) = on_new_state x from y
react P x (newstate_ack from to b) = on_newstate_ack P x b
react P x unknown = refused Unreadable

-- a record that the reader took: a box is sound, the tray is large enough, the values obey the rules, "to" is this box
unfoldable pub takes : Plan → BoxState → ℕ → Record → Out
takes P x room r =
    guard (sound P x) NotSound
    (guard (leb least_tray room) SmallTray
    (guard (valid P r) BrokenRule
    (guard (eqb r.to.0 (own_of x).0) OtherBox
    (react P x (meaning r)))))

-- bytes given to a box: 1 and 2, then 3 if they have no record's shape, then what the record does
unfoldable pub receives : Plan → BoxState → ℕ → List ℕ → Out
receives P x room s =
    guard (sound P x) NotSound
    (guard (leb least_tray room) SmallTray
    (guard (shaped P s) Unreadable
    (takes P x room (parse P s))))

-- a post has no box: 1 for the plan, 2, and 6 for a number that is no job
unfoldable pub may_post : Plan → ℕ → ℕ → Answer
may_post P j room = or_no (plan_sound P) NotSound (or_no (leb least_tray room) SmallTray (or_no (is_job P j) NotNamed done))

-- its number
unfoldable pub post_no : Plan → ℕ → ℕ → ℕ
post_no P j room = answer_no (may_post P j room)

-- its records; none with a refusal
abbrev pub posted_records : Plan → ℕ → Answer → List Rec
posted_records P j (Ok u) = posts P j
posted_records P j (Err why) = []

unfoldable pub retried : Plan → BoxState → ℕ → ℕ → Out
retried P x j room = guard (sound P x) NotSound (guard (leb least_tray room) SmallTray (retry P x j))

unfoldable pub stood : Plan → BoxState → ℕ → Out
stood P x room = guard (sound P x) NotSound (guard (leb least_tray room) SmallTray (stand P x))

unfoldable pub cut_off : Plan → BoxState → Out
cut_off P x = guard (sound P x) NotSound (does (cut x) [] None)
