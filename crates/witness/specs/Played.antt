-- A computed run. To compute one, every definition on its way must be opened, and a name opens whatever its own `unfolding` line names: so
-- a theorem that says `unfolding played` computes a run by itself.
use Rattle.std.specs.Prelude.{List}
use Rattle.boxes.specs.Step
use Rattle.boxes.specs.Cut
use Rattle.boxes.specs.Post
use Rattle.boxes.specs.Retry
use Rattle.boxes.specs.Stand
use Rattle.boxes.specs.Accept
use Rattle.boxes.specs.AcceptAck
use Rattle.boxes.specs.Box
use Rattle.boxes.specs.Deliver
use Rattle.boxes.specs.Multicast
use Rattle.boxes.specs.Merge
use Rattle.boxes.specs.NewState
use Rattle.boxes.specs.Newleader
use Rattle.boxes.specs.NewleaderAck
use Rattle.boxes.specs.NewstateAck
use Rattle.boxes.specs.Ready
use Rattle.boxes.specs.Out
use Rattle.boxes.specs.Sound
use Rattle.boxes.specs.Box
use Rattle.records.specs.Rec
use Rattle.records.specs.Rules
use Rattle.records.specs.Format
use Rattle.house.specs.Marks
use Rattle.house.specs.Plan
use Rattle.house.specs.Pairs
use Rattle.laws.specs.Choice
use Rattle.laws.specs.Fold
use Rattle.laws.specs.Digits
use Rattle.laws.specs.Lex
use Rattle.laws.specs.Majority
use Rattle.house.specs.declared.Plan.{Plan}
use Rattle.house.specs.declared.Order.{Order}
use Rattle.world.specs.World as Worlds
use Rattle.world.specs.World.{World}
use Rattle.in_order.specs.Words.{after}

-- the world after a list of orders, all definitions of the steps opened
unfoldable pub played : Plan → List Order → World
unfolding
    Worlds.fresh_boxes Worlds.new Worlds.whose Worlds.exists Worlds.acts Worlds.given Worlds.step Worlds.run
    Step.react Step.takes Step.retried Step.stood Step.cut_off
    Post.posts Retry.retries Retry.retry Stand.next_ballot Stand.stand Cut.cut
    Multicast.proposed Multicast.accepts Multicast.on_multicast Accept.same_kept Accept.ballot_fits Accept.stamp_fits
    Accept.kept Accept.kept_below Accept.all_kept Accept.latest_kept Box.raised Accept.accepted_row
    Accept.accepted Accept.kept_for Accept.kept_vector Accept.acks Accept.when_kept Accept.on_accept
    AcceptAck.agree_below AcceptAck.agree AcceptAck.enough AcceptAck.committed AcceptAck.when_marked AcceptAck.on_accept_ack
    Deliver.delivered Deliver.on_deliver
    Newleader.joined Newleader.clock_stamp Newleader.vote_for Newleader.on_newleader NewleaderAck.vote_of NewleaderAck.votes_with NewleaderAck.votes_count
    Merge.top_ballot Merge.top_clock Merge.vote_row Merge.committed_at Merge.accepted_at Merge.first_row Merge.merged_row
    Merge.merged_table Merge.merged NewleaderAck.new_states NewleaderAck.when_voted NewleaderAck.voted_by NewleaderAck.on_newleader_ack
    NewState.followed NewState.on_new_state NewstateAck.leading NewstateAck.on_newstate_ack
    Ready.is_open Ready.open_above Ready.ready Ready.better Ready.next_below Ready.delivers Ready.flagged Ready.hand_next
    Ready.hand_turns
    Out.guard Out.to_each
    Sound.range_sound Sound.ballots_sound Sound.table_sound Sound.sent_sound Sound.kept_sound Sound.job_kept_sound Sound.all_kept_sound
    Sound.marks_sound Sound.all_marks_sound Sound.listed_sound Sound.unlisted Sound.list_sound Sound.paper_of Sound.held_sound
    Sound.unvoted Sound.vote_sound Sound.box_sound Sound.sound
    Box.row_at Box.sent_at Box.listed_at Box.last_stamp Box.on_list Box.kept_at Box.kept_ballot Box.kept_stamp Box.marks_at
    Box.fresh_volatile Box.fresh
    Rec.carried Rec.meaning Rec.addressee_of
    Rules.clock_of Rules.both_stamps Rules.start_row Rules.open_row Rules.done_row Rules.row_sound Rules.rows_sound Rules.none_proposed
    Rules.ballot_for Rules.ballots_for Rules.boxes Rules.neighbours Rules.others Rules.rules Rules.spare_ballots Rules.spare_stamps
    Rules.is_no_row Rules.spare_rows Rules.spare Rules.valid
    Format.known Format.entry Format.or_plan Format.ballots_in Format.stamps_in Format.rows_in Format.has_job
    Marks.has_mark Marks.marked Marks.marks_in Marks.quorum_in Marks.quorum_below Marks.quorum_each
    Plan.size_of Plan.quorum_of Plan.boxes_of Plan.office_of Plan.home_of Plan.is_box Plan.is_office Plan.is_job Plan.same_home
    Plan.mask_of Plan.names Plan.ballot_in Plan.none_or_in Plan.stamp_named Plan.mask_sound Plan.counts_sound Plan.masks_sound
    Plan.plan_sound
    Pairs.stamp_lt Pairs.ballot_lt Pairs.same_stamp Pairs.same_ballot Pairs.is_no_stamp Pairs.is_no_ballot Pairs.time_fits Pairs.real_stamp
    Pairs.real_ballot Pairs.stamp_of Pairs.ballot_of
    Choice.pick
    Fold.all_below Fold.some_below
    Digits.digit Digits.part Digits.with_digit
    Lex.larger
    Majority.majority lib.Count.ones
played P os = after P os
