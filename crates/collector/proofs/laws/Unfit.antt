-- Laws of what specs/Unfit.antt defines.
use Rattle.std.specs.Prelude.{None}
use Prim.Native.Nat.{ℕ}
use mathlib.Core.Bool.{true, false}
use mathlib.Core.List.{List, [], ◌∷◌}
use mathlib.Core.Logic.{◌≢◌}
use mathlib.Core.Path.{◌≡◌, refl, sym, ap, ◌∙◌}
use native.Mathlib.Omega.{arith}
use lib.ListN.{length, replicate, length-append}
use Rattle.laws.proofs.laws.Choice.{never}
use Rattle.laws.specs.Fold.{all_below}
use Rattle.house.specs.Limits.{least_tray}
use Rattle.house.specs.Pairs.{box_no, ballot, ballot_lt, ballot_of, real_ballot}
use Rattle.house.specs.Plan.{size_of, boxes_of, is_box, home_of, plan_sound, counts_sound, masks_sound, mask_sound}
use Rattle.house.specs.declared.Plan.{Plan}
use Rattle.std.specs.Result.{is_ok}
use Rattle.records.specs.declared.answers.Refusal.TheVariants.{WrongStatus}
use Rattle.records.specs.Rec.{Rec, newleader, newstate_ack, carried}
use Rattle.records.proofs.laws.Rec.{meaning_carried}
use Rattle.records.specs.Rules.{valid}
use Rattle.records.specs.Bytes.{encode, encode_all}
use Rattle.boxes.specs.Box.{fresh}
use Rattle.boxes.specs.Sound.{sound}
use Rattle.boxes.specs.Out.{Out, refused, does, guard, result_of}
use Rattle.boxes.specs.Newleader.{joined, vote_for, on_newleader}
use Rattle.boxes.specs.NewstateAck.{on_newstate_ack}
use Rattle.boxes.specs.Step.{react, takes, receives}
use Rattle.boxes.proofs.laws.Promise.{result_is}
use Rattle.boxes.specs.declared.BoxState.{BoxState}
use Rattle.boxes.specs.declared.Outcome.{Outcome}
use Rattle.records.proofs.laws.Lengths.{Arrays}
use Rattle.spelling.proofs.laws.Round.{parse_encode, encode_shaped}
use Rattle.records.proofs.laws.Obeys.{valid_is}
use Rattle.stays_sound.proofs.laws.Fresh.{fresh_is_sound}
use Rattle.stays_sound.proofs.laws.Size.{record_size}
use Rattle.collector.specs.Promises.{BytesReceived}
use Rattle.collector.proofs.laws.Promises.{one_receipt}
use Rattle.collector.specs.Unfit.{Keeping}

-- one district, one job that names it
abbrev pub plan₁ : Plan
plan₁ = record { districts = 1; jobs = 1; masks = 1 ∷ replicate 63 0 }

pub plan_is_sound : plan_sound plan₁ ≡ true
unfolding plan_sound counts_sound masks_sound mask_sound all_below
plan_is_sound = refl

abbrev pub box₁ : BoxState
box₁ = fresh (box_no 1)

pub box_is_sound : sound plan₁ box₁ ≡ true
unfolding boxes_of size_of
box_is_sound = fresh_is_sound plan₁ 1 plan_is_sound (omega arith)

-- a tray that is large enough
abbrev pub tray₁ : List ℕ
tray₁ = replicate least_tray 0

-- bytes of a record for the box are received as the record
received : (m : Rec) → Arrays (carried m) → valid plan₁ (carried m) ≡ true
    → receives plan₁ box₁ (length tray₁) (encode plan₁ (carried m)) ≡ takes plan₁ box₁ least_tray (carried m)
unfolding receives guard
received m A v =
    rw (box_is_sound, encode_shaped plan₁ (carried m) plan_is_sound A v, parse_encode plan₁ (carried m) plan_is_sound A v)

-- NEWLEADER (1,0) from 0 to 1
abbrev pub call : Rec
call = newleader (box_no 0) (box_no 1) (ballot 1 0)

call_valid : valid plan₁ (carried call) ≡ true
unfolding is_box boxes_of size_of home_of ballot_of real_ballot
call_valid = valid_is plan₁ call plan_is_sound (record { near = record { sender = refl; addressee = refl; home = refl }; own_ballot = refl })

-- the box joins, and votes
abbrev pub move : Out
move = does (joined box₁ (ballot 1 0)) (vote_for plan₁ box₁ (box_no 0) (ballot 1 0) ∷ []) None

pub it_moves : receives plan₁ box₁ (length tray₁) (encode plan₁ (carried call)) ≡ move
unfolding takes guard carried fresh react on_newleader ballot_lt
it_moves = received call (record { ballots = refl; stamps = refl; table = refl }) call_valid ∙ rw (box_is_sound, call_valid, meaning_carried call)

-- which is a record of 19 + 11 bytes
it_writes : length (encode_all plan₁ (vote_for plan₁ box₁ (box_no 0) (ballot 1 0) ∷ [])) ≡ 30
unfolding encode_all encode carried vote_for fresh
it_writes =
    length-append (encode plan₁ (carried (vote_for plan₁ box₁ (box_no 0) (ballot 1 0)))) []
    ∙ rw (record_size plan₁ (vote_for plan₁ box₁ (box_no 0) (ballot 1 0)) plan_is_sound (record { ballots = refl; stamps = refl; table = refl }))

-- NEWSTATE_ACK (1,1) from 0 to 1
abbrev pub answer : Rec
answer = newstate_ack (box_no 0) (box_no 1) (ballot 1 1)

answer_valid : valid plan₁ (carried answer) ≡ true
unfolding is_box boxes_of size_of home_of ballot_of real_ballot
answer_valid =
    valid_is plan₁ answer plan_is_sound
    (record { other = record { near = record { sender = refl; addressee = refl; home = refl }; apart = λ e. omega arith }; its_ballot = refl })

-- a follower takes none: 7
pub it_refuses : receives plan₁ box₁ (length tray₁) (encode plan₁ (carried answer)) ≡ refused WrongStatus
unfolding takes guard carried fresh react on_newstate_ack
it_refuses = received answer (record { ballots = refl; stamps = refl; table = refl }) answer_valid ∙ rw (box_is_sound, answer_valid, meaning_carried answer)

module _ (g : Keeping) where
  moves : g.says plan₁ box₁ (encode plan₁ (carried call)) tray₁ ≡ result_of plan₁ box₁ move
  moves = result_is (g.promised plan₁ box₁ (encode plan₁ (carried call)) tray₁).says ∙ ap (result_of plan₁ box₁) it_moves

  refuses : g.says plan₁ box₁ (encode plan₁ (carried answer)) tray₁ ≡ result_of plan₁ box₁ (refused WrongStatus)
  refuses = result_is (g.promised plan₁ box₁ (encode plan₁ (carried answer)) tray₁).says ∙ ap (result_of plan₁ box₁) it_refuses

  -- not: it refuses everything
  pub not_always_refusing : ((P : Plan) (x : BoxState) (bytes tray : List ℕ) → is_ok (g.says P x bytes tray).answer ≡ false) → ⊥
  not_always_refusing h = never (ap (λ (o : Outcome). is_ok o.answer) moves) (h plan₁ box₁ (encode plan₁ (carried call)) tray₁)

  -- not: it takes everything
  pub not_always_taking : ((P : Plan) (x : BoxState) (bytes tray : List ℕ) → is_ok (g.says P x bytes tray).answer ≡ true) → ⊥
  not_always_taking h = never (h plan₁ box₁ (encode plan₁ (carried answer)) tray₁) (ap (λ (o : Outcome). is_ok o.answer) refuses)

  -- not: a constant reply
  pub not_constant : (o : Outcome) → ((P : Plan) (x : BoxState) (bytes tray : List ℕ) → g.says P x bytes tray ≡ o) → ⊥
  not_constant o h =
      let a : is_ok o.answer ≡ true = ap (λ (q : Outcome). is_ok q.answer) (sym (h plan₁ box₁ (encode plan₁ (carried call)) tray₁) ∙ moves) in
      let b : is_ok o.answer ≡ false = ap (λ (q : Outcome). is_ok q.answer) (sym (h plan₁ box₁ (encode plan₁ (carried answer)) tray₁) ∙ refuses) in
      never a b

  -- not: the box never changes
  pub not_idle : ((P : Plan) (x : BoxState) (bytes tray : List ℕ) → (g.says P x bytes tray).state ≡ x) → ⊥
  unfolding joined fresh
  not_idle h =
      let a : (joined box₁ (ballot 1 0)).core.ballot.number ≡ box₁.core.ballot.number =
      ap (λ (y : BoxState). y.core.ballot.number) (sym (ap (λ (o : Outcome). o.state) moves) ∙ h plan₁ box₁ (encode plan₁ (carried call)) tray₁) in
      omega arith

  -- not: nothing is ever written
  pub not_silent : ((P : Plan) (x : BoxState) (bytes tray : List ℕ) → (g.says P x bytes tray).used ≡ 0) → ⊥
  not_silent h = let a = it_writes in let b = sym (ap (λ (o : Outcome). o.used) moves) ∙ h plan₁ box₁ (encode plan₁ (carried call)) tray₁ in omega arith

-- an invented byte count or record count: an outcome that differs from one that fits in such a number does not fit, whatever the tray
pub not_inventing : (P : Plan) (x : BoxState) (bytes before : List ℕ) {t u : List ℕ} {r q : Outcome} → BytesReceived P x bytes before r t
    → BytesReceived P x bytes before q u
    → (q.used ≢ r.used → ⊥) × (q.records ≢ r.records → ⊥)
not_inventing P x bytes before p q =
    let e = (one_receipt P x bytes before q p).0 in
    (λ n. n (ap (λ (o : Outcome). o.used) e), λ n. n (ap (λ (o : Outcome). o.records) e))
