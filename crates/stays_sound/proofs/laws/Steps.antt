-- Every step keeps a box sound and sends good records that fit: by kind, and for the orders that bring no record.
-- These are the theorems that the rest of the project cites.
use Rattle.std.specs.Prelude.{Option}
use Prim.Native.Nat.{ℕ, ◌≤◌}
use mathlib.Core.Bool.{true, ◌||◌}
use mathlib.Core.List.{List, []}
use mathlib.Core.Path.{◌≡◌, refl, sym, ap, subst, ◌∙◌}
use native.Mathlib.Omega.{arith}
use lib.ListN.{length}
use lib.Dec.{ltb}
use borrow.Author.Tests.{eqb-true, eq-eqb, ltb-true}
use Rattle.laws.proofs.laws.Choice.{or_left, or_right}
use Rattle.laws.specs.Place.{In}
use Rattle.house.specs.Limits.{most_number, least_tray}
use Rattle.house.specs.Pairs.{box_no}
use Rattle.house.proofs.laws.Orders.{ballot_of_is}
use Rattle.house.specs.declared.BoxNo.{BoxNo}
use Rattle.house.specs.Plan.{boxes_of, office_of, is_box, is_office, home_of, same_home, names, plan_sound}
use Rattle.house.proofs.laws.Says.{same_home_says}
use Rattle.house.specs.declared.Plan.{Plan}
use Rattle.records.proofs.laws.Lengths.{Arrays}
use Rattle.records.specs.Rec.{Rec, multicast, accept, accept_ack, deliver, newleader, newleader_ack, new_state, newstate_ack, unknown, carried, meaning}
use Rattle.records.specs.Rec.{addressee_of}
use Rattle.records.specs.Rules.{valid}
use Rattle.records.specs.Bytes.{encode_all}
use Rattle.records.specs.declared.Record.{Record}
use Rattle.records.proofs.laws.Obeys.{Obeys, AcceptOk, AckOk, DeliverOk, NewleaderOk, NewleaderAckOk, NewStateOk, NewstateAckOk}
use Rattle.records.proofs.laws.Structs.{carried_meaning, struct_obeys}
use Rattle.boxes.specs.Box.{own_of}
use Rattle.boxes.specs.Sound.{sound}
use Rattle.boxes.specs.Out.{does}
use Rattle.boxes.specs.Post.{posts}
use Rattle.boxes.specs.Retry.{retries, retry}
use Rattle.boxes.specs.Stand.{next_ballot, standing, stand}
use Rattle.boxes.specs.Cut.{cut}
use Rattle.boxes.specs.Step.{react, takes, retried, stood, cut_off}
use Rattle.boxes.specs.declared.BoxState.{BoxState}
use Rattle.boxes.proofs.laws.Answers.{under_or}
use Rattle.boxes.proofs.laws.Sound.{sound_says, sound_is}
use Rattle.boxes.specs.Lengths.{Lengths}
use Rattle.stays_sound.proofs.laws.Fresh.{cut_sound, cut_lengths}
use Rattle.stays_sound.proofs.laws.Sends.{Every, no_step, a_step, every_guard, every_does, Good, AllGood, good_each}
use Rattle.stays_sound.specs.Size.{longest_output}
use Rattle.stays_sound.proofs.laws.Changes.{Fine}
use Rattle.stays_sound.proofs.laws.Goods.{named_job, good_multicast, good_newleader, Keeps, keeps_quiet, fits_each}
use Rattle.stays_sound.proofs.laws.Jobs.{multicast_keeps, accept_keeps, accept_ack_keeps, deliver_keeps}
use Rattle.stays_sound.proofs.laws.Leads.{newleader_keeps, newleader_ack_keeps, new_state_keeps, newstate_ack_keeps}

-- ---- by kind

-- a record to the box that obeys the rules, with its arrays' lengths
pub react_every : {P : Plan} {x : BoxState} (m : Rec) → Fine P x → Obeys P m → Arrays (carried m) → addressee_of m ≡ x.core.own
    → Every (Keeps P x) (react P x m)
unfolding react addressee_of carried
react_every (multicast from to j) F O Z e = multicast_keeps j F
react_every {P} {x} (accept from to j y) F O Z e = accept_keeps from j y F (subst (λ (q : BoxNo). AcceptOk P from q j y) e O)
react_every {P} {x} (accept_ack from to j bs) F O Z e = accept_ack_keeps from j bs F (subst (λ (q : BoxNo). AckOk P from q j bs) e O)
react_every {P} {x} (deliver from to j y) F O Z e = deliver_keeps from j y F (subst (λ (q : BoxNo). DeliverOk P from q j y) e O)
react_every {P} {x} (newleader from to b) F O Z e = newleader_keeps F from b (subst (λ (q : BoxNo). NewleaderOk P from q b) e O)
react_every {P} {x} (newleader_ack from to y) F O Z e = newleader_ack_keeps F from y (subst (λ (q : BoxNo). NewleaderAckOk P from q y) e O) Z.table
react_every {P} {x} (new_state from to y) F O Z e = new_state_keeps F from y (subst (λ (q : BoxNo). NewStateOk P from q y) e O) Z.table
react_every {P} {x} (newstate_ack from to b) F O Z e = newstate_ack_keeps F from b (subst (λ (q : BoxNo). NewstateAckOk P from q b) e O)
react_every unknown F O Z e = no_step

-- ---- orders that bring no record

module _ {P : Plan} {x : BoxState} (F : Fine P x) where
  pub retry_every : (j : ℕ) → Every (Keeps P x) (retry P x j)
  unfolding retry retries
  retry_every j =
      simp under_or (every_guard _ _ _ (λ n. every_guard _ _ _ (λ o. a_step (record { fine = F; same = refl; good = goods n; fits = bytes (goods n) }))))
    where
      box : is_box P x.core.own ≡ true → (is_box P x.core.own || is_office P x.core.own) ≡ true
      box h = or_left (is_box P x.core.own) (is_office P x.core.own) h

      bytes : AllGood P x.core.own (retries P x j) → length (encode_all P (retries P x j)) ≤ longest_output
      bytes g = fits_each (λ p. names P j (home_of P p)) (λ to. multicast (own_of x) to j) F.sound.plan g (λ to. omega arith)

      goods : names P j (home_of P x.core.own) ≡ true → AllGood P x.core.own (retries P x j)
      goods n =
          let S = F.sound in
          good_each (λ p. names P j (home_of P p)) (λ to. multicast (own_of x) to j)
          (λ to h m. good_multicast S.plan j (record { sender = box S.own; addressee = h; job = named_job P j (home_of P to) m }) m)

  pub stand_every : Every (Keeps P x) (stand P x)
  unfolding stand next_ballot
  stand_every = simp under_or (every_guard _ _ _ (λ h. a_step (record { fine = F; same = refl; good = goods h; fits = bytes (goods h) })))
    where
      bytes : AllGood P x.core.own (standing P x) → length (encode_all P (standing P x)) ≤ longest_output
      bytes g = fits_each (λ p. same_home P p (own_of x)) (λ to. newleader (own_of x) to (next_ballot x)) F.sound.plan g (λ to. omega arith)

      goods : ltb x.core.ballot.number most_number ≡ true → AllGood P x.core.own (standing P x)
      goods h =
          let S = F.sound in
          let l = ltb-true x.core.ballot.number most_number h in
          good_each (λ p. same_home P p (own_of x)) (λ to. newleader (own_of x) to (next_ballot x))
          (λ to k m.
          good_newleader S.plan (next_ballot x)
          (record {
            near = record { sender = S.own; addressee = k; home = sym (same_home_says P to x.core.own m) };
            own_ballot = ballot_of_is x.core.own (next_ballot x) (record { some_number = omega arith; fits = omega arith }) refl;
          }))

  pub cut_keeps : Keeps P x (cut x) []
  unfolding cut
  cut_keeps = keeps_quiet (record { sound = cut_sound F.sound; lengths = cut_lengths F.lengths }) refl

-- post: from the office
pub posts_good : (P : Plan) (j : ℕ) → plan_sound P ≡ true → AllGood P (office_of P) (posts P j)
unfolding posts is_office office_of
posts_good P j s =
    good_each (λ p. names P j (home_of P p)) (λ to. multicast (office_of P) to j)
    (λ to h m. good_multicast s j (record { sender = office; addressee = h; job = named_job P j (home_of P to) m }) m)
  where
    office : (is_box P (office_of P) || is_office P (office_of P)) ≡ true
    office = or_right (is_box P (office_of P)) (is_office P (office_of P)) (eq-eqb (boxes_of P) (boxes_of P) refl)

pub posts_fit : (P : Plan) (j : ℕ) → plan_sound P ≡ true → length (encode_all P (posts P j)) ≤ longest_output
unfolding posts
posts_fit P j s = fits_each (λ p. names P j (home_of P p)) (λ to. multicast (office_of P) to j) s (posts_good P j s) (λ to. omega arith)

-- ---- as they are given to a box

pub fine : (P : Plan) (x : BoxState) → sound P x ≡ true → Lengths x → Fine P x
fine P x h L = record { sound = sound_says P x h; lengths = L }

-- every struct and every box that the code has: soundness, the rules and the addressee are asked by the step itself
pub takes_every : (P : Plan) (x : BoxState) (room : ℕ) (r : Record) → Lengths x → Arrays r → Every (Keeps P x) (takes P x room r)
unfolding takes addressee_of
takes_every P x room r L Z =
    every_guard
    _
    _
    _
    (λ s. every_guard _ _ _ (λ t. every_guard _ _ _ (λ v. every_guard _ _ _ (λ e. go (fine P x s L) v (ap box_no (eqb-true r.to.0 (own_of x).0 e))))))
  where
    go : Fine P x → valid P r ≡ true → r.to ≡ own_of x → Every (Keeps P x) (react P x (meaning r))
    go F v e =
        let c = carried_meaning P r Z v in
        react_every (meaning r) F (struct_obeys P r F.sound.plan Z v) (subst Arrays (sym c) Z) (ap (λ (q : Record). q.to) c ∙ e)

pub retried_every : (P : Plan) (x : BoxState) (j room : ℕ) → Lengths x → Every (Keeps P x) (retried P x j room)
unfolding retried
retried_every P x j room L = every_guard _ _ _ (λ s. every_guard _ _ _ (λ t. retry_every (fine P x s L) j))

pub stood_every : (P : Plan) (x : BoxState) (room : ℕ) → Lengths x → Every (Keeps P x) (stood P x room)
unfolding stood
stood_every P x room L = every_guard _ _ _ (λ s. every_guard _ _ _ (λ t. stand_every (fine P x s L)))

pub cut_off_every : (P : Plan) (x : BoxState) → Lengths x → Every (Keeps P x) (cut_off P x)
unfolding cut_off
cut_off_every P x L = every_guard _ _ _ (λ s. a_step (cut_keeps (fine P x s L)))

-- ---- the theorems

module _ (P : Plan) (x : BoxState) (L : Lengths x) {y : BoxState} {l : List Rec} {d : Option ℕ} where
  pub retry_keeps : (j : ℕ) → sound P x ≡ true → retry P x j ≡ does y l d → Keeps P x y l
  retry_keeps j s h = every_does (retry_every (fine P x s L) j) h

  pub stand_keeps : sound P x ≡ true → stand P x ≡ does y l d → Keeps P x y l
  stand_keeps s h = every_does (stand_every (fine P x s L)) h

-- ---- what they say

module _ {P : Plan} {x y : BoxState} {l : List Rec} (K : Keeps P x y l) where
  -- the box stays sound
  pub keeps_sound : sound P y ≡ true
  keeps_sound = sound_is P y K.fine.sound

  pub keeps_lengths : Lengths y
  keeps_lengths = K.fine.lengths

  -- every record is valid, names the addressee's district and is sent by the box
  pub keeps_good : (m : Rec) → In m l → Good P (own_of x) m
  keeps_good m i = K.good.each m i

  pub keeps_fits : length (encode_all P l) ≤ least_tray
  keeps_fits = let h = K.fits in omega arith
