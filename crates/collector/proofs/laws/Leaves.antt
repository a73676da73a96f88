-- Laws of what specs/Leaves.antt defines.
use Rattle.std.specs.Prelude.{Result, Err, Ok, IfOk}
use Rattle.std.specs.Result.{is_ok}
use Rattle.laws.proofs.laws.Choice.{never}
use Rattle.records.specs.declared.answers.Refusal.{Refusal}
use Rattle.sending.specs.declared.Sent as Counts
use Prim.Native.Nat.{ℕ, ◌≤◌}
use mathlib.Core.Bool.{true}
use mathlib.Core.List.{List}
use mathlib.Core.Path.{◌≡◌, refl, sym, subst, ◌∙◌}
use native.Mathlib.Omega.{arith}
use lib.ListN.{length}
use lib.Dec.{leb}
use Rattle.laws.specs.Tray.{onto}
use Rattle.laws.proofs.laws.Tray.{onto_front}
use Rattle.house.specs.Limits.{least_tray}
use Rattle.house.specs.Pairs.{box_no}
use Rattle.house.specs.declared.BoxNo.{BoxNo}
use Rattle.house.specs.Plan.{office_of, plan_sound}
use Rattle.house.specs.declared.Plan.{Plan}
use Rattle.records.specs.Rec.{Rec, carried}
use Rattle.records.specs.Bytes.{encode_all, shaped, parse}
use Rattle.records.proofs.laws.Outcome.{read_promised}
use Rattle.records.specs.Answers.{Answer, done}
use Rattle.records.proofs.laws.Lengths.{parse_arrays}
use Rattle.spelling.proofs.laws.Readback.{read_encoded}
use Rattle.boxes.specs.Sound.{sound}
use Rattle.boxes.specs.Out.{Out, refused, does, records_of}
use Rattle.boxes.specs.Step.{receives, may_post}
use Rattle.boxes.specs.Promise.{Says, Stepped, box_after}
use Rattle.boxes.specs.declared.BoxState.{BoxState}
use Rattle.boxes.specs.declared.Outcome.{Outcome}
use Rattle.boxes.specs.Lengths.{Lengths}
use Rattle.boxes.proofs.laws.Sound.{sound_is, sound_plan}
use Rattle.stays_sound.proofs.laws.Fresh.{fresh_is_sound, fresh_lengths}
use Rattle.stays_sound.proofs.laws.Sends.{Every, no_step, a_step, every_guard, AllGood, good_nil}
use Rattle.stays_sound.specs.Size.{longest_output}
use Rattle.stays_sound.proofs.laws.Goods.{Keeps, fits_none}
use Rattle.stays_sound.proofs.laws.Steps.{takes_every, retried_every, stood_every, cut_off_every, posts_good, posts_fit}
use Rattle.world.proofs.laws.Boxes.{good_box}
use Rattle.collector.specs.Promises.{BytesReceived, JobRetried, BoxStood, BoxCut, JobPosted}
use Rattle.collector.specs.Leaves.{Sent, Stays, Face}

-- ---- records

sent : {P : Plan} {from : BoxNo} {l : List Rec} (count used : ℕ) (before tray : List ℕ) → plan_sound P ≡ true → AllGood P from l
    → length (encode_all P l) ≤ longest_output
    → count ≡ length l → used ≡ length (encode_all P l) → tray ≡ onto (encode_all P l) before → Sent P from count used tray
sent {P} {from} {l} count used before tray s G f c u t =
    record {
      records = l;
      all = c;
      bytes = rw t (onto_front (encode_all P l) before used u);
      fit = omega arith;
      read = λ m i. let g = G.each m i in read_promised (sym (read_encoded P (carried m) s g.sized g.is_valid));
      addressed = λ m i. let g = G.each m i in record { sender = g.by; addressee = good_box s g; named = g.named; obeys = g.is_valid };
    }

-- ---- a step of a box

module _ {P : Plan} {x : BoxState} (s : sound P x ≡ true) (L : Lengths x) where
  good_records : (o : Out) → Every (Keeps P x) o → AllGood P x.core.own (records_of o) × (length (encode_all P (records_of o)) ≤ longest_output)
  good_records (refused why) no_step = (good_nil, fits_none P)
  good_records (does y l d) (a_step K) = (K.good, K.fits)

  box_stays : (o : Out) → Every (Keeps P x) o → Stays P x (box_after x o)
  box_stays (refused why) no_step = record { is_sound = s; lengths = L; own = refl }
  box_stays (does y l d) (a_step K) = record { is_sound = sound_is P y K.fine.sound; lengths = K.fine.lengths; own = K.same }

  said_stays : {o : Out} {r : Outcome} → Every (Keeps P x) o → Says P x o r → Stays P x r.state
  said_stays {o} e p = subst (Stays P x) (sym p.state) (box_stays o e)

  stepped_sent : {o : Out} {before : List ℕ} {r : Outcome} {after : List ℕ} → Every (Keeps P x) o → Stepped P x o before r after
      → Sent P x.core.own r.records r.used after
  stepped_sent {o} {before} {r} {after} e p =
      let g = good_records o e in
      sent r.records r.used before after (sound_plan P x s) g.0 g.1 p.says.records p.says.used p.tray

  received_every : (room : ℕ) (bytes : List ℕ) → Every (Keeps P x) (receives P x room bytes)
  unfolding receives
  received_every room bytes =
      let Z = parse_arrays P bytes (sound_plan P x s) in
      every_guard
      (sound P x)
      _
      _
      (λ a. every_guard (leb least_tray room) _ _ (λ b. every_guard (shaped P bytes) _ _ (λ c. takes_every P x room (parse P bytes) L Z)))

  -- receive
  receive_leaves : (bytes : List ℕ) {before : List ℕ} {r : Outcome} {after : List ℕ} → BytesReceived P x bytes before r after
      → Stays P x r.state × Sent P x.core.own r.records r.used after
  receive_leaves bytes {before} p = let e = received_every (length before) bytes in (said_stays e p.says, stepped_sent e p)

  -- retry_job
  retry_leaves : (j : ℕ) {before : List ℕ} {r : Outcome} {after : List ℕ} → JobRetried P x j before r after
      → Stays P x r.state × Sent P x.core.own r.records r.used after
  retry_leaves j {before} p = let e = retried_every P x j (length before) L in (said_stays e p.says, stepped_sent e p)

  -- stand_up
  stand_leaves : {before : List ℕ} {r : Outcome} {after : List ℕ} → BoxStood P x before r after
      → Stays P x r.state × Sent P x.core.own r.records r.used after
  stand_leaves {before} p = let e = stood_every P x (length before) L in (said_stays e p.says, stepped_sent e p)

  -- cut_off
  cut_leaves : {r : Outcome} → BoxCut P x r → Stays P x r.state
  cut_leaves p = said_stays (cut_off_every P x L) p

-- ---- a post

-- post_job: from the office, under a sound plan
post_leaves : {P : Plan} {j : ℕ} {before : List ℕ} {p : Result Counts.Sent Refusal} {after : List ℕ} → plan_sound P ≡ true → JobPosted P j before p after
    → IfOk p (λ s. Sent P (office_of P) s.records s.used after)
post_leaves {P} {j} {before} {p} {after} h posted = go p posted
  where
    posts_it : (a : Answer) → is_ok a ≡ true → a ≡ done
    posts_it (Ok u) e = refl
    posts_it (Err why) e = never e refl

    go : (p : Result Counts.Sent Refusal) → JobPosted P j before p after → IfOk p (λ s. Sent P (office_of P) s.records s.used after)
    go (Ok s) q =
        let e = posts_it (may_post P j (length before)) (sym q.answer.done_is) in
        sent s.records s.used before after h (posts_good P j h) (posts_fit P j h) (q.records ∙ rw e) (q.used ∙ rw e) (q.tray ∙ rw e)
    go (Err why) q = tt

pub face : (P : Plan) → Face P
face P =
    record {
      receive = λ x s L bytes before r after p. receive_leaves s L bytes p;
      retry = λ x s L j before r after p. retry_leaves s L j p;
      stand = λ x s L before r after p. stand_leaves s L p;
      cut = λ x s L r p. cut_leaves s L p;
      post = λ s j before p after h. post_leaves s h;
      fresh = λ s p l x e. (rw e (fresh_is_sound P p s l), rw e (fresh_lengths (box_no p)));
    }
