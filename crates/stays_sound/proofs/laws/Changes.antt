-- Each change of a box keeps it sound, with its arrays' lengths: untouched parts as they were, the touched one by its own fact.
-- Which facts a change asks for stands in its statement.
use Prim.Native.Nat.{ℕ, ◌+◌, ◌*◌, ◌≤◌, ◌<◌}
use mathlib.Core.Bool.{Bool, true, false}
use mathlib.Core.List.{List}
use mathlib.Core.Logic.{◌≢◌}
use mathlib.Core.Path.{◌≡◌, sym, ap, ◌∙◌}
use native.Mathlib.Decide.{ℕ_discrete, dec_lt}
use native.Mathlib.Omega.{arith}
use lib.ListN.{length, get_or, set, length-set}
use lib.Seq.{get_or-set_same, get_or-set_other}
use borrow.Author.Tests.{lt-ltb}
use Rattle.laws.proofs.laws.Choice.{pick_true, never}
use Rattle.laws.specs.Digits.{part, with_digit}
use Rattle.laws.proofs.laws.Place.{at_each}
use Rattle.house.specs.Limits.{most_districts, most_jobs, most_time}
use Rattle.house.specs.Pairs.{district, no_stamp, no_ballot}
use Rattle.house.specs.declared.Stamp.{Stamp}
use Rattle.house.specs.declared.Ballot.{Ballot}
use Rattle.house.specs.declared.BoxNo.{BoxNo}
use Rattle.house.specs.declared.Row.{Row}
use Rattle.house.specs.Plan.{size_of, boxes_of, is_box, home_of, names, plan_sound}
use Rattle.house.proofs.laws.Says.{boxes_most, box_says, home_from, home_to}
use Rattle.house.specs.declared.Plan.{Plan}
use Rattle.house.specs.Marks.{no_marks, most_marks, marked, marks_in}
use Rattle.records.proofs.laws.Rows.{RowOk, TableOk, table_set}
use Rattle.boxes.specs.Box.{kept_at, put_mode, put_table, put_row, put_sent, put_listed, put_kept, put_marks, put_vote}
use Rattle.boxes.specs.declared.BoxState.{BoxState}
use Rattle.boxes.specs.declared.Vote.{Vote}
use Rattle.boxes.specs.declared.Status.{Status}
use Rattle.boxes.proofs.laws.Parts.{BallotsOk, SentOk, KeptOk, KeptsOk, MarkOk, MarksOk}
use Rattle.boxes.proofs.laws.Sound.{VoteOk, SoundBox}
use Rattle.boxes.specs.Lengths.{Lengths}
use Rattle.stays_sound.proofs.laws.Laws.{next_multiple, with_digit_low, part_below, part_above}
use Rattle.stays_sound.proofs.laws.Listing.{Addable, list_add}

-- a sound box with its arrays
pub record Fine (P : Plan) (x : BoxState) : Type 0 where
  pub sound : SoundBox P x
  pub lengths : Lengths x

module _ {P : Plan} {x : BoxState} (F : Fine P x) where
  -- status and the two ballots
  pub put_mode_lem : (s : Status) (b cb : Ballot) → BallotsOk P x.core.own s b cb → VoteOk P x.core.own b x.volatile.vote → Fine P (put_mode x s b cb)
  put_mode_lem s b cb B O =
      let S = F.sound in
      let L = F.lengths in
      record {
        sound =
            record {
              plan = S.plan;
              own = S.own;
              clock = S.clock;
              ballots = B;
              table = S.table;
              sent = S.sent;
              kept = S.kept;
              marks = S.marks;
              list = S.list;
              vote = O;
            };
        lengths =
            record {
              table = L.table;
              sent = L.sent;
              list = L.list;
              kept_ballots = L.kept_ballots;
              kept_stamps = L.kept_stamps;
              marks = L.marks;
              vote_table = L.vote_table;
            };
      }

  -- the clock and the table
  pub put_table_lem : (c : ℕ) (t : List Row) → c ≤ most_time → length t ≡ most_jobs → TableOk P (home_of P x.core.own) t → Fine P (put_table x c t)
  put_table_lem c t h n T =
      let S = F.sound in
      let L = F.lengths in
      record {
        sound =
            record {
              plan = S.plan;
              own = S.own;
              clock = h;
              ballots = S.ballots;
              table = T;
              sent = S.sent;
              kept = S.kept;
              marks = S.marks;
              list = S.list;
              vote = S.vote;
            };
        lengths =
            record {
              table = n;
              sent = L.sent;
              list = L.list;
              kept_ballots = L.kept_ballots;
              kept_stamps = L.kept_stamps;
              marks = L.marks;
              vote_table = L.vote_table;
            };
      }

  -- the clock and the row of a job
  pub put_row_lem : (c j : ℕ) (r : Row) → c ≤ most_time → j < most_jobs → RowOk P (home_of P x.core.own) j r → Fine P (put_row x c j r)
  put_row_lem c j r h l R =
      let e = F.lengths.table in
      put_table_lem c (set x.core.table j r) h (length-set x.core.table j r ∙ e) (table_set F.sound.table j r (omega arith) R)

  -- the sent flags
  pub put_sent_lem : (l : List Bool) → length l ≡ most_jobs → SentOk P l → Fine P (put_sent x l)
  put_sent_lem l n K =
      let S = F.sound in
      let L = F.lengths in
      record {
        sound =
            record {
              plan = S.plan;
              own = S.own;
              clock = S.clock;
              ballots = S.ballots;
              table = S.table;
              sent = K;
              kept = S.kept;
              marks = S.marks;
              list = S.list;
              vote = S.vote;
            };
        lengths =
            record {
              table = L.table;
              sent = n;
              list = L.list;
              kept_ballots = L.kept_ballots;
              kept_stamps = L.kept_stamps;
              marks = L.marks;
              vote_table = L.vote_table;
            };
      }

  -- a job more on the delivered list
  pub put_listed_lem : (j : ℕ) (s : Stamp) → Addable P (home_of P x.core.own) x.core.count x.core.list j s → Fine P (put_listed x j s)
  put_listed_lem j s A =
      let S = F.sound in
      let L = F.lengths in
      record {
        sound =
            record {
              plan = S.plan;
              own = S.own;
              clock = S.clock;
              ballots = S.ballots;
              table = S.table;
              sent = S.sent;
              kept = S.kept;
              marks = S.marks;
              list = list_add S.plan L.list S.list A;
              vote = S.vote;
            };
        lengths =
            record {
              table = L.table;
              sent = L.sent;
              list = length-set x.core.list x.core.count (record { job = j; stamp = s }) ∙ L.list;
              kept_ballots = L.kept_ballots;
              kept_stamps = L.kept_stamps;
              marks = L.marks;
              vote_table = L.vote_table;
            };
      }

  -- the volatile part
  put_volatile : (bs : List Ballot) (ss : List Stamp) (l : List ℕ) (v : Vote) → KeptsOk P bs ss → length bs ≡ 256 → length ss ≡ 256
      → MarksOk P l → length l ≡ most_jobs → VoteOk P x.core.own x.core.ballot v → length v.table ≡ most_jobs
      → Fine P (record { core = x.core; volatile = record { kept_ballots = bs; kept_stamps = ss; marks = l; vote = v } })
  put_volatile bs ss l v K nb ns M nm O nv =
      let S = F.sound in
      let L = F.lengths in
      record {
        sound =
            record {
              plan = S.plan;
              own = S.own;
              clock = S.clock;
              ballots = S.ballots;
              table = S.table;
              sent = S.sent;
              kept = K;
              marks = M;
              list = S.list;
              vote = O;
            };
        lengths = record { table = L.table; sent = L.sent; list = L.list; kept_ballots = nb; kept_stamps = ns; marks = nm; vote_table = nv };
      }

  marks_set : (j m : ℕ) → j < most_jobs → MarkOk P j m → MarksOk P (set x.volatile.marks j m)
  marks_set j m h K =
      let n = F.lengths.marks in
      record { job = λ k l. at_each (λ q. MarkOk P k q) x.volatile.marks j k m no_marks (omega arith) (λ e. rw e K) (λ e. F.sound.marks.job k l) }

  -- one kept pair
  kepts_set : (j d : ℕ) (b : Ballot) (s : Stamp) → j < most_jobs → d < most_districts → KeptOk P j (district d) b s
      → KeptsOk P (set x.volatile.kept_ballots (kept_at j (district d)) b) (set x.volatile.kept_stamps (kept_at j (district d)) s)
  unfolding kept_at
  kepts_set j d b s hj hd K = record { pair = λ k e lk le. go k e le (F.sound.kept.pair k e lk le) (ℕ_discrete k j) (ℕ_discrete e d) }
    where
      bs : List Ballot
      bs = x.volatile.kept_ballots

      ss : List Stamp
      ss = x.volatile.kept_stamps

      at : ℕ
      at = j * most_districts + d

      other : (k e : ℕ) → k * most_districts + e ≢ at
          → KeptOk P k (district e) (get_or bs (k * most_districts + e) no_ballot) (get_or ss (k * most_districts + e) no_stamp)
          → KeptOk P k (district e) (get_or (set bs at b) (k * most_districts + e) no_ballot) (get_or (set ss at s) (k * most_districts + e) no_stamp)
      other k e n O = rw (get_or-set_other bs at (k * most_districts + e) b no_ballot n, get_or-set_other ss at (k * most_districts + e) s no_stamp n) O

      go : (k e : ℕ) → e < most_districts → KeptOk P k (district e) (get_or bs (k * most_districts + e) no_ballot) (get_or ss (k * most_districts + e) no_stamp)
          → Dec (k ≡ j) → Dec (e ≡ d)
          → KeptOk P k (district e) (get_or (set bs at b) (k * most_districts + e) no_ballot) (get_or (set ss at s) (k * most_districts + e) no_stamp)
      go k e le O (yes p) (yes q) =
          let nb = F.lengths.kept_ballots in let ns = F.lengths.kept_stamps in
          rw (p, q, get_or-set_same bs at b no_ballot (omega arith), get_or-set_same ss at s no_stamp (omega arith)) K
      go k e le O (yes p) (no q) = other k e (λ z. q (omega arith)) O
      go k e le O (no p) _ = other k e (λ z. p (omega arith)) O

  -- the ACCEPT kept for a job and a district, and the job's marks
  pub put_kept_lem : (j d : ℕ) (b : Ballot) (s : Stamp) (m : ℕ) → j < most_jobs → d < most_districts → KeptOk P j (district d) b s → MarkOk P j m
      → Fine P (put_kept x j (district d) b s m)
  put_kept_lem j d b s m hj hd K M =
      let w = x.volatile in
      let L = F.lengths in
      put_volatile
      (set w.kept_ballots (kept_at j (district d)) b)
      (set w.kept_stamps (kept_at j (district d)) s)
      (set w.marks j m)
      w.vote
      (kepts_set j d b s hj hd K)
      (length-set w.kept_ballots (kept_at j (district d)) b ∙ L.kept_ballots)
      (length-set w.kept_stamps (kept_at j (district d)) s ∙ L.kept_stamps)
      (marks_set j m hj M)
      (length-set w.marks j m ∙ L.marks) F.sound.vote L.vote_table

  -- the marks of a job
  pub put_marks_lem : (j m : ℕ) → j < most_jobs → MarkOk P j m → Fine P (put_marks x j m)
  put_marks_lem j m hj M =
      let w = x.volatile in
      let L = F.lengths in
      put_volatile
      w.kept_ballots
      w.kept_stamps
      (set w.marks j m)
      w.vote
      F.sound.kept
      L.kept_ballots
      L.kept_stamps
      (marks_set j m hj M)
      (length-set w.marks j m ∙ L.marks) F.sound.vote L.vote_table

  -- the vote kept
  pub put_vote_lem : (v : Vote) → VoteOk P x.core.own x.core.ballot v → length v.table ≡ most_jobs → Fine P (put_vote x v)
  put_vote_lem v O n =
      let w = x.volatile in
      let L = F.lengths in
      put_volatile w.kept_ballots w.kept_stamps w.marks v F.sound.kept L.kept_ballots L.kept_stamps F.sound.marks L.marks O n

-- ---- one box more marked

-- a box of a named district
pub marked_ok : (P : Plan) (j m : ℕ) (p : BoxNo) → plan_sound P ≡ true → MarkOk P j m → is_box P p ≡ true → names P j (home_of P p) ≡ true
    → MarkOk P j (marked m p)
unfolding marked marks_in
marked_ok P j m p s M h n =
    let l = box_says P p h in
    let b = boxes_most P s in
    rw (pick_true (with_digit m p.0) m (lt-ltb p.0 most_marks (omega arith)))
    (record {
      low = with_digit_low m (boxes_of P) p.0 M.low l;
      named = λ d ld u. other d u (ℕ_discrete d (home_of P p).0) (dec_lt p.0 (d * size_of P)) ∙ M.named d ld u;
    })
  where
    other : (d : ℕ) → names P j (district d) ≡ false → Dec (d ≡ (home_of P p).0) → Dec (p.0 < d * size_of P)
        → part (with_digit m p.0) (d * size_of P) (size_of P) ≡ part m (d * size_of P) (size_of P)
    other d u (yes e) _ = never n (ap (λ (q : ℕ). names P j (district q)) (sym e) ∙ u)
    other d u (no e) (yes q) = part_below m p.0 (d * size_of P) (size_of P) q
    other d u (no e) (no q) = part_above m p.0 (d * size_of P) (size_of P) (behind (dec_lt d (home_of P p).0))
      where
        behind : Dec (d < (home_of P p).0) → d * size_of P + size_of P ≤ p.0
        behind (yes g) = let a = next_multiple d (home_of P p).0 (size_of P) g in omega (arith, home_from P p)
        behind (no g) = let a = next_multiple (home_of P p).0 d (size_of P) (omega arith) in absurd (omega (arith, home_to P p))
