-- Laws of the merge over any list of votes: highest cballot, largest clock, where each row comes from, what is not lost.
-- From them the merge behind a NEW_STATE, whatever the number of votes.
use Prim.Native.Nat.{ℕ, zero, suc, ◌≤◌, ◌<◌}
use mathlib.Core.Bool.{Bool, true, false}
use mathlib.Core.List.{List, [], ◌∷◌, map}
use mathlib.Core.Logic.{◌⊎◌, inl, inr, ◌≢◌, ⊎_elim}
use mathlib.Core.Path.{◌≡◌, refl, sym, ap, ◌∙◌}
use native.Mathlib.Decide.{ℕ_discrete}
use native.Mathlib.Nat.{eq-or-lt_of_le}
use native.Mathlib.Omega.{arith}
use lib.Dec.{ltb}
use lib.ListN.{length, length-set, length-map}
use lib.Seq.{get_or-set_same, get_or-set_other}
use borrow.Author.Tests.{eqb-true, eq-eqb}
use Rattle.laws.proofs.laws.Choice.{never, pick_when, pick_true, pick_false, and_left, and_right, and_both}
use Rattle.laws.specs.Place.{In}
use Rattle.laws.proofs.laws.Place.{in_nil, in_head, in_tail, in_one, in_map}
use Rattle.laws.specs.Lex.{larger}
use Rattle.laws.proofs.laws.Lex.{larger_left, larger_right}
use Rattle.house.specs.Limits.{most_jobs}
use Rattle.house.specs.Pairs.{no_ballot, no_row, ballot_lt, same_ballot, higher_ballot}
use Rattle.house.proofs.laws.Orders.{ballot_order}
use Rattle.house.specs.declared.Ballot.{Ballot}
use Rattle.house.specs.declared.BoxNo.{BoxNo}
use Rattle.house.specs.declared.District.{District}
use Rattle.house.specs.declared.Row.{Row}
use Rattle.house.specs.Plan.{boxes_of, quorum_of, home_of, plan_sound}
use Rattle.house.specs.declared.Plan.{Plan}
use Rattle.records.specs.Rec.{Rec}
use Rattle.records.specs.declared.NewState.{NewState}
use Rattle.boxes.specs.NewleaderAck.{votes_with, votes_count}
use Rattle.boxes.specs.Merge.{top_ballot, top_clock, vote_row, committed_at, accepted_at, first_row, merged_row, merged_table}
use Rattle.boxes.specs.Box.{raised}
use Rattle.boxes.specs.declared.Vote.{Vote}
use Rattle.in_order.proofs.laws.Compare.{Upto, le_le}
use Rattle.in_order.proofs.laws.Laws.{larger_one, raised_left, raised_right}
use Rattle.in_order.proofs.laws.Counting.{Different, no_more, one_other, counted}
use Rattle.in_order.proofs.laws.Notions.{row_in, Voter, AVoter, Source, done, taken, start, Merge}
use Rattle.in_order.proofs.laws.Inv.{KeptVote}

-- ---- the highest cballot and the largest clock

top_upto : (vs : List Vote) (v : Vote) → In v vs → Upto v.cballot (top_ballot vs)
unfolding top_ballot
top_upto [] v i = absurd (in_nil i)
top_upto (u ∷ vs) v i = go (in_head i) (λ k. top_upto vs v k)
  where
    go : (v ≡ u) ⊎ In v vs → (In v vs → Upto v.cballot (top_ballot vs)) → Upto v.cballot (higher_ballot u.cballot (top_ballot vs))
    go (inl e) f = rw e (record { says = larger_left ballot_order u.cballot (top_ballot vs) })
    go (inr k) f = le_le ballot_order (f k) (record { says = larger_right ballot_order u.cballot (top_ballot vs) })

-- a vote has it
pub record Topmost (vs : List Vote) : Type 0 where
  pub vote : Vote
  pub there : In vote vs
  pub is_top : vote.cballot ≡ top_ballot vs

top_one : (v : Vote) → Topmost (v ∷ [])
unfolding top_ballot larger
top_one v = record { vote = v; there = record { place = 0; there = refl }; is_top = sym (pick_false no_ballot v.cballot (ballot_order.lowest v.cballot)) }

top_is : (v : Vote) (vs : List Vote) → Topmost (v ∷ vs)
unfolding top_ballot
top_is v [] = top_one v
top_is v (u ∷ vs) = go (top_is u vs) (larger_one ballot_lt v.cballot (top_ballot (u ∷ vs)))
  where
    go : Topmost (u ∷ vs)
        → (higher_ballot v.cballot (top_ballot (u ∷ vs)) ≡ v.cballot) ⊎ (higher_ballot v.cballot (top_ballot (u ∷ vs)) ≡ top_ballot (u ∷ vs))
        → Topmost (v ∷ u ∷ vs)
    go T (inl e) = record { vote = v; there = record { place = 0; there = refl }; is_top = sym e }
    go T (inr e) = record { vote = T.vote; there = in_tail T.there; is_top = T.is_top ∙ sym e }

clock_most : (vs : List Vote) (v : Vote) → In v vs → v.clock ≤ top_clock vs
unfolding top_clock
clock_most [] v i = absurd (in_nil i)
clock_most (u ∷ vs) v i = go (in_head i) (λ k. clock_most vs v k)
  where
    go : (v ≡ u) ⊎ In v vs → (In v vs → v.clock ≤ top_clock vs) → v.clock ≤ raised u.clock (top_clock vs)
    go (inl e) f = rw e (raised_left u.clock (top_clock vs))
    go (inr k) f = let h = f k in let r = raised_right u.clock (top_clock vs) in omega arith

-- ---- rows

data First (t : Vote → Bool) (j : ℕ) (vs : List Vote) (r s : Row) : Type 0 where
  hit : (v : Vote) → In v vs → t v ≡ true → s ≡ vote_row v j → First t j vs r s
  miss : ((v : Vote) → In v vs → t v ≡ false) → s ≡ r → First t j vs r s

first_is : (t : Vote → Bool) (j : ℕ) (vs : List Vote) (r : Row) → First t j vs r (first_row t j vs r)
unfolding first_row
first_is t j [] r = miss (λ v i. absurd (in_nil i)) refl
first_is t j (u ∷ vs) r =
    pick_when (λ s. First t j (u ∷ vs) r s) (t u) (λ h. hit u (record { place = 0; there = refl }) h refl) (λ h. go h (first_is t j vs r))
  where
    go : t u ≡ false → First t j vs r (first_row t j vs r) → First t j (u ∷ vs) r (first_row t j vs r)
    go h (hit v i e q) = hit v (in_tail i) e q
    go h (miss f q) = miss (λ v i. at v (in_head i)) q
      where
        at : (v : Vote) → (v ≡ u) ⊎ In v vs → t v ≡ false
        at v (inl e) = rw e h
        at v (inr k) = f v k

-- where a merged row comes from
pub data From (vs : List Vote) (j : ℕ) (r : Row) : Type 0 where
  from_done : (v : Vote) → In v vs → (row_in v.table j).phase ≡ 3 → r ≡ row_in v.table j → From vs j r
  from_taken : (v : Vote) → In v vs → v.cballot ≡ top_ballot vs → (row_in v.table j).phase ≡ 2 → r ≡ row_in v.table j → From vs j r
  from_none : r ≡ no_row → From vs j r

pub merged_from : (vs : List Vote) (j : ℕ) → From vs j (merged_row vs j)
unfolding merged_row committed_at accepted_at vote_row
merged_from vs j = go (first_is (committed_at j) j vs (first_row (accepted_at (top_ballot vs) j) j vs no_row))
    (first_is (accepted_at (top_ballot vs) j) j vs no_row)
  where
    go : First (committed_at j) j vs (first_row (accepted_at (top_ballot vs) j) j vs no_row) (merged_row vs j)
        → First (accepted_at (top_ballot vs) j) j vs no_row (first_row (accepted_at (top_ballot vs) j) j vs no_row) → From vs j (merged_row vs j)
    go (hit v i t q) _ = from_done v i (eqb-true (row_in v.table j).phase 3 t) q
    go (miss f q) (hit v i t e) =
        from_taken v i (ballot_order.eq_says v.cballot (top_ballot vs) (and_left (same_ballot v.cballot (top_ballot vs)) _ t))
        (eqb-true (row_in v.table j).phase 2 (and_right (same_ballot v.cballot (top_ballot vs)) _ t)) (q ∙ e)
    go (miss f q) (miss g e) = from_none (q ∙ e)

-- what a vote of highest cballot has accepted or committed is not lost
pub merged_keeps : (vs : List Vote) (j : ℕ) (v : Vote) → In v vs → v.cballot ≡ top_ballot vs → 2 ≤ (row_in v.table j).phase → (row_in v.table j).phase ≤ 3
    → 2 ≤ (merged_row vs j).phase
unfolding merged_row committed_at accepted_at vote_row
merged_keeps vs j v i c lo hi =
    go
    (first_is (committed_at j) j vs (first_row (accepted_at (top_ballot vs) j) j vs no_row))
    (first_is (accepted_at (top_ballot vs) j) j vs no_row)
    (ℕ_discrete (row_in v.table j).phase 3)
  where
    go : First (committed_at j) j vs (first_row (accepted_at (top_ballot vs) j) j vs no_row) (merged_row vs j)
        → First (accepted_at (top_ballot vs) j) j vs no_row (first_row (accepted_at (top_ballot vs) j) j vs no_row)
        → Dec ((row_in v.table j).phase ≡ 3)
        → 2 ≤ (merged_row vs j).phase
    go (hit u k t q) _ _ = let e = eqb-true (row_in u.table j).phase 3 t in rw (ap (λ (r : Row). r.phase) q) (omega arith)
    go (miss f q) _ (yes e) = never (eq-eqb (row_in v.table j).phase 3 e) (f v i)
    go (miss f q) (hit u k t e) (no n) =
        let z = eqb-true (row_in u.table j).phase 2 (and_right (same_ballot u.cballot (top_ballot vs)) _ t) in
        rw (ap (λ (r : Row). r.phase) (q ∙ e)) (omega arith)
    go (miss f q) (miss g e) (no n) =
        never
        (and_both (same_ballot v.cballot (top_ballot vs)) _ (rw c (ballot_order.eq_is (top_ballot vs))) (eq-eqb (row_in v.table j).phase 2 (omega arith)))
        (g v i)

-- ---- the merged table

pub merged_length : (vs : List Vote) (n : ℕ) → length (merged_table vs n) ≡ most_jobs
unfolding merged_table
merged_length vs zero = refl
merged_length vs (suc n) = length-set (merged_table vs n) n (merged_row vs n) ∙ merged_length vs n

pub merged_row_lem : (vs : List Vote) (n j : ℕ) → n ≤ most_jobs → j < n → row_in (merged_table vs n) j ≡ merged_row vs j
unfolding merged_table
merged_row_lem vs zero j few l = absurd (omega arith)
merged_row_lem vs (suc n) j few l =
    ⊎_elim
    (λ (e : j ≡ n). rw e (get_or-set_same (merged_table vs n) n (merged_row vs n) no_row (omega (arith, merged_length vs n))))
    (λ (h : j < n). get_or-set_other (merged_table vs n) n j (merged_row vs n) no_row (omega arith) ∙ merged_row_lem vs n j (omega arith) h)
    (eq-or-lt_of_le {n = j} {m = n} (omega arith))

-- ---- the votes at hand

pub data Shape (old new : Vote) (vs : List Vote) : Type 0 where
  alone : old.held ≡ false → vs ≡ new ∷ [] → Shape old new vs
  old_first : old.held ≡ true → vs ≡ old ∷ new ∷ [] → Shape old new vs
  new_first : old.held ≡ true → vs ≡ new ∷ old ∷ [] → Shape old new vs

pub votes_shape : (old new : Vote) → Shape old new (votes_with old new)
unfolding votes_with
votes_shape old new =
    pick_when (λ vs. Shape old new vs) old.held
    (λ h. pick_when (λ vs. Shape old new vs) (ltb old.voter.0 new.voter.0) (λ _. old_first h refl) (λ _. new_first h refl))
    (λ h. alone h refl)

-- what holds of the new vote, and of the old one if it is held, holds of all
pub votes_all : (Q : Vote → Type 0) (old new : Vote) (vs : List Vote) → Shape old new vs → Q new → (old.held ≡ true → Q old) → (v : Vote) → In v vs → Q v
votes_all Q old new vs (alone h e) n o v i = rw (in_one (rw e at i)) n
votes_all Q old new vs (old_first h e) n o v i = go (in_head (rw e at i))
  where
    go : (v ≡ old) ⊎ In v (new ∷ []) → Q v
    go (inl q) = rw q (o h)
    go (inr k) = rw (in_one k) n
votes_all Q old new vs (new_first h e) n o v i = go (in_head (rw e at i))
  where
    go : (v ≡ new) ⊎ In v (old ∷ []) → Q v
    go (inl q) = rw q n
    go (inr k) = rw (in_one k) (o h)

votes_long : (old new : Vote) (vs : List Vote) → Shape old new vs → length vs ≡ votes_count old
unfolding votes_count
votes_long old new vs (alone h e) = ap length e ∙ sym (pick_false 2 1 h)
votes_long old new vs (old_first h e) = ap length e ∙ sym (pick_true 2 1 h)
votes_long old new vs (new_first h e) = ap length e ∙ sym (pick_true 2 1 h)

votes_top : (old new : Vote) (vs : List Vote) → Shape old new vs → Topmost vs
votes_top old new vs (alone h e) = rw e (top_is new [])
votes_top old new vs (old_first h e) = rw e (top_is old (new ∷ []))
votes_top old new vs (new_first h e) = rw e (top_is new (old ∷ []))

-- the voters
abbrev voters : List Vote → List BoxNo
voters vs = map (λ v. v.voter) vs

voters_long : (vs : List Vote) → length (voters vs) ≡ length vs
voters_long vs = length-map vs (λ (v : Vote). v.voter)

votes_different : (P : Plan) (d : District) (old new : Vote) (vs : List Vote) → Shape old new vs → new.voter.0 < boxes_of P → home_of P new.voter ≡ d
    → (old.held ≡ true → old.voter.0 < boxes_of P)
    → (old.held ≡ true → home_of P old.voter ≡ d)
    → (old.held ≡ true → old.voter ≢ new.voter)
    → Different P d (voters vs)
votes_different P d old new vs (alone h e) ln hn lo ho n = rw e (one_other ln hn (λ i. in_nil i) no_more)
votes_different P d old new vs (old_first h e) ln hn lo ho n = rw e (one_other (lo h) (ho h) (λ i. n h (in_one i)) (one_other ln hn (λ i. in_nil i) no_more))
votes_different P d old new vs (new_first h e) ln hn lo ho n =
    rw e (one_other ln hn (λ i. n h (sym (in_one i))) (one_other (lo h) (ho h) (λ i. in_nil i) no_more))

-- a vote at hand stands in the post, and its rows have phases
pub record Stands (P : Plan) (l : List Rec) (b : Ballot) (v : Vote) : Type 0 where
  pub kept : KeptVote l v b
  pub most : (m : ℕ) → m < P.jobs → (row_in v.table m).phase ≤ 3

-- the merge of votes that stand in the post, a quorum of them
module _ (P : Plan) (l : List Rec) (y : NewState) (old new : Vote) (plan : plan_sound P ≡ true)
    (enough : quorum_of P ≤ votes_count old)
    (stands_new : Stands P l y.ballot new) (stands_old : old.held ≡ true → Stands P l y.ballot old)
    (new_box : new.voter.0 < boxes_of P) (new_home : home_of P new.voter ≡ home_of P y.ballot.owner)
    (old_box : old.held ≡ true → old.voter.0 < boxes_of P) (old_home : old.held ≡ true → home_of P old.voter ≡ home_of P y.ballot.owner)
    (apart : old.held ≡ true → old.voter ≢ new.voter)
    (clock : y.clock.time ≡ top_clock (votes_with old new))
    (rows : (m : ℕ) → m < P.jobs → row_in y.table m ≡ merged_row (votes_with old new) m) where
  vs : List Vote
  vs = votes_with old new

  shape : Shape old new vs
  unfolding vs
  shape = votes_shape old new

  stands : (v : Vote) → In v vs → Stands P l y.ballot v
  stands = votes_all (λ v. Stands P l y.ballot v) old new vs shape stands_new stands_old

  voter_is : (v : Vote) (i : In v vs) → Voter P l y (top_ballot vs) v.voter (stands v i).kept.paper
  unfolding vs
  voter_is v i =
      let S = stands v i in
      let K = S.kept in
      record {
        voted = K.voted;
        ballot = K.ballot;
        upto = rw K.cballot (top_upto vs v i);
        clock = rw (K.clock, clock) (clock_most vs v i);
        keeps = λ m low c h. rw (rows m low)
            (merged_keeps vs m v i (sym K.cballot ∙ c) (rw K.table at h) (S.most m low));
      }

  pub merge_of : Merge P l y
  unfolding vs
  merge_of =
      let T = votes_top old new vs shape in
      record {
        top = top_ballot vs;
        quorum =
            counted
            (voters vs)
            (λ u. AVoter P l y (top_ballot vs) u)
            plan
            (votes_different P (home_of P y.ballot.owner) old new vs shape new_box new_home old_box old_home apart)
            (omega (arith, voters_long vs, votes_long old new vs shape))
            (λ u i.
            let z = in_map (λ (v : Vote). v.voter) vs i in
            rw z.2 (record { paper = (stands z.0 z.1).kept.paper; voter = voter_is z.0 z.1 }));
        highest = T.vote.voter;
        paper = (stands T.vote T.there).kept.paper;
        voter = voter_is T.vote T.there;
        is_top = (stands T.vote T.there).kept.cballot ∙ T.is_top;
        rows = λ m low. source m low (merged_from vs m);
      }
    where
      source : (m : ℕ) → m < P.jobs → From vs m (merged_row vs m) → Source P l y (top_ballot vs) m
      source m low (from_done v i e q) =
          let K = (stands v i).kept in done v.voter K.paper (voter_is v i) (rw K.table e) (rw K.table (rows m low ∙ q))
      source m low (from_taken v i c e q) =
          let K = (stands v i).kept in taken v.voter K.paper (voter_is v i) (K.cballot ∙ c) (rw K.table e) (rw K.table (rows m low ∙ q))
      source m low (from_none q) = start (ap (λ (r : Row). r.phase) (rows m low ∙ q))
