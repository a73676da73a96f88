-- Inside one world: what stands behind a joined ballot, one local stamp a ballot, and strong induction on the ballots of NEW_STATEs.
-- Everything in the files Core.. follows from the step invariants alone; no order is given there.
use Prim.Native.Nat.{ℕ, ◌≤◌, ◌<◌}
use mathlib.Core.List.{List}
use mathlib.Core.Logic.{◌≢◌}
use mathlib.Core.Path.{◌≡◌, refl, sym, ap, subst, ◌∙◌}
use native.Mathlib.Omega.{arith}
use native.Mathlib.Decide.{ℕ_discrete}
use Rattle.laws.proofs.laws.Induction.{strong}
use Rattle.laws.proofs.laws.Lex.{Below, first, second, lex_below}
use Rattle.house.specs.Pairs.{ballot_lt}
use Rattle.house.proofs.laws.Orders.{ballot_rank, ballot_rank_lem}
use Rattle.house.specs.declared.Stamp.{Stamp}
use Rattle.house.specs.declared.Ballot.{Ballot}
use Rattle.house.specs.declared.BoxNo.{BoxNo}
use Rattle.house.specs.declared.District.{District}
use Rattle.house.specs.Plan.{home_of}
use Rattle.house.proofs.laws.Says.{boxes_most, names_job}
use Rattle.house.specs.declared.Plan.{Plan}
use Rattle.records.specs.Rec.{Rec}
use Rattle.records.specs.declared.Ballotpaper.{Ballotpaper}
use Rattle.records.specs.declared.NewState.{NewState}
use Rattle.world.specs.World.{World}
use Rattle.in_order.proofs.laws.Compare.{Lower}
use Rattle.in_order.proofs.laws.Quorate.{meets}
use Rattle.in_order.proofs.laws.Notions.{row_in, Acc, Ack, Del, Voted, News, NewsOf, Joined, follows, heads, Lam, stated, asked, Timed, Acked, Voter}
use Rattle.in_order.proofs.laws.Notions.{Merge}
use Rattle.in_order.proofs.laws.Inv.{Inv}

-- ---- numbers

-- what is above a real ballot is real
pub lower_real : {a b : Ballot} → 1 ≤ a.number → Lower a b → 1 ≤ b.number
unfolding ballot_lt
lower_real {a} {b} r h = go (lex_below a.number a.owner.0 b.number b.owner.0 h.says)
  where
    go : Below a.number a.owner.0 b.number b.owner.0 → 1 ≤ b.number
    go (first l) = omega arith
    go (second e l) = omega arith

-- a later clock is not below either
pub timed_up : {l : List Rec} {m : ℕ} {b : Ballot} {k k' : ℕ} → Timed l m b k → k ≤ k' → Timed l m b k'
timed_up t h = record { stamp = t.stamp; acc = t.acc; upto = omega (arith, t.upto) }

-- a job and its local stamp in the ballot of y: the NEW_STATE has it, or it is new and was asked
pub data Known (P : Plan) (l : List Rec) (y : NewState) (m : ℕ) (s : Stamp) : Type 0 where
  old : m < P.jobs → (row_in y.table m).phase ≢ 0 → (row_in y.table m).local ≡ s → Known P l y m s
  recent : (row_in y.table m).phase ≡ 0 → Acc l m y.ballot s → Known P l y m s

module _ {P : Plan} {w : World} (I : Inv P w) where
  -- ---- ballots with a NEW_STATE

  -- who joined a ballot has its NEW_STATE
  pub joined_news : {p : BoxNo} {b : Ballot} → Joined w.post p b → NewsOf w.post b
  joined_news (follows n) = I.ballots.b4_news n
  joined_news (heads e n) = n

  -- B6a with B4: so has the ballot of an ACCEPT,
  pub acc_news : {m : ℕ} {b : Ballot} {s : Stamp} → Acc w.post m b s → NewsOf w.post b
  acc_news a = let q = I.ballots.b6a a in joined_news (meets q q).left

  -- of a DELIVER,
  pub del_news : {m : ℕ} {b : Ballot} {s t : Stamp} → Del w.post m b s t → NewsOf w.post b
  del_news d = let q = I.ballots.b6d d in joined_news (meets q q).left

  -- and of a local stamp
  pub lam_news : {b : Ballot} {m : ℕ} {s : Stamp} → Lam P w.post b m s → NewsOf w.post b
  lam_news (stated y n e l h q) = record { state = y; ballot = e; news = n }
  lam_news (asked a) = acc_news a

  -- a ballot with a NEW_STATE is real
  pub news_real : {b : Ballot} → NewsOf w.post b → 1 ≤ b.number
  news_real n = subst (λ (c : Ballot). 1 ≤ c.number) n.ballot (I.forms.news n.news).real

  -- what holds of a NEW_STATE if it holds of all with lower ballots holds of all
  pub by_ballot : (Q : NewState → Type 0)
      → ((y : NewState) → News w.post y → ((k : NewState) → News w.post k → Lower k.ballot y.ballot → Q k) → Q y)
      → (y : NewState) → News w.post y → Q y
  by_ballot Q f y n = strong (λ r. (k : NewState) → News w.post k → ballot_rank k.ballot ≡ r → Q k) step (ballot_rank y.ballot) y n refl
    where
      -- boxes are few, so ballots are ranked
      owner : (k : NewState) → News w.post k → k.ballot.owner.0 < 256
      owner k h = let a = (I.forms.news h).box in let b = boxes_most P I.forms.plan in omega arith

      step : (r : ℕ) → ((j : ℕ) → j < r → (k : NewState) → News w.post k → ballot_rank k.ballot ≡ j → Q k)
          → (k : NewState) → News w.post k → ballot_rank k.ballot ≡ r → Q k
      step r ih k h e =
          f k h (λ z a lo. let c = ballot_rank_lem z.ballot k.ballot (owner z a) (owner k h) lo.says in ih (ballot_rank z.ballot) (omega arith) z a refl)

  -- ---- local stamps

  -- R12: what is asked is a job
  pub acc_job : {m : ℕ} {b : Ballot} {s : Stamp} → Acc w.post m b s → m < P.jobs
  acc_job {m} {b} a = names_job P m (home_of P b.owner) (I.forms.acc a).named

  -- and so is what has a local stamp
  pub lam_job : {b : Ballot} {m : ℕ} {s : Stamp} → Lam P w.post b m s → m < P.jobs
  lam_job (stated y n e l h q) = l
  lam_job (asked a) = acc_job a

  -- where a local stamp of the ballot of y comes from
  pub known : {y : NewState} {m : ℕ} {s : Stamp} → News w.post y → Lam P w.post y.ballot m s → Known P w.post y m s
  known {y} {m} {s} n (stated k h e l d q) =
      let z : k ≡ y = I.ballots.i1b h n e in
      old l (subst (λ (v : NewState). (row_in v.table m).phase ≢ 0) z d) (subst (λ (v : NewState). (row_in v.table m).local ≡ s) z q)
  known {y} {m} {s} n (asked a) = go (ℕ_discrete (row_in y.table m).phase 0)
    where
      go : Dec ((row_in y.table m).phase ≡ 0) → Known P w.post y m s
      go (yes e) = recent e a
      go (no e) = old (acc_job a) e (I.locals.l0 a n refl e)

  -- lam(b,m) has one value
  pub lam_one : {b : Ballot} {m : ℕ} {s t : Stamp} → Lam P w.post b m s → Lam P w.post b m t → s ≡ t
  lam_one {m = m} (stated y n e l h q) (stated y' n' e' l' h' q') =
      sym q ∙ ap (λ (v : NewState). (row_in v.table m).local) (I.ballots.i1b n n' (e ∙ sym e')) ∙ q'
  lam_one (stated y n e l h q) (asked a) = sym q ∙ I.locals.l0 a n e h
  lam_one (asked a) (stated y n e l h q) = sym (I.locals.l0 a n e h) ∙ q
  lam_one (asked a) (asked c) = I.locals.i1a a c

  -- ---- the votes behind a NEW_STATE

  -- R12: a voter is of the ballot's district
  pub voter_home : {y : NewState} {top : Ballot} {u : BoxNo} {z : Ballotpaper} → Voter P w.post y top u z → home_of P u ≡ home_of P y.ballot.owner
  voter_home v = sym (I.forms.vote v.voted).home ∙ ap (λ (b : Ballot). home_of P b.owner) v.ballot

  -- R12: and has a lower cballot
  pub voter_lower : {y : NewState} {top : Ballot} {u : BoxNo} {z : Ballotpaper} → Voter P w.post y top u z → Lower z.cballot y.ballot
  voter_lower {z = z} v = subst (λ (b : Ballot). Lower z.cballot b) v.ballot (I.forms.vote v.voted).lower

  -- the highest cballot of the votes is lower than the ballot,
  pub top_lower : {y : NewState} (M : Merge P w.post y) → Lower M.top y.ballot
  top_lower {y} M = subst (λ (b : Ballot). Lower b y.ballot) M.is_top (voter_lower M.voter)

  -- if it is real it is of the same district
  pub top_home : {y : NewState} (M : Merge P w.post y) → 1 ≤ M.top.number → home_of P M.top.owner ≡ home_of P y.ballot.owner
  top_home {y} M r =
      subst (λ (b : Ballot). 1 ≤ b.number → home_of P b.owner ≡ home_of P M.highest) M.is_top (I.forms.vote M.voter.voted).chome r
      ∙ voter_home M.voter

  -- and has its NEW_STATE (B3v)
  pub top_news : {y : NewState} (M : Merge P w.post y) → 1 ≤ M.top.number → NewsOf w.post M.top
  top_news M r = subst (λ (b : Ballot). 1 ≤ b.number → NewsOf w.post b) M.is_top (I.holds.of_vote M.voter.voted).b3 r

  -- A1v, with a name for the voter's district
  pub told : {p : BoxNo} {m : ℕ} {f : District → Ballot} {z : Ballotpaper} {g : District} → Ack P w.post p m f → Voted w.post p z → home_of P p ≡ g
      → Lower (f g) z.ballot → Acked P w.post m f g z.cballot z.clock.time z.table
  told {m = m} {f = f} {z = z} a v e l =
      subst (λ (h : District). Lower (f h) z.ballot → Acked P w.post m f h z.cballot z.clock.time z.table) e (I.acks.a1v a v) l
