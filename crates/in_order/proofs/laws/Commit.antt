-- The certificate that a commit makes: all kept ACCEPTs are in the post, the marks are its quorums.
-- Facts of the world before the step.
use Prim.Native.Nat.{◌≤◌, ◌<◌}
use mathlib.Core.Bool.{true}
use mathlib.Core.Path.{◌≡◌, sym, ap, ◌∙◌, subst}
use native.Mathlib.Omega.{arith}
use Rattle.laws.proofs.laws.Choice.{never, and_left, and_right}
use Rattle.house.specs.Pairs.{district}
use Rattle.house.proofs.laws.Orders.{ballot_order}
use Rattle.house.specs.declared.Ballot.{Ballot}
use Rattle.house.specs.declared.BoxNo.{BoxNo}
use Rattle.house.specs.declared.District.{District}
use Rattle.house.specs.Plan.{boxes_of, home_of, names}
use Rattle.house.proofs.laws.Says.{plan_says, names_district}
use Rattle.house.specs.declared.Plan.{Plan}
use Rattle.house.specs.Marks.{has_mark}
use Rattle.house.proofs.laws.Quorums.{quorum_each_says}
use Rattle.boxes.specs.Box.{own_of, home_in, kept_ballot, kept_stamp, marks_at}
use Rattle.boxes.specs.AcceptAck.{enough}
use Rattle.boxes.specs.Accept.{latest_kept}
use Rattle.world.specs.World.{World}
use Rattle.in_order.proofs.laws.Compare.{eq_le}
use Rattle.in_order.proofs.laws.Laws.{real_some, Latest, nowhere, somewhere, latest_is, latest_most}
use Rattle.in_order.proofs.laws.Notions.{the, Acc, Ack, Part, Cert, Final}
use Rattle.in_order.proofs.laws.Inv.{Inv}
use Rattle.in_order.proofs.laws.Moves.{Acking, Move, marks}
use Rattle.in_order.proofs.laws.StepVolatile.{mark_v2}
use Rattle.in_order.proofs.laws.Facts.{leads_own}

module _ (P : Plan) (w : World) (p : BoxNo) (known : p.0 < boxes_of P) (m : Move P w p) (I : Inv P w) (a : Acking P w p)
    (full : enough P (marks P w p a) a.j ≡ true) where
  pub own_mark : Ack P w.post p a.j (kept_ballot (the w p) a.j)
  unfolding enough marks_at kept_ballot
  own_mark =
      let h = and_left (has_mark (marks_at (marks P w p a) a.j) (own_of (marks P w p a))) _ full in
      mark_v2 P w p known m I a a.j p (subst (λ (q : BoxNo). has_mark (marks_at (marks P w p a) a.j) q ≡ true) (I.forms.box p known).own h)

  pub kept_own : kept_ballot (the w p) a.j (home_in P (the w p)) ≡ (the w p).core.cballot
  kept_own = sym (a.agree (home_in P (the w p)) a.named) ∙ a.own

  pub kept_acc : (d : District) → names P a.j d ≡ true → Acc w.post a.j (kept_ballot (the w p) a.j d) (kept_stamp (the w p) a.j d)
  kept_acc d n =
      I.volatiles.v1 p known a.j d (omega (arith, names_district P a.j d I.forms.plan n, (plan_says P I.forms.plan).districts_most))
      (real_some (kept_ballot (the w p) a.j d) ((I.forms.ack own_mark).real d n))

  part : (d : District) → names P a.j d ≡ true → Part P w.post a.j (kept_ballot (the w p) a.j) d (latest_kept P (the w p) a.j P.districts)
  unfolding enough marks_at kept_ballot
  part d n =
      let l = names_district P a.j d I.forms.plan n in
      record {
        stamp = kept_stamp (the w p) a.j d;
        acc = kept_acc d n;
        until = latest_most P (the w p) a.j P.districts d.0 l n;
        quorum =
            record {
              marks = marks_at (marks P w p a) a.j;
              enough =
                  quorum_each_says
                  P
                  a.j
                  (marks_at (marks P w p a) a.j)
                  (and_right (has_mark (marks_at (marks P w p a) a.j) (own_of (marks P w p a))) _ full)
                  d.0
                  l
                  n;
              each = λ q _ t. mark_v2 P w p known m I a a.j q t;
            };
      }

  pub certificate : Cert P w.post a.j (kept_ballot (the w p) a.j) (latest_kept P (the w p) a.j P.districts)
  certificate = go (latest_is P (the w p) a.j P.districts)
    where
      go : Latest P (the w p) a.j P.districts (latest_kept P (the w p) a.j P.districts)
          → Cert P w.post a.j (kept_ballot (the w p) a.j) (latest_kept P (the w p) a.j P.districts)
      go (nowhere f e) = never a.named (f (home_in P (the w p)).0 (names_district P a.j (home_in P (the w p)) I.forms.plan a.named))
      go (somewhere d l n e) = record { each = part; top = district d; named = n; attained = rw e (kept_acc (district d) n) }

  pub commit_final : Final P w.post a.j (home_in P (the w p)) (the w p).core.cballot (kept_stamp (the w p) a.j (home_in P (the w p)))
      (latest_kept P (the w p) a.j P.districts)
  commit_final =
      record {
        vector = kept_ballot (the w p) a.j;
        cert = certificate;
        named = a.named;
        below = eq_le ballot_order kept_own;
        local = kept_acc (home_in P (the w p)) a.named;
        own = rw (ap (λ (b : Ballot). b.owner) kept_own ∙ leads_own a.sound a.lead ∙ (I.forms.box p known).own) own_mark;
      }

  -- the own acknowledgement: the clock is not below the own kept stamp
  pub commit_clock : (kept_stamp (the w p) a.j (home_in P (the w p))).time ≤ (the w p).core.clock
  commit_clock =
      let A = I.acks.a1b own_mark in
      let h : home_in P (the w p) ≡ home_of P p = ap (λ (q : BoxNo). home_of P q) (I.forms.box p known).own in
      let S = A.stay (subst (λ (d : District). kept_ballot (the w p) a.j d ≡ (the w p).core.cballot) h kept_own) in
      let T = S.times (home_in P (the w p)) a.named in
      let e : T.stamp ≡ kept_stamp (the w p) a.j (home_in P (the w p)) = I.locals.i1a T.acc (kept_acc (home_in P (the w p)) a.named) in
      rw e at T.upto
