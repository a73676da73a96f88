-- Laws of what specs/Turned.antt defines.
use Rattle.std.specs.Prelude.{Err, Ok, None, Some, is_some, unwrap_or}
use Prim.Native.Nat.{ℕ, ◌≤◌}
use mathlib.Core.Bool.{true, false}
use mathlib.Core.List.{List}
use mathlib.Core.Path.{◌≡◌, refl, sym, ap, ◌∙◌}
use native.Mathlib.Omega.{arith}
use lib.ListN.{length, set, take}
use Rattle.std.proofs.lemmas.List.{set-get_or}
use Rattle.laws.specs.Choice.{pick}
use Rattle.laws.specs.Tray.{onto}
use Rattle.house.specs.Limits.{least_tray}
use Rattle.house.specs.Pairs.{box_no}
use Rattle.house.specs.Plan.{plan_sound}
use Rattle.house.specs.declared.Order.{Order}
use Rattle.records.specs.declared.Record.{Record}
use Rattle.records.specs.declared.answers.Refusal.TheVariants.{PostFull}
use Rattle.records.specs.Bytes.{encode_all}
use Rattle.boxes.specs.Box.{fresh}
use Rattle.boxes.specs.Out.{Out, result_of, records_of}
use Rattle.boxes.specs.declared.BoxState.{BoxState}
use Rattle.boxes.specs.declared.Outcome.{Outcome}
use Rattle.report.specs.Texts.{answer_most}
use Rattle.lines.specs.declared.Typed.{Typed}
use Rattle.rehearsal.specs.Night.{box_in}
use Rattle.rehearsal.specs.Steps.{step_of, Can}
use Rattle.rehearsal.specs.declared.Night.{Night}
use Rattle.rehearsal.proofs.laws.Settled.{wrote, turned_does, turned_full, settles_front, settles_more, after_state}
use Rattle.session.specs.declared.Desk.{Desk}
use Rattle.session.specs.Desk.{fixed_desk}
use Rattle.report.specs.Texts.{turn_text}
use Rattle.session.proofs.laws.HeardLaws.{obeyed_is}
use Rattle.session.specs.Hears.{ask_of, settled_text, Hears}
use Rattle.session.specs.declared.hear.Heard.{Heard}
use Rattle.session.specs.declared.turn.Finished.{Finished}
use Rattle.session.specs.Turned.{Finishes, Turns}

-- ---- laws

-- a box that did not change, put back in its place
pub as_it_was : (n : Night) (at : ℕ) {x : BoxState} → box_in n at ≡ x → n.boxes ≡ set n.boxes at x
unfolding box_in
as_it_was n at e = sym (ap (set n.boxes at) (sym e) ∙ set-get_or n.boxes at (fresh (box_no 0)))

-- a box has been asked
module _ {desk : Desk} {used : ℕ} {x : BoxState} {post : List ℕ} {t : Typed} {h : Heard} {before mid : List ℕ} (H : Hears desk used x post t h before mid) where
  -- the line is done with
  pub turns_passed : h.goes ≡ None
      → Turns desk used x post t (record { desk = h.desk; used = used; text = h.text; known = h.known }) x post before mid
  turns_passed f =
      record {
        most = H.most;
        does = λ n at S.
            let D = H.done f n at S in (
              D.0,
              D.1
                  ∙ ap (λ (u : ℕ). record { desk = h.desk; night = record { boxes = n.boxes; used = u }; post = post; text = D.0 }) S.used_is
                  ∙ ap (λ (l : List BoxState). record { desk = h.desk; night = record { boxes = l; used = used }; post = post; text = D.0 })
                  (as_it_was n at S.box_is),
              D.2,
              D.3,
            );
        known = H.known;
        stays = λ e. e;
        fixed = H.fixed;
        more = omega arith;
        front = refl;
      }

  -- it is an order that goes
  module _ {r : Record} (go : h.goes ≡ Some r) {a : Order} (is_a : a ≡ ask_of t) where
    pub can_step : (plan_sound desk.plan ≡ true) × Can desk.plan x a r
        × (length (encode_all desk.plan (records_of (step_of desk.plan x a r))) ≤ least_tray)
    can_step = let G = (H.go r go).0 in (G.plan_is_sound, rw is_a G.can, rw is_a G.fits)

    -- its box has stepped
    module _ (tray : List ℕ) {out : Outcome} {written : List ℕ}
        (O : (out ≡ result_of desk.plan x (step_of desk.plan x a r))
        × (written ≡ onto (encode_all desk.plan (records_of (step_of desk.plan x a r))) tray))
        (long : length written ≡ length tray) where
      abbrev step : Out
      step = step_of desk.plan x (ask_of t) r

      is : out ≡ result_of desk.plan x step
      is = rw (← is_a) O.0

      wrote_now : (out.used ≤ length written) × (take out.used written ≡ encode_all desk.plan (records_of step))
      wrote_now = wrote desk.plan x step tray written out is (rw (← is_a) O.1) long

      pub can_finish : answer_most ≤ length before → (out.used ≤ length written) × (answer_most ≤ length mid)
      can_finish m = (wrote_now.0, rw (H.go r go).2 m)

      -- it is answered
      module _ {v : Finished} {later after : List ℕ} (S : Finishes used out.used out.records written post mid v later after) where
        said : after ≡ onto (settled_text (is_some v.used) out.records) before
        said = rw (← (H.go r go).2) S.printed

        -- its records fit
        pub turns_gone : {u : ℕ} → v.used ≡ Some u
            → Turns desk used x post t (record { desk = h.desk; used = u; text = v.text; known = h.known }) out.state later before after
        unfolding pick
        turns_gone {u} f =
            let fits : is_some v.used ≡ true = rw f in
            let used_is : unwrap_or v.used used ≡ u = rw f in
            record {
              most = S.few;
              does = λ n at T. (
                turn_text (Ok out.records),
                rw (H.go r go).3
                    (
                    (H.go r go).4 n ∙ obeyed_is desk (turned_does (H.go r go).0 out is n at T written later wrote_now.1 v.used S.settles fits)
                    ∙ ap
                    (λ (k : ℕ). record {
                      desk = fixed_desk desk;
                      night = record { boxes = set n.boxes at out.state; used = k };
                      post = later;
                      text = turn_text (Ok out.records);
                    })
                    used_is
                    ),
                rw fits at S.said,
                rw fits at said,
              );
              known = H.known;
              stays = rw ((H.go r go).3, after_state desk.plan x step is) (H.go r go).0.stays;
              fixed = H.fixed;
              more = rw used_is at (settles_more S.settles);
              front = settles_front S.settles;
            }

        -- or the post is full
        pub turns_full : v.used ≡ None
            → Turns desk used x post t (record { desk = h.desk; used = used; text = v.text; known = h.known }) x later before after
        unfolding pick
        turns_full f =
            let full : is_some v.used ≡ false = rw f in
            record {
              most = S.few;
              does = λ n at T. (
                turn_text (Err PostFull),
                rw (H.go r go).3
                    (
                    (H.go r go).4 n ∙ obeyed_is desk (turned_full (H.go r go).0 out is n at T written later wrote_now.1 v.used S.settles full)
                    ∙ ap
                    (λ (k : ℕ). record {
                      desk = fixed_desk desk;
                      night = record { boxes = n.boxes; used = k };
                      post = later;
                      text = turn_text (Err PostFull);
                    })
                    T.used_is
                    ∙ ap
                    (λ (l : List BoxState). record {
                      desk = fixed_desk desk;
                      night = record { boxes = l; used = used };
                      post = later;
                      text = turn_text (Err PostFull);
                    })
                    (as_it_was n at T.box_is)
                    ),
                rw full at S.said,
                rw full at said,
              );
              known = H.known;
              stays = λ e. e;
              fixed = H.fixed;
              more = omega arith;
              front = settles_front S.settles;
            }
