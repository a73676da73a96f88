-- Laws of what specs/Runs.antt defines.
use Rattle.records.specs.Answers.{refusal_no}
use Prim.Native.Nat.{ℕ, ◌≤◌, ◌<◌}
use mathlib.Core.Bool.{Bool, true, false}
use mathlib.Core.List.{List, [], ◌∷◌, ◌++◌}
use mathlib.Core.Logic.{◌⊎◌, inl, inr}
use mathlib.Core.Path.{◌≡◌, refl, sym, ap, subst₂, ◌∙◌}
use native.Mathlib.Omega.{arith}
use lib.ListN.{length, take}
use lib.Seq.{ext_get_or, length-take-le, get_or-take}
use lib.Dec.{eqb}
use borrow.Author.Tests.{eqb-true}
use Rattle.laws.specs.Choice.{pick}
use Rattle.laws.proofs.laws.Choice.{pick_true, pick_false, look, never}
use Rattle.house.specs.Pairs.{box_no}
use Rattle.house.specs.Plan.{boxes_of, plan_sound}
use Rattle.house.proofs.laws.Says.{boxes_most}
use Rattle.house.specs.declared.Plan.{Plan}
use Rattle.house.specs.declared.Order.{Order}
use Rattle.records.specs.Bytes.{encode_all, parse}
use Rattle.records.specs.Rec.{carried, meaning}
use Rattle.records.proofs.laws.Rec.{meaning_carried}
use Rattle.spelling.proofs.laws.Round.{parse_encode}
use Rattle.boxes.specs.Box.{fresh}
use Rattle.boxes.specs.Out.{Out, refused, does}
use Rattle.world.specs.World as Worlds
use Rattle.world.specs.World.{World, fresh_boxes, new, run, step, record_at}
use Rattle.world.proofs.laws.Fresh.{fresh_length, fresh_at}
use Rattle.world.proofs.laws.Reached.{Reached, record_good, new_reached, reached_step, reached}
use Rattle.world.proofs.laws.Answers.{answers}
use Rattle.rehearsal.specs.Night as Nights
use Rattle.rehearsal.specs.Night.{fresh_night}
use Rattle.rehearsal.specs.declared.Night.{Night}
use Rattle.rehearsed.proofs.laws.Same.{Same, bytes_same}
use Rattle.rehearsed.specs.Turns.{night_after, post_after}
use Rattle.rehearsed.proofs.laws.Turns.{Alike, both_refuse, both_do, full, alike}
use Rattle.rehearsed.specs.Runs.{Stage, after, rehearsed, beginning, answered, said_at}

-- refused by 12
abbrev pub is_full : Out → Bool
is_full (refused why) = eqb (refusal_no why) 12
is_full (does x l d) = false

-- the orders of a rehearsal that 12 did not refuse
unfoldable pub kept : Plan → Stage → List Order → List Order
kept P r [] = []
kept P r (o ∷ os) = pick (is_full (answered P r o)) (kept P (after P r o) os) (o ∷ kept P (after P r o) os)

-- what came of those orders, here and in a world
unfoldable pub heard : Plan → Stage → List Order → List Out
heard P r [] = []
heard P r (o ∷ os) = pick (is_full (answered P r o)) (heard P (after P r o) os) (answered P r o ∷ heard P (after P r o) os)

unfoldable pub world_heard : Plan → World → List Order → List Out
world_heard P w [] = []
world_heard P w (o ∷ os) = Worlds.given P w o ∷ world_heard P (step P w o) os

-- side by side
abbrev pub Beside : Plan → Stage → World → Type 0
Beside P r w = Same P r.night r.post w

-- ---- one order

module _ {P : Plan} {r : Stage} {w : World} (R : Reached P w) (S : Beside P r w) (o : Order) where
  -- refused by 12: all stays, and the world is not asked
  pub full_beside : is_full (answered P r o) ≡ true → Beside P (after P r o) w
  unfolding after
  full_beside e = go (alike R S o)
    where
      go : Alike P r.night r.post w o → Same P (night_after P r.night r.post o) (post_after P r.night r.post o) w
      go (both_refuse a) =
          let h = (answers R o a.why a.world_refuses).high in
          let q = eqb-true (refusal_no a.why) 12 (ap is_full (sym a.refuses) ∙ e) in
          absurd (omega arith)
      go (both_do a) = never e (ap is_full a.does_it)
      go (full a) = subst₂ (λ (n : Night) (s : List ℕ). Same P n s w) (sym a.night) (sym a.post) S

  -- any other order: the world's step, with the same answer
  pub step_beside : is_full (answered P r o) ≡ false → Beside P (after P r o) (step P w o)
  unfolding after
  step_beside e = go (alike R S o)
    where
      go : Alike P r.night r.post w o → Same P (night_after P r.night r.post o) (post_after P r.night r.post o) (step P w o)
      go (both_refuse a) = rw a.world (subst₂ (λ (n : Night) (s : List ℕ). Same P n s w) (sym a.night) (sym a.post) S)
      go (both_do a) = a.same
      go (full a) = never (ap is_full a.refuses) e

  pub step_answer : is_full (answered P r o) ≡ false → answered P r o ≡ Worlds.given P w o
  step_answer e = go (alike R S o)
    where
      go : Alike P r.night r.post w o → Nights.given P r.night r.post o ≡ Worlds.given P w o
      go (both_refuse a) = a.refuses ∙ sym a.world_refuses
      go (both_do a) = a.does_it ∙ sym a.world_does
      go (full a) = never (ap is_full a.refuses) e

  -- the lent post keeps its length
  pub after_long : length (after P r o).post ≡ length r.post
  unfolding after
  after_long = go (alike R S o)
    where
      go : Alike P r.night r.post w o → length (post_after P r.night r.post o) ≡ length r.post
      go (both_refuse a) = ap (length) a.post
      go (both_do a) = a.long
      go (full a) = ap (length) a.post

-- ---- orders one after the other

-- what a rehearsal from here on comes to, beside a world
pub record Played (P : Plan) (r : Stage) (w : World) (os : List Order) : Type 0 where
  pub beside : Beside P (rehearsed P r os) (run P w (kept P r os))
  pub answers_same : heard P r os ≡ world_heard P w (kept P r os)
  pub long : length (rehearsed P r os).post ≡ length r.post

pub played : {P : Plan} {r : Stage} {w : World} → Reached P w → Beside P r w → (os : List Order) → Played P r w os
unfolding rehearsed kept run heard world_heard
played R S [] = record { beside = S; answers_same = refl; long = refl }
played {P} {r} {w} R S (o ∷ os) = go (look (is_full (answered P r o))) (λ v T B. played {r = after P r o} T B os)
  where
    go : (is_full (answered P r o) ≡ true) ⊎ (is_full (answered P r o) ≡ false)
        → ((v : World) → Reached P v → Beside P (after P r o) v → Played P (after P r o) v os) → Played P r w (o ∷ os)
    go (inl e) again =
        let p = again w R (full_beside R S o e) in
        record {
          beside = rw (pick_true (kept P (after P r o) os) (o ∷ kept P (after P r o) os) e) p.beside;
          answers_same =
              rw (
                pick_true (kept P (after P r o) os) (o ∷ kept P (after P r o) os) e,
                pick_true (heard P (after P r o) os) (answered P r o ∷ heard P (after P r o) os) e,
              )
              p.answers_same;
          long = p.long ∙ after_long R S o;
        }
    go (inr e) again =
        let p = again (step P w o) (reached_step R o) (step_beside R S o e) in
        record {
          beside = rw (pick_false (kept P (after P r o) os) (o ∷ kept P (after P r o) os) e) p.beside;
          answers_same =
              rw (
                pick_false (kept P (after P r o) os) (o ∷ kept P (after P r o) os) e,
                pick_false (heard P (after P r o) os) (answered P r o ∷ heard P (after P r o) os) e,
                step_answer R S o e,
                p.answers_same,
              );
          long = p.long ∙ after_long R S o;
        }

-- ---- the moments of a rehearsal are moments of the world's run

pub rehearsed_then : (P : Plan) (r : Stage) (os later : List Order) → rehearsed P r (os ++ later) ≡ rehearsed P (rehearsed P r os) later
unfolding rehearsed
rehearsed_then P r [] later = refl
rehearsed_then P r (o ∷ os) later = rehearsed_then P (after P r o) os later

pub kept_then : (P : Plan) (r : Stage) (os later : List Order) → kept P r (os ++ later) ≡ kept P r os ++ kept P (rehearsed P r os) later
unfolding rehearsed kept pick
kept_then P r [] later = refl
kept_then P r (o ∷ os) later = go (is_full (answered P r o)) (kept_then P (after P r o) os later)
  where
    rest : List Order
    rest = kept P (rehearsed P (after P r o) os) later

    go : (t : Bool) → kept P (after P r o) (os ++ later) ≡ kept P (after P r o) os ++ rest
        → pick t (kept P (after P r o) (os ++ later)) (o ∷ kept P (after P r o) (os ++ later))
        ≡ pick t (kept P (after P r o) os) (o ∷ kept P (after P r o) os) ++ rest
    go true e = e
    go false e = ap (λ (x : List Order). o ∷ x) e

-- ---- from the beginning

fresh_boxes_lem : (n m : ℕ) → m ≤ n → take m (fresh_boxes n) ≡ fresh_boxes m
fresh_boxes_lem n m h =
    let a = fresh_length n in let b = fresh_length m in let t = length-take-le m (fresh_boxes n) (omega arith) in
    ext_get_or (fresh (box_no 0)) (take m (fresh_boxes n)) (fresh_boxes m) (t ∙ sym b)
    (λ i l. get_or-take m (fresh_boxes n) i (fresh (box_no 0)) (omega arith) ∙ fresh_at n i (omega arith) ∙ sym (fresh_at m i (omega arith)))

pub beginning_beside : (P : Plan) → plan_sound P ≡ true → (s : List ℕ) → Beside P (beginning s) (new P)
unfolding beginning fresh_night new fresh_boxes encode_all
beginning_beside P sound s =
    record {
      boxes = fresh_boxes_lem 12 (boxes_of P) (boxes_most P sound);
      twelve = refl;
      used = refl;
      bytes = refl;
      fits = omega arith;
    }

module _ (P : Plan) (sound : plan_sound P ≡ true) (s : List ℕ) where
  -- the world of a rehearsal
  abbrev pub world_of : List Order → World
  world_of os = run P (new P) (kept P (beginning s) os)

  -- a rehearsal of any orders, whatever bytes the lent post had
  pub rehearsal : (os : List Order) → Played P (beginning s) (new P) os
  rehearsal os = played (new_reached P sound) (beginning_beside P sound s) os

  pub rehearsal_beside : (os : List Order) → Beside P (rehearsed P (beginning s) os) (world_of os)
  rehearsal_beside os = (rehearsal os).beside

  -- its world is one of those that demand 3 speaks of
  pub rehearsal_reached : (os : List Order) → Reached P (world_of os)
  rehearsal_reached os = reached P sound (kept P (beginning s) os)

pub said_same : {P : Plan} {r : Stage} {w : World} → Reached P w → Beside P r w → (k : ℕ) → k < length w.post → said_at P r k ≡ record_at w k
said_same {P} {r} {w} R S k l =
    let g = record_good R k l in
    ap (λ (x : List ℕ). meaning (parse P x)) (bytes_same R S k l)
    ∙ ap meaning (parse_encode P (carried (record_at w k)) R.plan g.sized g.is_valid) ∙ meaning_carried (record_at w k)
