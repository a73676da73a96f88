-- Laws of what specs/Settled.antt defines.
use Rattle.std.specs.Prelude.{Err, Ok, Option, is_some, unwrap_or}
use Prim.Native.Nat.{ℕ, ◌+◌, ◌-◌, ◌≤◌}
use mathlib.Core.Bool.{true, false, ◌||◌}
use mathlib.Core.List.{List, ◌++◌}
use mathlib.Core.Logic.{◌⊎◌, inl, inr}
use mathlib.Core.Path.{◌≡◌, refl, sym, ap, ◌∙◌}
use native.Mathlib.Omega.{arith}
use lib.ListN.{length, take, drop, set, take-append-drop, length-append, length-drop}
use lib.Dec.{leb, ltb, eqb}
use lib.Seq.{take_at, length-take-le}
use borrow.Author.Tests.{ltb-true, leb-true, eqb-true}
use Rattle.laws.proofs.laws.Choice.{pick_true, pick_false, pick_when, pick_both, look}
use Rattle.laws.specs.Tray.{onto}
use Rattle.laws.proofs.laws.Tray.{onto_nil, onto_front}
use Rattle.house.specs.Limits.{most_post}
use Rattle.house.specs.declared.Plan.{Plan}
use Rattle.house.specs.declared.Order.{Order}
use Rattle.records.specs.declared.answers.Refusal.{Refusal}
use Rattle.records.specs.declared.answers.Refusal.TheVariants.{PostFull}
use Rattle.records.specs.Bytes.{encode_all}
use Rattle.records.specs.Rec.{Rec}
use Rattle.records.specs.declared.Record.{Record}
use Rattle.boxes.specs.Out.{Out, refused, does, result_of, records_of}
use Rattle.boxes.specs.Promise.{was_done, box_after}
use Rattle.boxes.specs.declared.BoxState.{BoxState}
use Rattle.boxes.specs.declared.Outcome.{Outcome}
use Rattle.steps.proofs.laws.Acting.{guard_on}
use Rattle.steps.proofs.laws.Judging.{guard_off}
use Rattle.records.proofs.laws.Bytes.{encode_none}
use Rattle.post.specs.Posting.{room_of}
use Rattle.post.proofs.laws.Posting.{room_most}
use Rattle.rehearsal.specs.Night.{whose, exists, fitting, if_fits, given, post_of}
use Rattle.rehearsal.specs.Promises.{OrderRehearsed}
use Rattle.rehearsal.proofs.laws.Promises.{order_rehearsed}
use Rattle.rehearsal.specs.Alone.{Stands, here, alone}
use Rattle.rehearsal.proofs.laws.Alone.{alone_is, exists_is}
use Rattle.rehearsal.specs.Steps.{step_of, Goes}
use Rattle.rehearsal.specs.declared.Night.{Night}
use Rattle.rehearsal.specs.Settled.{Settles}

pub room_few : (s : List ℕ) → room_of s ≤ most_post
unfolding room_of
room_few s = pick_when (λ n. n ≤ most_post) (ltb (length s) most_post) (λ h. let l = ltb-true (length s) most_post h in omega arith) (λ h. omega arith)

-- a refusal leaves the post as it is
pub post_same : (P : Plan) (n : Night) (s : List ℕ) (why : Refusal) → post_of P n s (refused why) ≡ s
post_same P n s why = rw (encode_none P, onto_nil (drop n.used s)) (take-append-drop n.used s)

-- no byte behind what is used
pub none_behind : (s tray : List ℕ) (used more : ℕ) → more ≡ 0 → s ≡ take used s ++ onto (take more tray) (drop used s)
none_behind s tray used more e = rw (e, onto_nil (drop used s)) (sym (take-append-drop used s))

-- a refused order
pub rehearsed_no : {P : Plan} {n : Night} {s : List ℕ} {o : Order} (why : Refusal) → given P n s o ≡ refused why
    → OrderRehearsed P n s o (record { night = n; answer = Err why }) s
rehearsed_no {P} {n} {s} {o} why e = order_rehearsed (rw e) (rw e (sym (post_same P n s why)))

-- ---- what a step wrote stands at the front of its tray

onto_long : (bs t : List ℕ) → length (onto bs t) ≡ length bs + (length t - length bs)
unfolding onto
onto_long bs t = rw (length-append, length-drop)

result_used : (P : Plan) (x : BoxState) (o : Out) → (result_of P x o).used ≡ length (encode_all P (records_of o))
result_used P x (refused why) = rw (encode_none P)
result_used P x (does y l d) = refl

pub wrote : (P : Plan) (x : BoxState) (o : Out) (t l : List ℕ) (out : Outcome) → out ≡ result_of P x o → l ≡ onto (encode_all P (records_of o)) t
    → length l ≡ length t
    → (out.used ≤ length l) × (take out.used l ≡ encode_all P (records_of o))
wrote P x o t l out e w k =
    let bs = encode_all P (records_of o) in
    let u : out.used ≡ length bs = ap (λ (r : Outcome). r.used) e ∙ result_used P x o in
    let n = onto_long bs t in
    let m : length l ≡ length (onto bs t) = ap length w in
    (omega arith, rw w (onto_front bs t out.used u))

-- ---- a step that is done, as an outcome

done_does : (P : Plan) (x : BoxState) (o : Out) → was_done o ≡ true → o ≡ does (result_of P x o).state (records_of o) (result_of P x o).delivery
done_does P x (refused why) e = let z : ◌≡◌ {A = ℕ} 0 1 = cc in absurd (omega arith)
done_does P x (does y l d) e = refl

done_records : (P : Plan) (x : BoxState) (o : Out) → was_done o ≡ true → (result_of P x o).records ≡ length (records_of o)
done_records P x (refused why) e = let z : ◌≡◌ {A = ℕ} 0 1 = cc in absurd (omega arith)
done_records P x (does y l d) e = refl

module _ {P : Plan} {used : ℕ} {x : BoxState} {s : List ℕ} {o : Order} {r : Record} (G : Goes P used x s o r) (out : Outcome)
    (is : out ≡ result_of P x (step_of P x o r)) where
  abbrev sent : List Rec
  sent = records_of (step_of P x o r)

  step_is : step_of P x o r ≡ does out.state sent out.delivery
  step_is = done_does P x (step_of P x o r) G.done ∙ ap (λ (q : Outcome). does q.state sent q.delivery) (sym is)

  step_used : out.used ≡ length (encode_all P sent)
  step_used = ap (λ (q : Outcome). q.used) is ∙ result_used P x (step_of P x o r)

  records_is : out.records ≡ length sent
  records_is = ap (λ (q : Outcome). q.records) is ∙ done_records P x (step_of P x o r) G.done

  -- its records fit
  alone_does : (eqb out.used 0 || leb (used + out.used) (room_of s)) ≡ true → alone P used x s o ≡ does out.state sent out.delivery
  unfolding fitting
  alone_does h =
      let t : (eqb (length (encode_all P sent)) 0 || leb (used + length (encode_all P sent)) (room_of s)) ≡ true = rw (← step_used) h in
      G.is ∙ ap (if_fits P (here used) s) step_is ∙ guard_on PostFull (does out.state sent out.delivery) t

  -- or the post is full
  alone_full : (eqb out.used 0 || leb (used + out.used) (room_of s)) ≡ false → alone P used x s o ≡ refused PostFull
  unfolding fitting
  alone_full h =
      let t : (eqb (length (encode_all P sent)) 0 || leb (used + length (encode_all P sent)) (room_of s)) ≡ false = rw (← step_used) h in
      G.is ∙ ap (if_fits P (here used) s) step_is ∙ guard_off PostFull (does out.state sent out.delivery) t

  -- what it comes to in a night in which the box stands at its place
  module _ (n : Night) (at : ℕ) (T : Stands P used x s o n at) (tray after : List ℕ) (front : take out.used tray ≡ encode_all P sent) (v : Option ℕ)
      (S : Settles used out.used tray s v after) where
    given_is : given P n s o ≡ alone P used x s o
    given_is = alone_is P used x s o n at T

    pub turned_does : is_some v ≡ true
        →
        OrderRehearsed
        P
        n
        s
        o
        (record { night = record { boxes = set n.boxes at out.state; used = unwrap_or v used }; answer = Ok out.records })
        after
    turned_does h =
        let f : given P n s o ≡ does out.state sent out.delivery = given_is ∙ alone_does (sym S.fits_is ∙ h) in
        let w : at ≡ whose P n s o = T.asked G.plan_is_sound (exists_is P n s o ∙ ap (λ (u : ℕ). exists P (here u) s o) T.used_is ∙ G.there) in
        let u : unwrap_or v used ≡ n.used + length (encode_all P sent) = S.used_is ∙ pick_true (used + out.used) used h ∙ rw (step_used, T.used_is) in
        let a : after ≡ take n.used s ++ onto (encode_all P sent) (drop n.used s) =
        S.post_is ∙ pick_true (take used s ++ onto (take out.used tray) (drop used s)) s h ∙ rw (front, T.used_is) in
        order_rehearsed (rw (f, ← w, records_is, u)) (rw f a)

    pub turned_full : is_some v ≡ false → OrderRehearsed P n s o (record { night = n; answer = Err PostFull }) after
    turned_full h =
        let a : after ≡ s = S.post_is ∙ pick_false (take used s ++ onto (take out.used tray) (drop used s)) s h in
        rw a (rehearsed_no PostFull (given_is ∙ alone_full (sym S.fits_is ∙ h)))

-- ---- the post keeps what is used of it, and no less is used

pub settles_more : {used more : ℕ} {tray s : List ℕ} {v : Option ℕ} {after : List ℕ} → Settles used more tray s v after → used ≤ unwrap_or v used
settles_more {used} {more} {v = v} S = rw S.used_is (pick_both (λ (n : ℕ). used ≤ n) (is_some v) (omega arith) (omega arith))

take_front : (s bs : List ℕ) (n : ℕ) → n ≤ length s → take n (take n s ++ bs) ≡ take n s
take_front s bs n h = take_at (take n s) bs n (length-take-le n s h)

pub settles_front : {used more : ℕ} {tray s : List ℕ} {v : Option ℕ} {after : List ℕ} → Settles used more tray s v after → take used after ≡ take used s
settles_front {used} {more} {tray} {s} {v} {after} S = go (look (is_some v)) (look (eqb more 0))
  where
    put : List ℕ
    put = take used s ++ onto (take more tray) (drop used s)

    go : (is_some v ≡ true) ⊎ (is_some v ≡ false) → (eqb more 0 ≡ true) ⊎ (eqb more 0 ≡ false) → take used after ≡ take used s
    go (inr f) m = ap (take used) (S.post_is ∙ pick_false put s f)
    go (inl f) (inl z) = ap (take used) (S.post_is ∙ pick_true put s f ∙ sym (none_behind s tray used more (eqb-true more 0 z)))
    go (inl f) (inr z) =
        let t : leb (used + more) (room_of s) ≡ true = sym (rw z at S.fits_is) ∙ f in
        let l = leb-true (used + more) (room_of s) t in
        let r = room_most s in
        ap (take used) (S.post_is ∙ pick_true put s f) ∙ take_front s (onto (take more tray) (drop used s)) used (omega (arith, l, r))

-- the box after a step, as the outcome says it
pub after_state : (P : Plan) (x : BoxState) (o : Out) {out : Outcome} → out ≡ result_of P x o → out.state ≡ box_after x o
after_state P x o e = ap (λ (q : Outcome). q.state) e ∙ state_of_lem o
  where
    state_of_lem : (o : Out) → (result_of P x o).state ≡ box_after x o
    state_of_lem (refused why) = refl
    state_of_lem (does y l d) = refl
