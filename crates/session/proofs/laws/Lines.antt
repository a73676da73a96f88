-- A chunk, line by line: where a reading stands, and what is known of the boxes and the post while a chunk is read.
use Prim.Native.Nat.{ℕ, zero, suc, ◌≤◌, ◌<◌}
use mathlib.Core.Bool.{Bool, true, false}
use mathlib.Core.List.{List}
use mathlib.Core.Logic.{◌⊎◌, inl, inr, ⊎_elim, ◌≢◌}
use mathlib.Core.Path.{◌≡◌, refl, sym, ap, ◌∙◌}
use lib.Dec.{eqb}
use lib.ListN.{length, replicate, get_or, set, take}
use lib.Seq.{get_or-set_same, get_or-set_other}
use borrow.Author.Tests.{eqb-true, eqb-false}
use Rattle.laws.proofs.laws.Choice.{never, look}
use Rattle.house.specs.Pairs.{box_no}
use Rattle.house.specs.declared.Order.{Order}
use Rattle.house.specs.declared.Plan.{Plan}
use Rattle.lines.specs.Feed.{Reading}
use Rattle.lines.specs.declared.LineState.{LineState}
use Rattle.lines.specs.declared.Typed.{Typed}
use Rattle.boxes.specs.Box.{fresh}
use Rattle.boxes.specs.Sound.{sound}
use Rattle.boxes.specs.declared.BoxState.{BoxState}
use Rattle.post.specs.Index.{Indexed}
use Rattle.post.specs.declared.Index.{Index}
use Rattle.post.proofs.laws.Index.{indexed_grown}
use Rattle.rehearsal.specs.Night.{box_in}
use Rattle.rehearsal.specs.Alone.{Found}
use Rattle.rehearsal.specs.declared.Night.{Night}
use Rattle.rehearsal.specs.declared.exists.Place.{Place}
use Rattle.session.specs.declared.Desk.{Desk}
use Rattle.session.specs.Heard.{After, handled}
use Rattle.session.specs.World.{World, saying, act}
use Rattle.session.specs.Session.{fed_of}
use Rattle.session.specs.declared.feed.Fed.{Fed}

-- where a reading stands: the line that is coming, the desk, the night and the post
pub record Holds (r : Reading World) (line : LineState) (desk : Desk) (night : Night) (post : List ℕ) : Type 0 where
  pub line_is : r.line ≡ line
  pub desk_is : r.state.desk ≡ desk
  pub night_is : r.state.night ≡ night
  pub post_is : r.state.post ≡ post

pub fed_is : (r : Reading World) (line : LineState) (desk : Desk) (night : Night) (post : List ℕ) (n : ℕ) → Holds r line desk night post
    → n ≡ length r.state.text
    → ◌≡◌ {A = Fed} (record { session = record { night = night; desk = desk; line = line }; used = n }) (fed_of r)
fed_is r line desk night post n H e = rw (← H.line_is, ← H.desk_is, ← H.night_is, e)

-- an order is acted on where a reading stands
pub acts_on_lem : (r : Reading World) (line : LineState) (desk : Desk) (night : Night) (post : List ℕ) (t : Typed) → Holds r line desk night post
    → act r.state t ≡ saying r.state.text (handled desk night post t)
unfolding act
acts_on_lem r line desk night post t H = rw (H.desk_is, H.night_is, H.post_is)

-- after a line that left a: the reading
pub holds_after : (r q : Reading World) (a : After) (l : LineState) → r ≡ record { line = l; state = saying q.state.text a }
    → Holds r l a.desk a.night a.post
holds_after r q a l e =
    record {
      line_is = ap (λ (z : Reading World). z.line) e;
      desk_is = ap (λ (z : Reading World). z.state.desk) e;
      night_is = ap (λ (z : Reading World). z.state.night) e;
      post_is = ap (λ (z : Reading World). z.state.post) e;
    }

-- ---- while a chunk is read: which boxes are known to be sound, and an index of the post. A plan that is not fixed may change still
pub record Sure (desk : Desk) (boxes : List BoxState) (used : ℕ) (post : List ℕ) (known : List Bool) (index : Index) : Type 0 where
  pub indexed : Indexed desk.plan post used index.places.now index.last
  pub loose : desk.fixed ≡ false → (P : Plan) (s : List ℕ) (u : ℕ) → Indexed P s u index.places.now index.last
  pub box : (i : ℕ) → get_or known i false ≡ true → (desk.fixed ≡ true) × (sound desk.plan (box_in (record { boxes = boxes; used = used }) i) ≡ true)

same_or_not : (i j : ℕ) → (i ≡ j) ⊎ (i ≢ j)
same_or_not i j = ⊎_elim (λ t. inl (eqb-true i j t)) (λ t. inr (eqb-false i j t)) (look (eqb i j))

-- a line has been heard: d is the desk after it, k says whether its box is known to be sound
pub sure_heard : {desk : Desk} {boxes : List BoxState} {used : ℕ} {post : List ℕ} {known : List Bool} {index later : Index} {o : Order}
    (r : Place) (d : Desk) (k : Bool) {x : BoxState}
    → r.at < length known → x ≡ box_in (record { boxes = boxes; used = used }) r.at → Found desk.plan desk.fixed used o post index r later
    → (k ≡ true → (d.fixed ≡ true) × (sound d.plan x ≡ true)) → (desk.fixed ≡ true → d ≡ desk) → Sure desk boxes used post known index
    → Sure d boxes used post (set known r.at k) later
sure_heard {desk} {boxes} {used} {post} {known} {index} {later} {o} r d k {x} l ex F sure stays S =
    record {
      indexed = ⊎_elim (λ t. rw (stays t) F.indexed) (λ t. rw (F.stays t) (S.loose t d.plan post used)) (look desk.fixed);
      loose = λ q. ⊎_elim (λ t. never (ap (λ (z : Desk). z.fixed) (stays t) ∙ t) q) (λ t. rw (F.stays t) (S.loose t)) (look desk.fixed);
      box = λ i q. ⊎_elim (λ e. asked i e q) (λ e. other i e q) (same_or_not i r.at);
    }
  where
    asked : (i : ℕ) → i ≡ r.at → get_or (set known r.at k) i false ≡ true
        → (d.fixed ≡ true) × (sound d.plan (box_in (record { boxes = boxes; used = used }) i) ≡ true)
    asked i e q =
        let t : k ≡ true = sym (get_or-set_same known r.at k false l) ∙ ap (λ (j : ℕ). get_or (set known r.at k) j false) (sym e) ∙ q in
        let f = sure t in
        (f.0, rw (e, ← ex) f.1)

    other : (i : ℕ) → i ≢ r.at → get_or (set known r.at k) i false ≡ true
        → (d.fixed ≡ true) × (sound d.plan (box_in (record { boxes = boxes; used = used }) i) ≡ true)
    other i e q =
        let t : get_or known i false ≡ true = sym (get_or-set_other known r.at i k false e) ∙ q in
        let f = S.box i t in
        rw (stays f.0) f

-- bytes came behind what is used
pub sure_grown : {desk : Desk} {boxes : List BoxState} {used : ℕ} {post : List ℕ} {known : List Bool} {index : Index} (u : ℕ) (after : List ℕ)
    → used ≤ u → take used after ≡ take used post → Sure desk boxes used post known index → Sure desk boxes u after known index
unfolding box_in
sure_grown {desk} {boxes} {used} {post} {known} {index} u after m g S =
    record { indexed = indexed_grown desk.plan post after used u m g index.places.now index.last S.indexed; loose = S.loose; box = S.box }

-- and a box has stepped
pub sure_stepped : {desk : Desk} {boxes : List BoxState} {used : ℕ} {post : List ℕ} {known : List Bool} {index : Index} (at : ℕ) (y : BoxState)
    (u : ℕ) (after : List ℕ)
    → at < length boxes
    → (sound desk.plan (box_in (record { boxes = boxes; used = used }) at) ≡ true → sound desk.plan y ≡ true)
    → used ≤ u
    → take used after ≡ take used post
    → Sure desk boxes used post known index → Sure desk (set boxes at y) u after known index
unfolding box_in
sure_stepped {desk} {boxes} {used} {post} {known} {index} at y u after l f m g S =
    let G = sure_grown u after m g S in
    record {
      indexed = G.indexed;
      loose = G.loose;
      box = λ i q.
          let b = G.box i q in
          let here : (j : ℕ) → sound desk.plan (get_or boxes j (fresh (box_no 0))) ≡ true → j ≡ at → sound desk.plan y ≡ true =
          λ j k e. f (ap (λ (m : ℕ). sound desk.plan (get_or boxes m (fresh (box_no 0)))) (sym e) ∙ k) in (
            b.0,
            ⊎_elim
                (λ e.
                ap (λ (m : ℕ). sound desk.plan (get_or (set boxes at y) m (fresh (box_no 0)))) e
                ∙ ap (sound desk.plan) (get_or-set_same boxes at y (fresh (box_no 0)) l)
                ∙ here i b.1 e)
                (λ e. ap (sound desk.plan) (get_or-set_other boxes at i y (fresh (box_no 0)) e) ∙ b.1)
                (same_or_not i at),
          );
    }

-- nothing is known at first
pub none_known : (n i : ℕ) → get_or (replicate n false) i false ≡ false
none_known zero i = refl
none_known (suc n) zero = refl
none_known (suc n) (suc i) = none_known n i
