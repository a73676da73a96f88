-- The loop over the lines of a chunk: what holds at the beginning of each line, and that each line leads on to the next.
use Rattle.std.specs.Prelude.{Some}
use Prim.Native.Nat.{ℕ, ◌+◌, ◌-◌, ◌*◌, ◌≤◌, ◌<◌}
use mathlib.Core.Bool.{Bool, true, false}
use mathlib.Core.List.{List, ◌++◌}
use mathlib.Core.Path.{◌≡◌, sym, ap, ◌∙◌}
use native.Mathlib.Omega.{arith}
use lib.ListN.{length, get_or, set, take, length-set, length-drop}
use lib.Seq.{take-length}
use borrow.Rule.Slice.PartMut.{mid_of, put_mid}
use Rattle.house.specs.Limits.{most_boxes}
use Rattle.laws.specs.Tray.{onto}
use Rattle.laws.proofs.laws.Tray.{then, rest_of}
use Rattle.boxes.specs.Sound.{sound}
use Rattle.boxes.specs.declared.BoxState.{BoxState}
use Rattle.lines.specs.Feed.{Reading}
use Rattle.lines.specs.declared.LineState.{LineState}
use Rattle.report.specs.Texts.{answer_most}
use Rattle.post.specs.Posting.{most_place}
use Rattle.post.specs.declared.Index.{Index}
use Rattle.rehearsal.specs.Night.{box_in}
use Rattle.rehearsal.specs.Alone.{Stands, Found, Starts}
use Rattle.rehearsal.proofs.laws.Alone.{box_in_lem, found_stands}
use Rattle.rehearsal.specs.declared.Night.{Night}
use Rattle.session.specs.declared.Desk.{Desk}
use Rattle.session.specs.Heard.{After, handled}
use Rattle.session.specs.Hears.{ask_of}
use Rattle.session.specs.World.{World, saying}
use Rattle.session.specs.Asked.{Asks}
use Rattle.session.specs.Turned.{Turns}
use Rattle.session.specs.declared.turn.Asked.{Asked}
use Rattle.session.specs.declared.turn.Line.{Line}
use Rattle.session.specs.declared.turn.Turned.{Turned}
use Rattle.session.specs.Session.{within, chunk_of, fed_of}
use Rattle.session.specs.Promises.{Leaves}
use Rattle.session.proofs.laws.Lines.{Holds, Sure, fed_is, holds_after, acts_on_lem, sure_heard, sure_stepped}
use Rattle.session.specs.declared.Session.{Session}

-- at the beginning of a line
pub record Reads (s : Session) (post₀ chunk t₀ : List ℕ) (from : ℕ) (post t : List ℕ) (boxes : List BoxState) (used : ℕ) (desk : Desk)
    (line : LineState) (known : List Bool) (index : Index) (text : ℕ) : Type 0 where
  pub low : from ≤ length chunk
  pub room : answer_most * length chunk ≤ length t₀
  pub most : text ≤ answer_most * from
  pub t_long : length t ≡ length t₀
  pub post_long : length post ≡ length post₀
  pub boxes_long : length boxes ≡ most_boxes
  pub known_long : length known ≡ most_boxes
  pub holds : Holds (chunk_of s post₀ (take from chunk)) line desk (record { boxes = boxes; used = used }) post
  pub said : text ≡ length (chunk_of s post₀ (take from chunk)).state.text
  pub printed : t ≡ onto (chunk_of s post₀ (take from chunk)).state.text t₀
  pub sure : Sure desk boxes used post known index

-- at the end of the chunk
pub ends : {s : Session} {post₀ chunk t₀ : List ℕ} {from : ℕ} {post t : List ℕ} {boxes : List BoxState} {used : ℕ} {desk : Desk} {line : LineState}
    {known : List Bool}
    {index : Index} {text : ℕ} → Reads s post₀ chunk t₀ from post t boxes used desk line known index text → length chunk ≤ from
    →
    Leaves
    (chunk_of s post₀ chunk)
    t₀
    (record { session = record { night = record { boxes = boxes; used = used }; desk = desk; line = line }; used = text })
    post
    t
ends {s} {post₀} {chunk} {t₀} {from} {post} {t} {boxes} {used} {desk} {line} {text = text} R h =
    let l = R.low in
    let e : from ≡ length chunk = omega (arith, l, h) in
    let z : chunk_of s post₀ (take from chunk) ≡ chunk_of s post₀ chunk = ap (chunk_of s post₀) (ap (λ (n : ℕ). take n chunk) e ∙ take-length chunk) in
    record {
      fed = fed_is (chunk_of s post₀ (take from chunk)) line desk (record { boxes = boxes; used = used }) post text R.holds R.said ∙ ap fed_of z;
      post = sym R.holds.post_is ∙ ap (λ (r : Reading World). r.state.post) z;
      text = R.printed ∙ ap (λ (r : Reading World). onto r.state.text t₀) z;
    }

-- a turn of the loop
module _ {s : Session} {post₀ chunk t₀ : List ℕ} {from : ℕ} {post t : List ℕ} {boxes : List BoxState} {used : ℕ} {desk : Desk} {line : LineState}
    {known : List Bool}
    {index : Index} {text : ℕ} {a : Asked} {later : Index} (R : Reads s post₀ chunk t₀ from post t boxes used desk line known index text)
    (A : Asks line desk used chunk from post index a later) where
  abbrev night : Night
  night = record { boxes = boxes; used = used }

  abbrev run : Reading World
  run = chunk_of s post₀ (take from chunk)

  abbrev then_run : Reading World
  then_run = chunk_of s post₀ (take a.next chunk)

  -- there is room for an answer to what is read now
  room_now : text + answer_most ≤ length t
  room_now = let b = R.most in let l = R.t_long in let m = R.room in let u = A.up in let d = A.low in omega (arith, b, l, m, u, d)

  most_now : (more : ℕ) → more ≤ answer_most → text + more ≤ answer_most * a.next
  most_now more m = let b = R.most in let u = A.up in omega (arith, b, m, u)

  -- a line has ended
  module _ {l : Line} (q : a.ended ≡ Some l) where
    F : Found desk.plan desk.fixed used (ask_of l.typed) post index l.place later
    F = (A.whole l q).0

    pub at_low : l.place.at < most_boxes
    at_low = F.at_low

    box_is : (d : BoxState) → get_or boxes l.place.at d ≡ box_in night l.place.at
    box_is d = box_in_lem night l.place.at d (rw R.boxes_long at_low)

    turn : then_run ≡ record { line = a.line; state = saying run.state.text (handled desk night post l.typed) }
    turn =
        (A.whole l q).1 (within s post₀) R.holds.line_is
        ∙ ap (λ (w : World). record { line = a.line; state = w }) (acts_on_lem run line desk night post l.typed R.holds)

    -- what it leaves, with its text behind the text so far
    left : (b : After) → handled desk night post l.typed ≡ b → (t₁ : List ℕ) (text₁ : ℕ) → text₁ ≡ length (run.state.text ++ b.text)
        → t₁ ≡ onto (run.state.text ++ b.text) t₀
        → Holds then_run a.line b.desk b.night b.post × (text₁ ≡ length then_run.state.text) × (t₁ ≡ onto then_run.state.text t₀)
    left b e t₁ text₁ u v =
        let z : then_run ≡ record {
          line =
              a.line;
          state = saying run.state.text b;
        } = turn ∙ ap (λ (w : After). record { line = a.line; state = saying run.state.text w }) e in (
          holds_after then_run run b a.line z,
          u ∙ ap (λ (r : Reading World). length r.state.text) (sym z),
          v ∙ ap (λ (r : Reading World). onto r.state.text t₀) (sym z),
        )

    -- its box can be asked
    pub can_turn : (d : BoxState)
        → (answer_most ≤ length (mid_of text (length t - text) t)) × (get_or known l.place.at false ≡ true → sound desk.plan (get_or boxes l.place.at d) ≡ true)
        × (l.place.start ≤ most_place) × Starts desk.plan post used (ask_of l.typed) l.place.start
    can_turn d =
        let m = room_now in (
          rw (rest_of text t, length-drop) (omega (arith, m)),
          λ e. ap (sound desk.plan) (box_is d) ∙ (R.sure.box l.place.at e).1,
          F.start_low,
          F.starts,
        )

    -- it has been asked, and is y then
    module _ (d : BoxState) {r : Turned} {y : BoxState} {post₁ after : List ℕ}
        (T : Turns desk used (get_or boxes l.place.at d) post l.typed r y post₁ (mid_of text (length t - text) t) after)
        (post_now : length post₁ ≡ length post) (said_long : length (put_mid text (length t - text) t after) ≡ length t) where
      abbrev x : BoxState
      x = get_or boxes l.place.at d

      abbrev t₁ : List ℕ
      t₁ = put_mid text (length t - text) t after

      abbrev boxes₁ : List BoxState
      boxes₁ = set boxes l.place.at y

      stands : Stands desk.plan used x post (ask_of l.typed) night l.place.at
      stands = rw (box_is d) (found_stands desk.plan desk.fixed night post (ask_of l.typed) index l.place later F)

      sure_now : Sure r.desk boxes used post (set known l.place.at r.known) later
      sure_now = sure_heard l.place r.desk r.known (rw R.known_long at_low) (box_is d) F T.known T.fixed R.sure

      pub steps : Reads s post₀ chunk t₀ a.next post₁ t₁ boxes₁ r.used r.desk a.line (set known l.place.at r.known) later (text + r.text)
      steps =
          let D = T.does night l.place.at stands in
          let g = then run.state.text D.0 t₀ t after text r.text R.said R.printed D.2 D.3 in
          let L =
          left
          (record { desk = r.desk; night = record { boxes = boxes₁; used = r.used }; post = post₁; text = D.0 })
          D.1
          t₁
          (text + r.text)
          g.0
          g.1 in
          record {
            low = A.low;
            room = R.room;
            most = most_now r.text T.most;
            t_long = said_long ∙ R.t_long;
            post_long = post_now ∙ R.post_long;
            boxes_long = length-set boxes l.place.at y ∙ R.boxes_long;
            known_long = length-set known l.place.at r.known ∙ R.known_long;
            holds = L.0;
            said = L.1;
            printed = L.2;
            sure = sure_stepped l.place.at y r.used post₁ (rw R.boxes_long at_low) (rw (← box_is d) T.stays) T.more T.front sure_now;
          }
