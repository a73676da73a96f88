-- Laws of what specs/Promises.antt defines.
use Prim.Native.Nat.{ℕ}
use mathlib.Core.List.{List}
use mathlib.Core.Path.{◌≡◌, sym, ap, ◌∙◌}
use Rattle.rehearsal.specs.declared.Night.{Night}
use Rattle.lines.specs.declared.LineState.{LineState}
use Rattle.lines.specs.Feed.{Reading}
use Rattle.session.specs.declared.Desk.{Desk}
use Rattle.session.specs.World.{World}
use Rattle.session.specs.declared.Session.{Session}
use Rattle.session.specs.declared.feed.Fed.{Fed}
use Rattle.session.specs.Promises.{Begun, Leaves, ChunkFed, LastFed}

pub leaves_as : {x y : Reading World} {before : List ℕ} {r : Fed} {later after : List ℕ} → x ≡ y → Leaves x before r later after → Leaves y before r later after
leaves_as e L = rw (← e) L

-- ---- no second answer fits

pub only_begun : {s r : Session} → Begun s → Begun r → s ≡ r
only_begun {s = s} {r = r} a b =
    ap (λ (x : LineState). record { line = x; desk = s.desk; night = s.night }) (a.line ∙ sym b.line)
    ∙ ap (λ (x : Desk). record { line = r.line; desk = x; night = s.night }) (a.desk ∙ sym b.desk)
    ∙ ap (λ (x : Night). record { line = r.line; desk = r.desk; night = x }) (a.night ∙ sym b.night)

only_left : {x : Reading World} {before : List ℕ} {r q : Fed} {post later after tray : List ℕ}
    → Leaves x before r post after → Leaves x before q later tray → (r ≡ q) × (post ≡ later) × (after ≡ tray)
only_left a b = (a.fed ∙ sym b.fed, a.post ∙ sym b.post, a.text ∙ sym b.text)

pub only_chunk : (s : Session) (chunk : List ℕ) (n : ℕ) (lent before : List ℕ) {r q : Fed} {post later after tray : List ℕ}
    → ChunkFed s chunk n lent before r post after → ChunkFed s chunk n lent before q later tray → (r ≡ q) × (post ≡ later) × (after ≡ tray)
only_chunk s chunk n lent before a b = only_left a b

pub only_last : (s : Session) (lent before : List ℕ) {r q : Fed} {post later after tray : List ℕ}
    → LastFed s lent before r post after → LastFed s lent before q later tray → (r ≡ q) × (post ≡ later) × (after ≡ tray)
only_last s lent before a b = only_left a b
