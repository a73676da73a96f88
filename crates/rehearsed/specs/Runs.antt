-- Every rehearsal from a fresh night with an empty post is the world's run over the orders that 12 did not refuse.
-- At each moment the boxes are the world's, and the post's bytes are those of the world's records.
use Rattle.std.specs.Prelude.{ℕ, List, [], ◌∷◌}
use Rattle.house.specs.declared.Plan.{Plan}
use Rattle.house.specs.declared.Order.{Order}
use Rattle.records.specs.Bytes.{parse}
use Rattle.records.specs.Rec.{Rec, meaning}
use Rattle.boxes.specs.Out.{Out}
use Rattle.rehearsal.specs.Night as Nights
use Rattle.post.specs.Posting.{start_of, bytes_from}
use Rattle.rehearsal.specs.Night.{fresh_night}
use Rattle.rehearsal.specs.declared.Night.{Night}
use Rattle.rehearsed.specs.Turns.{night_after, post_after}

-- ---- a rehearsal

-- a night with its post's bytes
pub record Stage : Type 0 where
  pub night : Night
  pub post : List ℕ

-- an order, and orders one after the other
unfoldable pub after : Plan → Stage → Order → Stage
after P r o = record { night = night_after P r.night r.post o; post = post_after P r.night r.post o }

unfoldable pub rehearsed : Plan → Stage → List Order → Stage
rehearsed P r [] = r
rehearsed P r (o ∷ os) = rehearsed P (after P r o) os

-- the beginning: fresh boxes, and a lent post of any bytes of which none is used
unfoldable pub beginning : List ℕ → Stage
beginning s = record { night = fresh_night; post = s }

abbrev pub answered : Plan → Stage → Order → Out
answered P r o = Nights.given P r.night r.post o

-- ---- what the bytes say

-- record k of a post, as its bytes say
abbrev pub said_at : Plan → Stage → ℕ → Rec
said_at P r k = meaning (parse P (bytes_from P r.post (start_of P r.post r.night.used k)))
