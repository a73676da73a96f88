-- One order of the rehearsal beside the world's: refused alike, done alike if the records fit, else 12 and nothing changes.
-- So at the bytes too a record of the post is never refused by 1 to 6.
use Rattle.std.specs.Prelude.{ℕ, List}
use Rattle.house.specs.declared.Plan.{Plan}
use Rattle.house.specs.declared.Order.{Order}
use Rattle.rehearsal.specs.Night as Nights
use Rattle.rehearsal.specs.Night.{turn_of, post_of}
use Rattle.rehearsal.specs.declared.Night.{Night}

-- ---- after an order

abbrev pub night_after : Plan → Night → List ℕ → Order → Night
night_after P n s o = (turn_of P n (Nights.whose P n s o) (Nights.given P n s o)).night

abbrev pub post_after : Plan → Night → List ℕ → Order → List ℕ
post_after P n s o = post_of P n s (Nights.given P n s o)
