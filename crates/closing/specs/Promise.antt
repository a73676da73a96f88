-- What `close` promises: how many bytes the report has, and every byte of the tray. No second answer fits.
use Rattle.std.specs.Prelude.{ℕ, List, ◌≡◌, length}
use Rattle.laws.specs.Tray.{onto}
use Rattle.house.specs.declared.Plan.{Plan}
use Rattle.rehearsal.specs.declared.Night.{Night}
use Rattle.closing.specs.Closing.{night_report}

pub record Closed (P : Plan) (n : Night) (before : List ℕ) (r : ℕ) (after : List ℕ) : Type 0 where
  pub used : r ≡ length (night_report P n)
  pub text : after ≡ onto (night_report P n) before
