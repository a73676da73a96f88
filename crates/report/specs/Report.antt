-- The lines of the report at the end, in ASCII, as document 01 states them; each ends by LF.
-- `item` is a space and a number (specs/Texts.antt).
use Rattle.std.specs.Prelude.{ℕ, Bool, Option, Some, None, List, [], ◌∷◌, ◌++◌, get_or}
use Rattle.laws.specs.Choice.{pick}
use Rattle.laws.specs.Tray.{all_for}
use Rattle.house.specs.declared.Stamp.{Stamp}
use Rattle.lines.specs.Parts.{space, line_feed}
use Rattle.report.specs.Texts.{item}

-- a word and a number
unfoldable pub titled : List ℕ → ℕ → List ℕ
titled word n = word ++ item n

-- the first jobs of a list, in its order, one space before each
unfoldable pub jobs_text : List ℕ → ℕ → List ℕ
jobs_text list count = all_for (λ i. item (get_or list i 0)) count

-- ` list` and its jobs; nothing stands behind `list` where there is no job
unfoldable pub list_text : List ℕ → ℕ → List ℕ
list_text list count = ((space ∷ 108 ∷ 105 ∷ 115 ∷ 116 ∷ []) ++ jobs_text list count) ++ (line_feed ∷ [])

-- `box B list` and its jobs
unfoldable pub box_text : ℕ → List ℕ → ℕ → List ℕ
box_text number list count = titled (98 ∷ 111 ∷ 120 ∷ []) number ++ list_text list count

-- ` TIME DISTRICT` of a job that a box has committed, by its stamp there, ` - -` of another
unfoldable pub stamp_text : Option Stamp → List ℕ
stamp_text (Some stamp) = item stamp.time ++ item stamp.district.0
stamp_text None = space ∷ 45 ∷ space ∷ 45 ∷ []

-- `job K TIME DISTRICT yes` of a job that is finished, `no` of another
unfoldable pub job_text : ℕ → Option Stamp → Bool → List ℕ
job_text job committed finished =
    (titled (106 ∷ 111 ∷ 98 ∷ []) job ++ stamp_text committed)
    ++ pick finished (space ∷ 121 ∷ 101 ∷ 115 ∷ line_feed ∷ []) (space ∷ 110 ∷ 111 ∷ line_feed ∷ [])

-- the longest of each line (ReportLaws)
abbrev pub box_most : ℕ
box_most = 269

abbrev pub job_most : ℕ
job_most = 27
