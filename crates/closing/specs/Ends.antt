-- What the report carries from box to box: of each job, where it is committed first and who holds it. After the last box that is what all say.
use Rattle.std.specs.Prelude.{ℕ, ◌+◌, ◌<◌, List, ◌≡◌, get_or, replicate}
use Rattle.house.specs.Limits.{most_jobs}
use Rattle.house.specs.declared.BoxNo.{BoxNo}
use Rattle.house.specs.Marks.{no_marks, most_marks}
use Rattle.boxes.specs.Box.{row_at, on_list}
use Rattle.boxes.specs.declared.BoxState.{BoxState}
use Rattle.rehearsal.specs.Night.{box_in}
use Rattle.rehearsal.specs.declared.Night.{Night}
use Rattle.closing.specs.Endings.{first_of, nowhere}
use Rattle.closing.specs.Holders.{with_holder, Ended}
use Rattle.closing.specs.declared.endings.JobEnd.{JobEnd}

-- of a job, before any box is asked: nothing found and no holders
abbrev pub no_end : JobEnd
no_end = record { first = nowhere; holders = no_marks }

abbrev pub no_ends : List JobEnd
no_ends = replicate most_jobs no_end

-- what was said of job j, and what box p, which is x, says of it
abbrev pub end_with : JobEnd → BoxNo → BoxState → ℕ → JobEnd
end_with e p x j = record { first = first_of e.first (row_at x j); holders = with_holder e.holders p (on_list x j) }

-- what the boxes below k say, job by job
abbrev pub AllEnded : Night → ℕ → List JobEnd → Type 0
AllEnded n k l = (j : ℕ) → j < most_jobs → Ended n j k (get_or l j no_end)

-- from l to m it goes on by box p, which is x: whatever the night, if l is what the boxes before it say, m is what they and it say
abbrev pub OneMore : BoxNo → BoxState → List JobEnd → List JobEnd → Type 0
OneMore p x l m = (n : Night) → p.0 < most_marks → box_in n p.0 ≡ x → AllEnded n p.0 l → AllEnded n (p.0 + 1) m
