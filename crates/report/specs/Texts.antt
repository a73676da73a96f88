-- The answer to a line, in ASCII, as document 01 states it; it ends by LF.
-- `decimal` writes a number (specs/Numeral.antt of lines).
use Rattle.std.specs.Prelude.{ℕ, Bool, true, false, List, [], ◌∷◌, ◌++◌, Result, Ok, Err}
use Rattle.laws.specs.Choice.{pick}
use Rattle.records.specs.Answers.{refusal_no}
use Rattle.records.specs.declared.answers.Refusal.{Refusal}
use Rattle.lines.specs.Parts.{space, line_feed}
use Rattle.lines.specs.Numeral.{decimal}

-- a space and a number
unfoldable pub item : ℕ → List ℕ
item n = (space ∷ []) ++ decimal n

-- the answer to a line: `ok N`, with N the records written, or `no N`, with N the number of the refusal
unfoldable pub answer_text : Bool → ℕ → List ℕ
answer_text refused n = (pick refused (110 ∷ 111 ∷ space ∷ []) (111 ∷ 107 ∷ space ∷ []) ++ decimal n) ++ (line_feed ∷ [])

-- the same for a number written, or the number of a refusal
abbrev pub numbered_text : Result ℕ ℕ → List ℕ
numbered_text (Ok n) = answer_text false n
numbered_text (Err n) = answer_text true n

-- the same for what an order answered
abbrev pub turn_text : Result ℕ Refusal → List ℕ
turn_text (Ok n) = answer_text false n
turn_text (Err why) = answer_text true (refusal_no why)

-- the longest answer (TextLaws)
abbrev pub answer_most : ℕ
answer_most = 14
