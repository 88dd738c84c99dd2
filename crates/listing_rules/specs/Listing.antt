-- The listing of a text: the whole program as a definition.
use Rattle.std.specs.Prelude.{ℕ, cond, List, [], ◌∷◌, ◌++◌, map, eqb, ℤ}
use Rattle.numbers.specs.Progress.{signed}
use Rattle.text_rules.specs.Marks.{marks}
use Rattle.text_rules.specs.Judgement.{schedule_numbers}
use Rattle.text_rules.specs.Answers.{ScheduleAnswer, schedule_of}
use Rattle.text_rules.specs.Demands.{schedule_room}
use Rattle.line_rules.specs.Line.{Line, refused_line, text}
use Rattle.listing_rules.specs.Steps.{run_lines}

-- the team numbers of a text, in their order
abbrev pub teams_in : List ℕ → List ℤ
teams_in bytes = map signed (schedule_numbers (marks bytes))

-- "A refused text prints only `refused CODE LINE`."
abbrev pub lines_by : ScheduleAnswer → List ℤ → List Line
lines_by s schedule =
    cond (eqb s.code 0) (run_lines s.opening s.program schedule) (refused_line (signed s.code) (signed s.line) ∷ [])

-- "The whole text is judged before the first step": the lines of a text, with room for so many schedule numbers
unfoldable pub lines_of : ℕ → List ℕ → List Line
lines_of steps bytes = lines_by (schedule_of steps bytes) (teams_in bytes)

-- one line after the other
unfoldable pub bytes_of : List Line → List ℕ
bytes_of [] = []
bytes_of (l ∷ ls) = text l ++ bytes_of ls

-- what `sheets` prints
unfoldable pub listing_of : List ℕ → List ℕ
listing_of bytes = bytes_of (lines_of schedule_room bytes)
