-- "Each answers code and LINE (both 0 when granted), the header's numbers and, for the schedule, the count of its numbers; refused, these
-- numbers are 0 and the area stays."
use Rattle.std.specs.Prelude.{◌≡◌, ℕ, ◌+◌, ◌-◌, cond, List, ◌++◌, map, ℤ, pos, length, drop, Option, Result, Ok, Err}
use Rattle.std.specs.Borrow.{Bor}
use Rattle.std.specs.Option.{unwrap_or}
use Rattle.numbers.specs.Progress.{signed}
use Rattle.rules.specs.declared.Opening.{Opening}
use Rattle.rules.specs.Refused.{code_of}
use Rattle.text_rules.specs.declared.Refused.{Refused}
use Rattle.text_rules.specs.declared.Header.{Header}
use Rattle.text_rules.specs.declared.Schedule.{Schedule}
use Rattle.text_rules.specs.Marks.{Mark, marks}
use Rattle.text_rules.specs.Lines.{from_head, left_after}
use Rattle.text_rules.specs.Judgement.{Verdict, ruled, is_granted, head_of, opening_of, program_in, header_verdict, schedule_numbers, schedule_verdict}

abbrev pub no_opening : Opening
no_opening = record { start = pos 0; until = pos 0; teams = pos 0; cap = pos 0; nodes = pos 0 }

-- the numbers of the header, where the text was granted
abbrev pub opens_as : Verdict → List Mark → Opening
opens_as v ms = cond (is_granted v) (opening_of (head_of ms)) no_opening

-- the program that the header names, where the text was granted; 0 is "not given"
abbrev pub runs_as : Verdict → List Mark → ℕ
runs_as v ms = cond (is_granted v) (program_in (head_of ms)) 0

-- "code and LINE (both 0 when granted), the header's numbers"
pub record HeaderAnswer : Type 0 where
  pub code : ℕ
  pub line : ℕ
  pub opening : Opening
  pub program : ℕ

-- the answer that a verdict gives, for a text with these marks
abbrev pub header_by : Verdict → List Mark → HeaderAnswer
header_by v ms = record { code = v.code; line = v.line; opening = opens_as v ms; program = runs_as v ms }

unfoldable pub header_of : List ℕ → HeaderAnswer
header_of text = header_by (header_verdict (length text) (marks text)) (marks text)

-- "Reading the header gives back the rest of the caller's text itself, from the byte after the header's line end; an empty part if there is
-- none or the text is refused."
unfoldable pub rest_place : List ℕ → ℕ
rest_place text =
    cond (is_granted (header_verdict (length text) (marks text))) (length text - left_after (from_head (marks text))) (length text)

unfoldable pub rest_of : List ℕ → List ℕ
rest_of text = drop (rest_place text) text

-- r is the rest of the text itself: it stands in the text's own memory, at that place
pub record RestItself (text r : Bor (List ℕ)) : Type 0 where
  pub block : r.ref_ptr.0 ≡ text.ref_ptr.0
  pub offset : r.ref_ptr.1 ≡ rest_place text.now + text.ref_ptr.1
  pub bytes : r.now ≡ rest_of text.now

-- "and, for the schedule, the count of its numbers"
pub record ScheduleAnswer : Type 0 where
  pub code : ℕ
  pub line : ℕ
  pub opening : Opening
  pub program : ℕ
  pub count : ℕ

abbrev pub schedule_by : Verdict → List Mark → ScheduleAnswer
schedule_by v ms =
    record {
      code = v.code;
      line = v.line;
      opening = opens_as v ms;
      program = runs_as v ms;
      count = cond (is_granted v) (length (schedule_numbers ms)) 0;
    }

unfoldable pub schedule_of : ℕ → List ℕ → ScheduleAnswer
schedule_of room text = schedule_by (schedule_verdict room (length text) (marks text)) (marks text)

-- the area with the numbers at its front
abbrev pub filled : List ℕ → List ℤ → List ℤ
filled ns area = map signed ns ++ drop (length ns) area

-- the area after the schedule was read
unfoldable pub area_of : List ℕ → List ℤ → List ℤ
area_of text area =
    cond (is_granted (schedule_verdict (length area) (length text) (marks text))) (filled (schedule_numbers (marks text)) area) area

-- ---- what the readers' results stand for

abbrev pub verdict_of : Refused → Verdict
verdict_of e = ruled (code_of e.refusal) e.line

-- 0 is "not given"
abbrev pub told_program : Option ℕ → ℕ
told_program named = unwrap_or named 0

abbrev pub told_header : Result Header Refused → HeaderAnswer
told_header (Ok h) = record { code = 0; line = 0; opening = h.opening; program = told_program h.program }
told_header (Err e) = record { code = code_of e.refusal; line = e.line; opening = no_opening; program = 0 }

abbrev pub told_schedule : Result Schedule Refused → ScheduleAnswer
told_schedule (Ok s) =
    record { code = 0; line = 0; opening = s.header.opening; program = told_program s.header.program; count = s.count }
told_schedule (Err e) = record { code = code_of e.refusal; line = e.line; opening = no_opening; program = 0; count = 0 }
