-- "The whole text is judged before the first step: 21; then the earliest byte with 22 or 23 (23 at the number's first byte); 24; 20;
-- the first 26; 27." "LINE is 0 for 21, for 27 and for 24 without any number, the header's line for other 24 and 20, and else the line of
-- that byte or number."
use Rattle.std.specs.Prelude.{ℕ, ◌+◌, Bool, true, cond, not, ◌&&◌, ◌||◌, List, [], ◌∷◌, eqb, leb, ltb, length, get_or, Option, None, Some}
use Rattle.numbers.specs.Progress.{signed}
use Rattle.numbers.specs.Fields.{nat_of}
use Rattle.rules.specs.declared.Opening.{Opening}
use Rattle.rules.specs.Limits.{opens, max_program}
use Rattle.text_rules.specs.Marks.{Mark, line_end, number, wrong}
use Rattle.text_rules.specs.Digits.{too_large, number_of}
use Rattle.text_rules.specs.Lines.{head_line, from_head, line_numbers, after_line, numbers_of}

-- the most bytes of a text
abbrev pub max_bytes : ℕ
max_bytes = 65535

-- the fewest and the most numbers of a header: start, until, teams, cap, nodes; and by W6 the program
abbrev pub header_least : ℕ
header_least = 5

abbrev pub header_most : ℕ
header_most = 6

-- "five or six numbers"
abbrev pub is_header : ℕ → Bool
is_header count = leb header_least count && leb count header_most

-- what the tests give
pub record Verdict : Type 0 where
  pub code : ℕ
  pub line : ℕ

abbrev pub ruled : ℕ → ℕ → Verdict
ruled code line = record { code = code; line = line }

-- "code and LINE (both 0 when granted)"
abbrev pub granted : Verdict
granted = ruled 0 0

abbrev pub is_granted : Verdict → Bool
is_granted v = eqb v.code 0

-- the refusal where the test holds, and else what the later tests give
unfoldable pub given : Bool → Verdict → Verdict → Verdict
given holds refusal later = cond holds refusal later

-- the earliest byte with 22 or 23, where the marks begin on the given line: a number stands at its first byte
unfoldable pub fault_from : ℕ → List Mark → Verdict
fault_from line [] = granted
fault_from line (line_end k ∷ ms) = fault_from (line + 1) ms
fault_from line (number ds k ∷ ms) = given (too_large ds) (ruled 23 line) (fault_from line ms)
fault_from line (wrong k ∷ ms) = ruled 22 line

abbrev pub opening_of : List ℕ → Opening
opening_of ns =
    record {
      start = signed (get_or ns 0 0);
      until = signed (get_or ns 1 0);
      teams = signed (get_or ns 2 0);
      cap = signed (get_or ns 3 0);
      nodes = signed (get_or ns 4 0);
    }

-- the number after those of an opening, which names the program; 0 where there is none
abbrev pub program_in : List ℕ → ℕ
program_in ns = get_or ns header_least 0

abbrev pub is_program : ℕ → Bool
is_program n = leb 1 n && leb n max_program

-- what a header names as its program: one, or none
abbrev pub may_name : Option ℕ → Bool
may_name None = true
may_name (Some n) = is_program n

-- A sixth number is a program's. A written 0 is no program, though 0 also stands for none: so the count is asked first.
abbrev pub program_good : ℕ → ℕ → Bool
program_good count program = leb count header_least || is_program program

-- the header's numbers are within their limits
abbrev pub head_good : List ℕ → Bool
head_good ns = opens (opening_of ns) && program_good (length ns) (program_in ns)

-- the numbers of the first line with a number
abbrev pub head_of : List Mark → List ℕ
head_of ms = line_numbers (from_head ms)

-- 24: "first line with a number has not" five or six, "or no such line"; 20: "opening values outside limits", or "a sixth other than 1 or 2"
unfoldable pub head_verdict : List Mark → Verdict
head_verdict ms =
    given (not (is_header (length (head_of ms)))) (ruled 24 (head_line 1 ms))
    (given (not (head_good (head_of ms))) (ruled 20 (head_line 1 ms))
    granted)

-- the tests of the header, for a text of n bytes with these marks: "21 to 24 and 20, over the whole text"
unfoldable pub header_verdict : ℕ → List Mark → Verdict
header_verdict n ms =
    given (ltb max_bytes n) (ruled 21 0)
    (given (not (is_granted (fault_from 1 ms))) (fault_from 1 ms)
    (head_verdict ms))

-- "The rest is team numbers, any count to a line."
abbrev pub schedule_marks : List Mark → List Mark
schedule_marks ms = after_line (from_head ms)

abbrev pub schedule_numbers : List Mark → List ℕ
schedule_numbers ms = numbers_of (schedule_marks ms)

abbrev pub teams_of : List Mark → ℕ
teams_of ms = nat_of (opening_of (head_of ms)).teams

abbrev pub is_team : ℕ → ℕ → Bool
is_team teams n = leb 1 n && leb n teams

-- the line of the first number that is no team's, where the marks begin on the given line; 0 where there is none
unfoldable pub stranger_from : ℕ → ℕ → List Mark → ℕ
stranger_from teams line [] = 0
stranger_from teams line (line_end k ∷ ms) = stranger_from teams (line + 1) ms
stranger_from teams line (number ds k ∷ ms) = cond (is_team teams (number_of ds)) (stranger_from teams line ms) line
stranger_from teams line (wrong k ∷ ms) = stranger_from teams line ms

abbrev pub stranger_line : List Mark → ℕ
stranger_line ms = stranger_from (teams_of ms) (head_line 1 ms + 1) (schedule_marks ms)

-- 26: "schedule number is not 1..teams"; 27: "schedule area shorter than the schedule"
unfoldable pub body_verdict : ℕ → List Mark → Verdict
body_verdict room ms =
    given (not (eqb (stranger_line ms) 0)) (ruled 26 (stranger_line ms))
    (given (ltb room (length (schedule_numbers ms))) (ruled 27 0)
    granted)

-- all tests, with an area for so many numbers
unfoldable pub schedule_verdict : ℕ → ℕ → List Mark → Verdict
schedule_verdict room n ms =
    given (not (is_granted (header_verdict n ms))) (header_verdict n ms)
    (body_verdict room ms)
