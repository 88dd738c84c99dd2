-- What document 01 says of every line and of the line writer, as statements. Their proofs are proofs/Demands.antt and proofs/Answer.antt.
use Rattle.std.specs.Prelude.{ℕ, ◌≤◌, ◌<◌, ◌≡◌, true, false, List, pos, length, get_or, drop}
use Rattle.line_rules.specs.Decimal.{digit, decimal, read_decimal}
use Rattle.line_rules.specs.Line.{Line, open_line, open_with_line, parts_of, text, any_negative}
use Rattle.line_rules.specs.Words.{ascii}
use Rattle.line_rules.specs.Written.{refused, answer, after}
use Rattle.line_rules.specs.Plain.{is_digit, is_plain, all}
use Rattle.line_rules.specs.Longest.{max_line, limits, Kept, longest}

-- "Decimals have no leading zero": 0 is the first digit of no other number than 0. (A list with no digit would count as one with 0.)
abbrev pub NoLeadingZero : Type 0
NoLeadingZero = (n : ℕ) → get_or (decimal n) 0 (digit 0) ≡ digit 0 → n ≡ 0

-- a decimal has digits alone, and reads back to its number
abbrev pub DigitsAlone : Type 0
DigitsAlone = (n : ℕ) → all is_digit (decimal n) ≡ true

abbrev pub ReadsBack : Type 0
ReadsBack = (n : ℕ) → read_decimal (decimal n) ≡ n

-- every byte of a line is a lower-case letter, a digit, a space or a line end
abbrev pub PlainLines : Type 0
PlainLines = (l : Line) → all is_plain (text l) ≡ true

-- the open line of document 01's example, and the same with its program
abbrev pub OpenLines : Type 0
OpenLines =
    (text (open_line (pos 0) (pos 5) (pos 2) (pos 4) (pos 7)) ≡ ascii "open 0 5 2 4 7\n")
    × (text (open_with_line (pos 0) (pos 5) (pos 2) (pos 4) (pos 7) (pos 2)) ≡ ascii "open 0 5 2 4 7 2\n")

-- No line is longer than the longest, and one is as long.
abbrev pub NoLineLonger : Type 0
NoLineLonger = (l : Line) → Kept (limits l) → length (text l) ≤ max_line

abbrev pub OneLineAsLong : Type 0
OneLineAsLong = Kept (limits longest) × (length (text longest) ≡ max_line)

-- ---- the line writer

-- 25 is the "line writer, first": a negative number is told also where the area is too short.
abbrev pub NegativeFirst : Type 0
NegativeFirst = (l : Line) (room : ℕ) → any_negative (parts_of l) ≡ true → answer l room ≡ refused 25

-- 28, the "line writer, second": "line area shorter than the line"
abbrev pub ShortSecond : Type 0
ShortSecond = (l : Line) (room : ℕ) → any_negative (parts_of l) ≡ false → room < length (text l) → answer l room ≡ refused 28

-- "Bytes after the line stay": where it is refused its length is 0, and they are all.
abbrev pub BytesAfterStay : Type 0
BytesAfterStay =
    (l : Line) (area : List ℕ)
    → let n = (answer l (length area)).length in
    drop n (after l area) ≡ drop n area
