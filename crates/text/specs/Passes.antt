-- What the passes over a text find, each in terms of its marks.
use Rattle.std.specs.Prelude.{◌≡◌, ℕ, ◌+◌, ◌-◌, ◌≤◌, cond, List, leb, ltb, ℤ, length, set, drop, Option, None, Some, Result, Ok, Err}
use Rattle.std.specs.Option.{option_or}
use Rattle.rules.specs.declared.refusal.Refusal.TheVariants as refusal
use Rattle.text_rules.specs.declared.Refused.{Refused}
use Rattle.text.specs.declared.Spot.{Spot}
use Rattle.text.specs.declared.Row.{Row}
use Rattle.text.specs.declared.Tally.{Tally}
use Rattle.text.specs.declared.Heading.{Heading}
use Rattle.text_rules.specs.Marks.{Mark, marks}
use Rattle.text_rules.specs.Lines.{head_line, from_head, line_numbers, after_line, left_after, numbers_of}
use Rattle.text_rules.specs.Judgement.{max_bytes, header_least, granted, fault_from, opening_of, program_in, head_of, header_verdict, schedule_marks, schedule_numbers, teams_of, is_team, stranger_from}
use Rattle.text_rules.specs.Answers.{verdict_of, told_program, rest_place, filled}
use Rattle.text_rules.specs.Demands.{schedule_room}

-- the place before the first number, and its line
pub record HeadAt (text : List ℕ) (s : Spot) : Type 0 where
  pub fault : fault_from s.line (marks (drop s.place text)) ≡ fault_from 1 (marks text)
  pub most : s.line ≤ max_bytes + 1
  pub within : s.place ≤ length text
  pub line : s.line ≡ head_line 1 (marks text)
  pub there : marks (drop s.place text) ≡ from_head (marks text)

abbrev pub HeadRead : List ℕ → Result Spot Refused → Type 0
HeadRead text (Ok s) = HeadAt text s
HeadRead text (Err e) = verdict_of e ≡ header_verdict (length text) (marks text)

-- a row with one number more
abbrev pub noted : Row → ℕ → Row
noted r value = record { count = r.count + 1; first = set r.first r.count value; end = r.end }

pub record RowAsked (text : List ℕ) (head : Spot) : Type 0 where
  pub short : length text ≤ max_bytes
  pub within : head.place ≤ length text

-- the numbers of a whole line, in which no byte has 22 or 23
pub record WholeRow (text : List ℕ) (head : Spot) (r : Row) : Type 0 where
  pub fault : fault_from (head.line + 1) (marks (drop r.end text)) ≡ fault_from head.line (marks (drop head.place text))
  pub count : r.count ≡ length (line_numbers (marks (drop head.place text)))
  pub first : opening_of r.first ≡ opening_of (line_numbers (marks (drop head.place text)))
  pub program : program_in r.first ≡ program_in (line_numbers (marks (drop head.place text)))
  pub end : r.end ≡ length text - left_after (marks (drop head.place text))
  pub within : r.end ≤ length text
  pub there : marks (drop r.end text) ≡ after_line (marks (drop head.place text))

abbrev pub RowRead : List ℕ → Spot → Result Row Refused → Type 0
RowRead text head (Ok r) = WholeRow text head r
RowRead text head (Err e) = verdict_of e ≡ fault_from head.line (marks (drop head.place text))

-- a tally with one number more, which stands on a line
abbrev pub counted : Tally → ℕ → ℕ → ℕ → Tally
counted t teams line value =
    record { stranger = cond (is_team teams value) t.stranger (option_or t.stranger (Some line)); count = t.count + 1 }

-- so few bytes are left that all lines are counted, and all numbers have room
pub record NumbersAsked (text : List ℕ) (from : Spot) (room : ℕ) : Type 0 where
  pub short : length text ≤ max_bytes
  pub within : from.place ≤ length text
  pub least : 1 ≤ from.line
  pub most : from.line ≤ max_bytes + 2
  pub enough : schedule_room ≡ room

-- the line of a stranger, told as 0 where there is none
abbrev pub IsLine : Option ℕ → ℕ → Type 0
IsLine None line = line ≡ 0
IsLine (Some l) line = (1 ≤ l) × (l ≡ line)

pub record Tallied (teams on : ℕ) (ms : List Mark) (t : Tally) : Type 0 where
  pub stranger : IsLine t.stranger (stranger_from teams on ms)
  pub count : t.count ≡ length (numbers_of ms)

-- no byte has 22 or 23 from a place on: all numbers are counted, and the area, kept before, has them at its front later
pub record WholeNumbers (text : List ℕ) (from : Spot) (teams : ℕ) (kept : List ℤ) (t : Tally) (later : List ℤ) : Type 0 where
  pub fault : fault_from from.line (marks (drop from.place text)) ≡ granted
  pub tally : Tallied teams from.line (marks (drop from.place text)) t
  pub keeps : later ≡ filled (numbers_of (marks (drop from.place text))) kept

abbrev pub NumbersRead : List ℕ → Spot → ℕ → List ℤ → Result Tally Refused → List ℤ → Type 0
NumbersRead text from teams kept (Ok t) later = WholeNumbers text from teams kept t later
NumbersRead text from teams kept (Err e) later = verdict_of e ≡ fault_from from.line (marks (drop from.place text))

-- the program that so many numbers name, of which these are the first
abbrev pub named : ℕ → List ℕ → Option ℕ
named count first = cond (leb count header_least) None (Some (program_in first))

-- the header, where the schedule begins, and its numbers
pub record WholeHeading (text : List ℕ) (kept : List ℤ) (h : Heading) (later : List ℤ) : Type 0 where
  pub verdict : header_verdict (length text) (marks text) ≡ granted
  pub opening : h.header.opening ≡ opening_of (head_of (marks text))
  pub program : told_program h.header.program ≡ program_in (head_of (marks text))
  pub end : h.end ≡ rest_place text
  pub within : h.end ≤ length text
  pub tally : Tallied (teams_of (marks text)) (head_line 1 (marks text) + 1) (schedule_marks (marks text)) h.tally
  pub keeps : later ≡ filled (schedule_numbers (marks text)) kept

abbrev pub HeadingRead : List ℕ → List ℤ → Result Heading Refused → List ℤ → Type 0
HeadingRead text kept (Ok h) later = WholeHeading text kept h later
HeadingRead text kept (Err e) later = verdict_of e ≡ header_verdict (length text) (marks text)

-- 26 where a number is no team's, and else 27 where so much room is too short, and else the count
abbrev pub judged_by : Option ℕ → ℕ → ℕ → Result ℕ Refused
judged_by (Some line) count room = Err (record { refusal = refusal.Stranger; line = line })
judged_by None count room = cond (ltb room count) (Err (record { refusal = refusal.ShortSchedule; line = 0 })) (Ok count)

abbrev pub judged : Tally → ℕ → Result ℕ Refused
judged t room = judged_by t.stranger t.count room
