-- Worked examples, for what no theorem says of every text: the order of the tests, LINE, the limits, and what a granted text is read as.
use Rattle.std.specs.Prelude.{◌≡◌, List, [], ◌∷◌, map, ℕ, ℤ, pos, length}
use Prim.Native.Char.{code}
use Prim.Native.String.{String, [] as none, ◌∷◌ as ◌and◌}
use Rattle.rules.specs.declared.Opening.{Opening}
use Rattle.text_rules.specs.Marks.{marks}
use Rattle.text_rules.specs.Judgement.{Verdict, ruled, granted, header_verdict, schedule_verdict}
use Rattle.text_rules.specs.Answers.{header_of, rest_place, schedule_of, area_of}

-- the bytes of a text in ASCII
unfoldable pub bytes : String → List ℕ
bytes none = []
bytes (c and s) = code c ∷ bytes s

-- an area of four numbers
abbrev pub area : ℕ → ℕ → ℕ → ℕ → List ℤ
area a b c d = pos a ∷ pos b ∷ pos c ∷ pos d ∷ []

abbrev pub nines : List ℤ
nines = area 9 9 9 9

-- ---- texts that are judged

-- a text, its length with the blanks that stand behind it, and what the tests of the header and all tests give, with an area of four numbers
pub record Judged : Type 0 where
  pub text : String
  pub size : ℕ
  pub header : Verdict
  pub schedule : Verdict

abbrev pub judged : String → ℕ → Verdict → Verdict → Judged
judged text size header schedule = record { text = text; size = size; header = header; schedule = schedule }

-- refused by a test of the header
abbrev pub refuses : String → ℕ → ℕ → Judged
refuses text code line = judged text (length (bytes text)) (ruled code line) (ruled code line)

-- refused by a test of the schedule
abbrev pub refuses_later : String → ℕ → ℕ → Judged
refuses_later text code line = judged text (length (bytes text)) granted (ruled code line)

abbrev pub judgements : List Judged
judgements =
    -- 65,535 bytes are judged by the later tests, 65,536 are 21
    judged "x" 65535 (ruled 22 1) (ruled 22 1)
    ∷ judged "x" 65536 (ruled 21 0) (ruled 21 0)
    -- the earlier of two faults, before 24
    ∷ refuses "0 5 2 4\n99999999999 x" 23 2
    ∷ refuses "0 5 2 4\nx 99999999999" 22 2
    -- 24 before 20, on the header's line or 0
    ∷ refuses "\n6 5 2 4\n7" 24 2
    ∷ refuses "\n6 5 2 4 7 3 1" 24 2
    ∷ refuses "# 0 5 2 4 7\n" 24 0
    -- 20 on the header's line, before 26
    ∷ refuses "\n\n6 5 2 4 7\n3" 20 3
    ∷ refuses "6 5 2 4 7 1" 20 1
    -- a sixth number other than 1 or 2 is 20 too; on the next line it is the schedule's
    ∷ refuses "\n0 5 2 4 7 0\n3" 20 2
    ∷ refuses "0 5 2 4 7 3" 20 1
    ∷ refuses "0 5 2 4 7 2147483647" 20 1
    ∷ refuses_later "0 5 2 4 7\n3" 26 2
    -- 26 on its own line, before 27
    ∷ refuses_later "0 5 2 4 7\n1 2 1\n\n0 1" 26 4
    ∷ refuses_later "0 5 2 4 7\n1 2 1\n3 1" 26 3
    ∷ refuses_later "0 5 2 4 7\n1 2 1\n2 1" 27 0
    -- ten digits are a number, eleven are none, and 2,147,483,647 is the largest
    ∷ judged "0 2147483647 0000000002 4 7" 27 granted granted
    ∷ refuses "0 5 00000000002 4 7" 23 1
    ∷ refuses "0 2147483648 2 4 7" 23 1
    ∷ []

-- ---- texts that are read

-- a granted text, the header's numbers and its program, the place of its rest, and what becomes of four 9s
pub record Reading : Type 0 where
  pub text : String
  pub opening : Opening
  pub program : ℕ
  pub rest : ℕ
  pub area : List ℤ

abbrev pub reading : String → ℕ → ℕ → List ℤ → Reading
reading text program rest area =
    record {
      text = text;
      opening = record { start = pos 0; until = pos 5; teams = pos 2; cap = pos 4; nodes = pos 7 };
      program = program;
      rest = rest;
      area = area;
    }

abbrev pub readings : List Reading
readings =
    -- the rest begins after the header's line end, and the area keeps its tail
    reading "0 5 2 4 7 # 9\n1 2" 0 14 (area 1 2 9 9)
    ∷ reading "0 5 2 4 7" 0 9 nines
    -- space, tab and CR are blanks
    ∷ reading "\n0\t5 2\r4 7\r\n1\t2\r2 2" 0 12 (area 1 2 2 2)
    -- a sixth number names the program; without one it is 0
    ∷ reading "0 5 2 4 7 1" 1 11 nines
    ∷ reading "0 5 2 4 7 2\n1 2" 2 12 (area 1 2 9 9)
    ∷ reading "0 5 2 4 7\n2" 0 10 (area 2 9 9 9)
    ∷ []

-- ---- the readers answer to each text what stands beside it

abbrev pub OnAll : {A B : Type 0} → List A → (A → B) → (A → B) → Type 0
OnAll xs f g = map f xs ≡ map g xs

pub record WorkedExamples : Type 0 where
  pub headers : OnAll judgements (λ j. header_verdict j.size (marks (bytes j.text))) (λ j. j.header)
  pub schedules : OnAll judgements (λ j. schedule_verdict (length nines) j.size (marks (bytes j.text))) (λ j. j.schedule)
  pub openings : OnAll readings (λ r. header_of (bytes r.text)) (λ r. record { code = 0; line = 0; opening = r.opening; program = r.program })
  pub programs : OnAll readings (λ r. (schedule_of (length nines) (bytes r.text)).program) (λ r. r.program)
  pub rests : OnAll readings (λ r. rest_place (bytes r.text)) (λ r. r.rest)
  pub areas : OnAll readings (λ r. area_of (bytes r.text) nines) (λ r. r.area)
