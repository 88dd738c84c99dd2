-- What is claimed of the readers, for every text; the proofs stand in proofs/Demands.antt.
use Rattle.std.specs.Prelude.{◌≡◌, Bool, true, false, cond, List, [], ◌∷◌, ℕ, ◌*◌, ◌≤◌, ◌<◌, eqb, ℤ, pos, length}
use Rattle.numbers.specs.Fields.{nat_of}
use Rattle.numbers.specs.Progress.{signed}
use Rattle.rules.specs.Limits.{opens, max_program}
use Rattle.text_rules.specs.declared.Kind.TheVariants as kind
use Rattle.text_rules.specs.declared.Token.{Token}
use Rattle.text_rules.specs.Bytes.{class_of}
use Rattle.text_rules.specs.Marks.{Mark, line_end, number, in_comment, marks}
use Rattle.text_rules.specs.Digits.{value, number_of}
use Rattle.text_rules.specs.Judgement.{header_least, header_most, head_of, schedule_numbers}
use Rattle.text_rules.specs.Answers.{no_opening, header_of, rest_place, rest_of, schedule_of, area_of}
use Rattle.text_rules.specs.Tokens.{token_of, token_at}

-- Two texts of one length that differ only in bytes other than LF inside comments, where both begin inside a comment or both outside.
pub data SameButComments : Bool → List ℕ → List ℕ → Type 0 where
  nothing : {inside : Bool} → SameButComments inside [] []
  same : {inside : Bool} {s t : List ℕ} (b : ℕ) → SameButComments (in_comment inside (class_of b)) s t → SameButComments inside (b ∷ s) (b ∷ t)
  other : {s t : List ℕ} (a b : ℕ) → eqb a 10 ≡ false → eqb b 10 ≡ false → SameButComments true s t → SameButComments true (a ∷ s) (b ∷ t)

-- Such texts get the same answers, the same area, and rests that begin at the same place.
pub record SameAnswers (s t : List ℕ) : Type 0 where
  pub header : header_of s ≡ header_of t
  pub rest : rest_place s ≡ rest_place t
  pub schedule : (room : ℕ) → schedule_of room s ≡ schedule_of room t
  pub area : (area : List ℤ) → area_of s area ≡ area_of t area

abbrev pub CommentsNeverMatter : Type 0
CommentsNeverMatter = (s t : List ℕ) → SameButComments false s t → SameAnswers s t

-- "refused, these numbers are 0 and the area stays"; the rest is empty.
pub record RefusedHeader (text : List ℕ) : Type 0 where
  pub opening : (header_of text).opening ≡ no_opening
  pub program : (header_of text).program ≡ 0
  pub rest : rest_of text ≡ []

pub record RefusedSchedule (area : List ℤ) (text : List ℕ) : Type 0 where
  pub opening : (schedule_of (length area) text).opening ≡ no_opening
  pub program : (schedule_of (length area) text).program ≡ 0
  pub count : (schedule_of (length area) text).count ≡ 0
  pub stays : area_of text area ≡ area

abbrev pub RefusedChangesNothing : Type 0
RefusedChangesNothing =
    (text : List ℕ)
    → (((header_of text).code ≡ 0 → ⊥) → RefusedHeader text)
    × ((area : List ℤ) → ((schedule_of (length area) text).code ≡ 0 → ⊥) → RefusedSchedule area text)

-- Each of the numbers is one of 1..teams.
pub data AllTeams (teams : ℕ) : List ℕ → Type 0 where
  none : AllTeams teams []
  more : {n : ℕ} {ns : List ℕ} → 1 ≤ n → n ≤ teams → AllTeams teams ns → AllTeams teams (n ∷ ns)

-- What is granted lies within the limits: the header's numbers those of an opening and of a program, the schedule's those of its teams, their
-- count that of the area.
pub record WithinLimits (room : ℕ) (text : List ℕ) : Type 0 where
  pub opening : opens (schedule_of room text).opening ≡ true
  pub program : (schedule_of room text).program ≤ max_program
  pub teams : AllTeams (nat_of (schedule_of room text).opening.teams) (schedule_numbers (marks text))
  pub count : (schedule_of room text).count ≡ length (schedule_numbers (marks text))
  pub fits : length (schedule_numbers (marks text)) ≤ room

abbrev pub GrantedIsWithinLimits : Type 0
GrantedIsWithinLimits = (room : ℕ) (text : List ℕ) → (schedule_of room text).code ≡ 0 → WithinLimits room text

-- The header's answer tells five numbers from six: its program is 0 exactly where there are five.
abbrev pub TellsFiveFromSix : Type 0
TellsFiveFromSix =
    (text : List ℕ)
    → (header_of text).code ≡ 0
    → length (head_of (marks text)) ≡ cond (eqb (header_of text).program 0) header_least header_most

-- In a text that is granted each number is read as the value that its digits write.
pub data AllExact : List Mark → Type 0 where
  none : AllExact []
  line : {k : ℕ} {ms : List Mark} → AllExact ms → AllExact (line_end k ∷ ms)
  exact : {ds : List ℕ} {k : ℕ} {ms : List Mark} → signed (number_of ds) ≡ pos (value ds) → AllExact ms → AllExact (number ds k ∷ ms)

abbrev pub GrantedIsExact : Type 0
GrantedIsExact = (text : List ℕ) → (header_of text).code ≡ 0 → AllExact (marks text)

-- "`sheets` lends room for 32,768 schedule numbers, so it never prints 27."
abbrev pub schedule_room : ℕ
schedule_room = 32768

abbrev pub NeverShort : Type 0
NeverShort = (text : List ℕ) → (schedule_of schedule_room text).code ≡ 27 → ⊥

-- Two numbers have a byte between them, so room for half as many numbers as a text has bytes, and one, is as good as the most: `sheets` lends
-- a short text a short area.
abbrev pub HalfIsEnough : Type 0
HalfIsEnough =
    (room : ℕ) (text : List ℕ) → room ≤ schedule_room → length text < 2 * room
    → schedule_of room text ≡ schedule_of schedule_room text

-- The tokens that a scanner finds from a place on, one after the other, up to the text's end.
pub data Scans (text : List ℕ) : ℕ → List Token → Type 0 where
  ended : {place : ℕ} → (token_at text place).kind ≡ kind.End → Scans text place []
  found : {place : ℕ} {ts : List Token} → Scans text (token_at text place).end ts → Scans text place (token_at text place ∷ ts)

-- the marks as tokens, in a text of n bytes
unfoldable pub tokens_of : ℕ → List Mark → List Token
tokens_of n [] = []
tokens_of n (m ∷ ms) = token_of n (m ∷ ms) ∷ tokens_of n ms

-- They are the marks by which the text is judged.
abbrev pub ScannerFindsTheMarks : Type 0
ScannerFindsTheMarks = (text : List ℕ) → Scans text 0 (tokens_of (length text) (marks text))
