-- The lines of the listing, and the bytes of each.
use Rattle.std.specs.Prelude.{ℕ, Bool, false, ◌||◌, List, [], ◌∷◌, ◌++◌, ℤ}
use Rattle.numbers.specs.Progress.{negative}
use Rattle.numbers.specs.Fields.{nat_of}
use Rattle.line_rules.specs.Decimal.{decimal}
use Rattle.line_rules.specs.Words.{open_word, batch_word, split_word, left_word, stopped_word, refused_word}

-- "Fields: the header's numbers; batch team node from to; split node left middle; unclaimed count and stopped teams."
-- "A refused text prints only `refused CODE LINE`." By W6 a header's sixth number names the program, "and the open line prints it"; five
-- numbers keep "the old open line".
pub data Line : Type 0 where
  open_line : (start until teams cap nodes : ℤ) → Line
  open_with_line : (start until teams cap nodes program : ℤ) → Line
  batch_line : (team node from to : ℤ) → Line
  split_line : (node left middle : ℤ) → Line
  left_line : (count stopped : ℤ) → Line
  refused_line : (code line : ℤ) → Line

-- what a line has after its first word
pub data Part : Type 0 where
  word : List ℕ → Part
  number : ℤ → Part

abbrev pub word_of : Line → List ℕ
word_of (open_line start until teams cap nodes) = open_word
word_of (open_with_line start until teams cap nodes program) = open_word
word_of (batch_line team node from to) = batch_word
word_of (split_line node left middle) = split_word
word_of (left_line count stopped) = left_word
word_of (refused_line code line) = refused_word

abbrev pub parts_of : Line → List Part
parts_of (open_line start until teams cap nodes) =
    number start ∷ number until ∷ number teams ∷ number cap ∷ number nodes ∷ []
parts_of (open_with_line start until teams cap nodes program) =
    number start ∷ number until ∷ number teams ∷ number cap ∷ number nodes ∷ number program ∷ []
parts_of (batch_line team node from to) = number team ∷ number node ∷ number from ∷ number to ∷ []
parts_of (split_line node left middle) = number node ∷ number left ∷ number middle ∷ []
parts_of (left_line count stopped) = number count ∷ word stopped_word ∷ number stopped ∷ []
parts_of (refused_line code line) = number code ∷ number line ∷ []

abbrev pub space : ℕ
space = 32

abbrev pub line_end : ℕ
line_end = 10

abbrev pub bytes_of : Part → List ℕ
bytes_of (word w) = w
bytes_of (number z) = decimal (nat_of z)

-- "One space parts words and numbers."
unfoldable pub spaced : List Part → List ℕ
spaced [] = []
spaced (p ∷ ps) = (space ∷ bytes_of p) ++ spaced ps

-- a word at the line's start, the parts after it, and the line end
unfoldable pub whole : List ℕ → List Part → List ℕ
whole w ps = (w ++ spaced ps) ++ (line_end ∷ [])

abbrev pub text : Line → List ℕ
text l = whole (word_of l) (parts_of l)

abbrev pub below_zero : Part → Bool
below_zero (word w) = false
below_zero (number z) = negative z

-- a number to write is negative
unfoldable pub any_negative : List Part → Bool
any_negative [] = false
any_negative (p ∷ ps) = below_zero p || any_negative ps
