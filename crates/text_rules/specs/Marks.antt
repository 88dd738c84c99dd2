-- What a text says: its line ends, its numbers and its wrong bytes, one after the other. Blanks and comments say nothing.
use Rattle.std.specs.Prelude.{ℕ, Bool, true, false, cond, List, [], ◌∷◌, length}
use Rattle.text_rules.specs.Bytes.{Class, LineEnd, Hash, Blank, Digit, Other, class_of, is_digit}

-- A mark knows how many bytes of the text come after it, which is its place in the text; a number has its digits, as bytes.
pub data Mark : Type 0 where
  line_end : ℕ → Mark
  number : List ℕ → ℕ → Mark
  wrong : ℕ → Mark

-- "From # to the line's end is a comment of any bytes": whether the byte after one of this class is in a comment, given whether that one is
abbrev pub in_comment : Bool → Class → Bool
in_comment inside LineEnd = false
in_comment inside Hash = true
in_comment inside Blank = inside
in_comment inside Digit = inside
in_comment inside Other = inside

abbrev pub starts_digit : List ℕ → Bool
starts_digit [] = false
starts_digit (b ∷ bs) = is_digit (class_of b)

-- the first mark, a number, with one digit more in front
abbrev pub longer : ℕ → List Mark → List Mark
longer b [] = []
longer b (line_end k ∷ ms) = line_end k ∷ ms
longer b (number ds k ∷ ms) = number (b ∷ ds) k ∷ ms
longer b (wrong k ∷ ms) = wrong k ∷ ms

-- "Numbers are runs of digits": a digit right before a digit is of the same number
abbrev pub with_digit : ℕ → List ℕ → List Mark → List Mark
with_digit b bs ms = cond (starts_digit bs) (longer b ms) (number (b ∷ []) (length bs) ∷ ms)

-- what a byte adds, by its class, to the marks ms of the bytes bs after it; in a comment, only a line end
abbrev pub added : Bool → Class → ℕ → List ℕ → List Mark → List Mark
added inside LineEnd b bs ms = line_end (length bs) ∷ ms
added inside Hash b bs ms = ms
added inside Blank b bs ms = ms
added inside Digit b bs ms = cond inside ms (with_digit b bs ms)
added inside Other b bs ms = cond inside ms (wrong (length bs) ∷ ms)

-- the marks of the bytes that begin inside a comment, or outside
unfoldable pub marks_from : Bool → List ℕ → List Mark
marks_from inside [] = []
marks_from inside (b ∷ bs) = added inside (class_of b) b bs (marks_from (in_comment inside (class_of b)) bs)

abbrev pub marks : List ℕ → List Mark
marks text = marks_from false text
