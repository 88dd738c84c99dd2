-- What a byte is in a text. "LF alone ends a line; space, tab and CR are blanks."
use Rattle.std.specs.Prelude.{ℕ, Bool, true, false, cond, ◌&&◌, ◌||◌, eqb, leb}

pub data Class : Type 0 where
  LineEnd : Class
  Hash : Class
  Blank : Class
  Digit : Class
  Other : Class

-- the digits 0 to 9 in ASCII
abbrev pub is_numeral : ℕ → Bool
is_numeral b = leb 48 b && leb b 57

abbrev pub is_blank : ℕ → Bool
is_blank b = eqb b 32 || eqb b 9 || eqb b 13

unfoldable pub class_of : ℕ → Class
class_of b =
    cond (eqb b 10) LineEnd
    (cond (eqb b 35) Hash
    (cond (is_blank b) Blank
    (cond (is_numeral b) Digit
    Other)))

abbrev pub is_digit : Class → Bool
is_digit LineEnd = false
is_digit Hash = false
is_digit Blank = false
is_digit Digit = true
is_digit Other = false
