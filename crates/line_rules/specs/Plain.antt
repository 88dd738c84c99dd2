-- The bytes that a line may have: lower-case letters, digits, spaces and line ends.
use Rattle.std.specs.Prelude.{ℕ, Bool, true, ◌&&◌, ◌||◌, List, [], ◌∷◌, eqb, leb}
use Rattle.line_rules.specs.Line.{space, line_end}

abbrev pub is_digit : ℕ → Bool
is_digit b = leb 48 b && leb b 57

abbrev pub is_letter : ℕ → Bool
is_letter b = leb 97 b && leb b 122

abbrev pub is_plain : ℕ → Bool
is_plain b = is_digit b || is_letter b || eqb b space || eqb b line_end

-- each byte passes the test
abbrev pub all : (ℕ → Bool) → List ℕ → Bool
all test [] = true
all test (b ∷ bs) = test b && all test bs
