-- The number that a run of digits writes.
use Rattle.std.specs.Prelude.{ℕ, ◌+◌, ◌-◌, ◌*◌, Bool, cond, ◌||◌, List, [], ◌∷◌, ltb, length}

abbrev pub max_digits : ℕ
max_digits = 10

abbrev pub max_number : ℕ
max_number = 2147483647

-- v, with the digits written after it
unfoldable pub value_from : ℕ → List ℕ → ℕ
value_from v [] = v
value_from v (d ∷ ds) = value_from (v * 10 + (d - 48)) ds

abbrev pub value : List ℕ → ℕ
value ds = value_from 0 ds

-- 23: "number over ten digits or over 2,147,483,647"
unfoldable pub too_large : List ℕ → Bool
too_large ds = ltb max_digits (length ds) || ltb max_number (value ds)

-- what a number that is refused is read as: no number within the limits
abbrev pub refused_number : ℕ
refused_number = max_number + 1

-- what the digits are read as
unfoldable pub number_of : List ℕ → ℕ
number_of ds = cond (too_large ds) refused_number (value ds)
