-- The numbers of a line as the code has them: naturals, which may be wider than the 32 bits of a public call's numbers.
use Rattle.std.specs.Prelude.{ℕ, ◌≤◌, List, ◌∷◌, length, map, pos}
use Rattle.line_rules.specs.Decimal.{decimal}
use Rattle.line_rules.specs.Line.{Part, number, space, spaced}

-- a number after its space
abbrev pub field : ℕ → List ℕ
field n = space ∷ decimal n

-- numbers as the parts of a line, and their bytes
abbrev pub parts : List ℕ → List Part
parts ns = map (λ n. number (pos n)) ns

unfoldable pub fields : List ℕ → List ℕ
fields ns = spaced (parts ns)

-- few enough that the bytes can be summed
pub record Few (words : ℕ) {A : Type 0} (xs : List A) : Type 0 where
  pub letters : words ≤ 16
  pub numbers : length xs ≤ 8
