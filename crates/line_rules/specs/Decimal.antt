-- "Decimals have no leading zero." A number's digits in ASCII, the highest first.
use Rattle.std.specs.Prelude.{ℕ, zero, suc, ◌+◌, ◌*◌, ◌-◌, ◌/◌, ◌%◌, Bool, true, false, List, [], ◌∷◌, ◌++◌, ltb}

abbrev pub digit : ℕ → ℕ
digit d = 48 + d

abbrev pub one_digit : ℕ → Bool
one_digit n = ltb n 10

-- a number of one digit is that digit; any other is n / 10, as `high` spells it, and its last digit
unfoldable pub spell : Bool → ℕ → (ℕ → List ℕ) → List ℕ
spell true n high = digit n ∷ []
spell false n high = high (n / 10) ++ (digit (n % 10) ∷ [])

-- The digits of n, where k is more than n. The rest is handed on as a function, so that a number computes in as many steps as it has digits.
unfoldable pub digits : ℕ → ℕ → List ℕ
digits zero n = []
digits (suc k) n = spell (one_digit n) n (λ m. digits k m)

unfoldable pub decimal : ℕ → List ℕ
decimal n = digits (suc n) n

-- the number that digits stand for, after those that stand for `high`
unfoldable pub read_after : ℕ → List ℕ → ℕ
read_after high [] = high
read_after high (d ∷ ds) = read_after (high * 10 + (d - 48)) ds

unfoldable pub read_decimal : List ℕ → ℕ
read_decimal ds = read_after 0 ds
