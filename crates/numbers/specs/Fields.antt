-- A request's fields are signed; each test on one reads it as it is, and never casts a negative number.
use Rattle.std.specs.Prelude.{ℕ, Bool, false, ◌&&◌, ℤ, pos, negsuc, eqb, leb}

-- z is the number n
abbrev pub is_nat : ℤ → ℕ → Bool
is_nat (pos m) n = eqb m n
is_nat (negsuc m) n = false

-- z is one of low..high
abbrev pub within : ℤ → ℕ → ℕ → Bool
within (pos n) low high = leb low n && leb n high
within (negsuc n) low high = false

-- the two are the same number
abbrev pub same_number : ℤ → ℤ → Bool
same_number (pos m) (pos n) = eqb m n
same_number (pos m) (negsuc n) = false
same_number (negsuc m) (pos n) = false
same_number (negsuc m) (negsuc n) = eqb m n

-- z, or 0 where z is negative: a field once it was tested
abbrev pub nat_of : ℤ → ℕ
nat_of (pos n) = n
nat_of (negsuc n) = 0
