-- "all little-endian 32-bit, two's complement"
use Rattle.std.specs.Prelude.{ℕ, ◌+◌, ◌-◌, ◌*◌, ◌/◌, ◌%◌, ◌<◌, cond, List, [], ◌∷◌, ◌++◌, ltb, ℤ, pos, negsuc, length, get_or, take, drop}

-- a list of bytes
abbrev pub Bytes : List ℕ → Type 0
Bytes bs = (i : ℕ) → get_or bs i 0 < 256

-- how many numbers 32 bits hold
abbrev pub words : ℕ
words = 4294967296

-- the number in the four bytes from a place on, the least byte first
unfoldable pub number_at : List ℕ → ℕ → ℕ
number_at bs k = get_or bs k 0 + 256 * get_or bs (k + 1) 0 + 65536 * get_or bs (k + 2) 0 + 16777216 * get_or bs (k + 3) 0

-- the four bytes of a number
unfoldable pub four : ℕ → List ℕ
four n = n % 256 ∷ n / 256 % 256 ∷ n / 256 / 256 % 256 ∷ n / 256 / 256 / 256 % 256 ∷ []

-- the bytes of numbers, one after the other
unfoldable pub fours : List ℕ → List ℕ
fours [] = []
fours (n ∷ ns) = four n ++ fours ns

-- the signed number that 32 bits stand for
unfoldable pub signed_of : ℕ → ℤ
signed_of n = cond (ltb n 2147483648) (pos n) (negsuc (words - 1 - n))

-- the bits of a signed number
unfoldable pub bits_of : ℤ → ℕ
bits_of (pos n) = n
bits_of (negsuc n) = words - 1 - n

-- an area with other bytes from a place on
unfoldable pub written : List ℕ → ℕ → List ℕ → List ℕ
written bs k new = take k bs ++ (new ++ drop (k + length new) bs)
