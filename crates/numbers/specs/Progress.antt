-- A progress: a signed number that is a position, or the mark of one. "A stolen position p becomes −p−1."
-- A signed number is `pos n`, which is n, or `negsuc n`, which is −n−1.
use Rattle.std.specs.Prelude.{ℕ, min, Bool, true, false, ℤ, pos, negsuc}

abbrev pub negative : ℤ → Bool
negative (pos n) = false
negative (negsuc n) = true

-- "Position is progress, or −progress−1 where progress is negative."
abbrev pub position : ℤ → ℕ
position (pos n) = n
position (negsuc n) = n

-- −p−1 of a position p. A mark stays as it is.
abbrev pub mark : ℤ → ℤ
mark (pos n) = negsuc n
mark (negsuc n) = negsuc n

-- a number as a progress, which goes no further than the largest signed number
abbrev pub signed : ℕ → ℤ
signed n = pos (min n 2147483647)
