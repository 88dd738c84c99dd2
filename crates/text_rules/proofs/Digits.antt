-- Laws of what a run of digits is read as.
use mathlib.Core.Path.{◌≡◌, refl}
use mathlib.Core.Bool.{Bool, true, false, cond, ◌||◌, true≢false}
use mathlib.Core.List.{List}
use Prim.Native.Nat.{ℕ, ◌≤◌}
use native.Mathlib.Omega.{arith}
use lib.Dec.{ltb}
use lib.ListN.{length}
use borrow.Author.Tests.{lt-ltb, le-ltb, ltb-false}
use Rattle.text_rules.specs.Digits.{max_digits, max_number, refused_number, value, too_large, number_of}

-- 23 tells a number from its value alone
large_number : (t : Bool) (v : ℕ) → (t ≡ false → v ≤ max_number) → ltb max_number (cond t refused_number v) ≡ t
large_number true v h = lt-ltb max_number refused_number (omega arith)
large_number false v h = le-ltb max_number v (h refl)

not_large : (b : Bool) (v : ℕ) → (b || ltb max_number v) ≡ false → v ≤ max_number
not_large true v e = absurd (true≢false e)
not_large false v e = ltb-false max_number v e

pub number_large : (ds : List ℕ) → ltb max_number (number_of ds) ≡ too_large ds
unfolding too_large number_of
number_large ds = large_number (too_large ds) (value ds) (not_large (ltb max_digits (length ds)) (value ds))

pub small_value : (ds : List ℕ) → too_large ds ≡ false → value ds ≤ max_number
unfolding too_large
small_value ds e = not_large (ltb max_digits (length ds)) (value ds) e
