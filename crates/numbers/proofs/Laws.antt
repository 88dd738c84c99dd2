-- Laws of the definitions, over plain variables: what a test on a signed number tells.
use mathlib.Core.Path.{◌≡◌, refl, ap}
use mathlib.Core.Bool.{Bool, true, false, ◌&&◌, false≢true, true≢false}
use Prim.Native.Nat.{ℕ, ◌≤◌}
use native.Mathlib.Omega.{arith}
use lib.Dec.{leb}
use lib.IntN.{ℤ, pos, negsuc}
use borrow.Author.Tests.{eqb-true, eq-eqb, le-leb, leb-true}
use Rattle.numbers.specs.Progress.{negative, position, mark, signed}
use Rattle.numbers.specs.Fields.{is_nat, within, same_number, nat_of}

-- a mark is read back exactly, and is never a position
pub mark_read : (p : ℕ) → position (mark (pos p)) ≡ p
mark_read p = refl

pub mark_negative : (z : ℤ) → negative (mark z) ≡ true
mark_negative (pos p) = refl
mark_negative (negsuc p) = refl

-- a progress is its position, or the mark of it
pub unmarked : (z : ℤ) → negative z ≡ false → z ≡ pos (position z)
unmarked (pos n) e = refl
unmarked (negsuc n) e = absurd (true≢false e)

pub marked : (z : ℤ) → negative z ≡ true → z ≡ negsuc (position z)
marked (pos n) e = absurd (false≢true e)
marked (negsuc n) e = refl

pub signed_is : (n : ℕ) → n ≤ 2147483647 → signed n ≡ pos n
signed_is n h = ap pos (omega arith)

both : (a b : Bool) → (a && b) ≡ true → (a ≡ true) × (b ≡ true)
both true b e = (refl, e)
both false b e = absurd (false≢true e)

-- a field that is in its limits
pub record Within (z : ℤ) (a b : ℕ) : Type 0 where
  pub is : z ≡ pos (nat_of z)
  pub low : a ≤ nat_of z
  pub high : nat_of z ≤ b

pub within_true : (z : ℤ) (low high : ℕ) → within z low high ≡ true → Within z low high
within_true (pos n) low high e =
    let h = both (leb low n) (leb n high) e in
    record { is = refl; low = leb-true low n h.0; high = leb-true n high h.1 }
within_true (negsuc n) low high e = absurd (false≢true e)

pub within_made : (n low high : ℕ) → low ≤ n → n ≤ high → within (pos n) low high ≡ true
within_made n low high h k = rw (le-leb low n h, le-leb n high k)

pub is_nat-true : (z : ℤ) (n : ℕ) → is_nat z n ≡ true → z ≡ pos n
is_nat-true (pos m) n e = ap pos (eqb-true m n e)
is_nat-true (negsuc m) n e = absurd (false≢true e)

pub is_nat_made : (n : ℕ) → is_nat (pos n) n ≡ true
is_nat_made n = eq-eqb n n refl

pub same_true : (a b : ℤ) → same_number a b ≡ true → a ≡ b
same_true (pos m) (pos n) e = ap pos (eqb-true m n e)
same_true (pos m) (negsuc n) e = absurd (false≢true e)
same_true (negsuc m) (pos n) e = absurd (false≢true e)
same_true (negsuc m) (negsuc n) e = ap negsuc (eqb-true m n e)

pub same_made : (a : ℤ) → same_number a a ≡ true
same_made (pos m) = eq-eqb m m refl
same_made (negsuc m) = eq-eqb m m refl
