-- A test of each number up to a last one.
use mathlib.Core.Path.{◌≡◌, refl, ap₂}
use mathlib.Core.Bool.{Bool, true, false, ◌&&◌, and-false}
use Prim.Native.Nat.{ℕ, zero, suc, ◌+◌, ◌≤◌}
use native.Mathlib.Decide.{dec_le}
use native.Mathlib.Numerals.{add-one}
use native.Mathlib.Omega.{arith}
use Rattle.rules.specs.WellFormed.{up_to}

-- all of the numbers pass, or some number does not
pub up_to_true : (p : ℕ → Bool) (k : ℕ) → ((n : ℕ) → 1 ≤ n → n ≤ k → p n ≡ true) → true ≡ up_to p k
unfolding up_to
up_to_true p zero h = refl
up_to_true p (suc k) h = rw (← up_to_true p k (λ n a b. h n a (omega arith)), h (suc k) (omega arith) (omega arith))

pub up_to_false : (p : ℕ → Bool) (k n : ℕ) → 1 ≤ n → n ≤ k → p n ≡ false → false ≡ up_to p k
unfolding up_to
up_to_false p zero n a b e = absurd (omega arith)
up_to_false p (suc k) n a b e = go (dec_le n k) (λ h. up_to_false p k n a h e)
  where
    go : Dec (n ≤ k) → (n ≤ k → false ≡ up_to p k) → false ≡ (up_to p k && p (suc k))
    go (yes h) rest = rw (← rest h)
    go (no h) rest = let i : n ≡ suc k = omega arith in rw (← i, e, and-false)

-- ---- one number more at a time

pub up_to_none : (p : ℕ → Bool) → true ≡ up_to p 0
unfolding up_to
up_to_none p = refl

pub up_to_more : (p : ℕ → Bool) (i : ℕ) {t u : Bool} → t ≡ up_to p i → u ≡ p (i + 1) → (t && u) ≡ up_to p (i + 1)
unfolding up_to
up_to_more p i e f = rw (add-one i, ← e, ← add-one i, ← f)

pub up_to_same : (p q : ℕ → Bool) (k : ℕ) → ((n : ℕ) → 1 ≤ n → n ≤ k → p n ≡ q n) → up_to p k ≡ up_to q k
unfolding up_to
up_to_same p q zero h = refl
up_to_same p q (suc k) h =
    ap₂ ◌&&◌ (up_to_same p q k (λ n a b. h n a (omega arith))) (h (suc k) (omega arith) (omega arith))
