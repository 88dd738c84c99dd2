-- Laws of decimals: each follows by the digits, from the two equations `decimal-last` and `decimal-more`.
use mathlib.Core.Path.{◌≡◌, refl, ap, ◌∙◌}
use mathlib.Core.Bool.{Bool, true, false}
use mathlib.Core.List.{List, [], ◌∷◌, ◌++◌}
use mathlib.Core.Logic.{◌⊎◌, inl, inr, ⊎_elim}
use Prim.Native.Nat.{ℕ, zero, suc, ◌+◌, ◌/◌, ◌%◌, ◌*◌, ◌^◌, ◌≤◌, ◌<◌}
use native.Mathlib.Nat.{div-lt_iff_lt-mul, pow-suc}
use native.Mathlib.Omega.{arith}
use borrow.Author.Tests.{lt-ltb, le-ltb, ltb-true, ltb-false}
use lib.Dec.{lit<, ltb}
use lib.ListN.{length, length-append}
use Rattle.line_rules.specs.Decimal.{digit, one_digit, spell, digits, decimal}

same_spelt : (b : Bool) (n : ℕ) (f g : ℕ → List ℕ) → (b ≡ false → f (n / 10) ≡ g (n / 10)) → spell b n f ≡ spell b n g
unfolding spell
same_spelt true n f g h = refl
same_spelt false n f g h = rw (h refl)

below : (n k : ℕ) → one_digit n ≡ false → n < suc k → n / 10 < k
below n k e h = let big = ltb-false n _ e in omega arith

-- how many steps are allowed does not matter, where they are more than the number
enough : (k m n : ℕ) → n < k → n < m → digits k n ≡ digits m n
unfolding digits
enough zero m n h g = absurd (omega arith)
enough (suc k) zero n h g = absurd (omega arith)
enough (suc k) (suc m) n h g =
    same_spelt
    (one_digit n)
    n
    (λ i. digits k i)
    (λ i. digits m i)
    (λ e. enough k m (n / 10) (below n k e h) (below n m e g))

few : (n : ℕ) → n < 10 → one_digit n ≡ true
few n h = lt-ltb n 10 h

many : (n : ℕ) → 10 ≤ n → one_digit n ≡ false
many n h = le-ltb n 10 h

pub decimal_last : (n : ℕ) → n < 10 → decimal n ≡ digit n ∷ []
unfolding decimal digits spell
decimal_last n h = simp (few n h)

digits_more : (k n : ℕ) → 10 ≤ n → digits (suc k) n ≡ digits k (n / 10) ++ (digit (n % 10) ∷ [])
unfolding digits spell
digits_more k n h = simp (many n h)

pub decimal_more : (n : ℕ) → 10 ≤ n → decimal n ≡ decimal (n / 10) ++ (digit (n % 10) ∷ [])
unfolding decimal
decimal_more n h =
    digits_more n n h
    ∙ ap (λ (ds : List ℕ). ds ++ (digit (n % 10) ∷ [])) (enough n (suc (n / 10)) (n / 10) (omega arith) (omega arith))

pub one_digit_lem : (n : ℕ) → (n < 10) ⊎ (10 ≤ n)
one_digit_lem n = by (ltb n 10) refl where
  by : (b : Bool) → ltb n 10 ≡ b → (n < 10) ⊎ (10 ≤ n)
  by true e = inl (ltb-true n 10 e)
  by false e = inr (ltb-false n 10 e)

-- induction by the digits
module _ (P : ℕ → Type 0) (last : (n : ℕ) → n < 10 → P n) (more : (n : ℕ) → 10 ≤ n → P (n / 10) → P n) where
  within : (k n : ℕ) → n < k → P n
  within zero n h = absurd (omega arith)
  within (suc k) n h = ⊎_elim (λ (s : n < 10). last n s) (λ (b : 10 ≤ n). more n b (within k (n / 10) (omega arith))) (one_digit_lem n)

  pub by_digits : (n : ℕ) → P n
  by_digits n = within (suc n) n (omega arith)

pub decimal-some : (n : ℕ) → 1 ≤ length (decimal n)
decimal-some =
    by_digits
    (λ n. 1 ≤ length (decimal n))
    (λ n h. rw (decimal_last n h) (omega arith))
    (λ n h e. rw (decimal_more n h, length-append) (omega arith))

pub decimal_width : (k n : ℕ) → n < 10 ^ suc k → length (decimal n) ≤ suc k
decimal_width zero n h = rw (decimal_last n (omega arith)) (omega arith)
decimal_width (suc k) n h = ⊎_elim
    (λ (s : n < 10). rw (decimal_last n s) (omega arith))
    (λ (b : 10 ≤ n). let e = decimal_width k (n / 10) ((div-lt_iff_lt-mul (lit< tt)).1 (rw pow-suc at h)) in rw (decimal_more n b, length-append) (omega arith))
    (one_digit_lem n)

-- one digit less
pub decimal_shorter : (n : ℕ) → 10 ≤ n → length (decimal n) ≡ length (decimal (n / 10)) + 1
decimal_shorter n h = rw (decimal_more n h, length-append)

pub decimal_one : (n : ℕ) → n < 10 → length (decimal n) ≡ 1
decimal_one n h = rw (decimal_last n h)

power-some : (k : ℕ) → 1 ≤ 10 ^ k
power-some zero = omega arith
power-some (suc k) = rw pow-suc (omega (arith, power-some k))

-- as many digits as the powers of ten say that the number lies between
pub decimal_length : (k n : ℕ) → 10 ^ k ≤ n → n < 10 * 10 ^ k → length (decimal n) ≡ k + 1
decimal_length zero n low high = decimal_one n (omega arith)
decimal_length (suc k) n low high =
    let low' : 10 ^ k * 10 ≤ n = rw pow-suc at low in
    let high' : n < 10 * (10 ^ k * 10) = rw pow-suc at high in
    let some = power-some k in
    let rest = decimal_length k (n / 10) (omega arith) (omega arith) in
    omega (arith, decimal_shorter n (omega arith))
