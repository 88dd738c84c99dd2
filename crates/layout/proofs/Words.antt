-- Four bytes and the number that they stand for, in both directions, and two's complement.
use mathlib.Core.Path.{◌≡◌, refl, sym, ap, ◌∙◌}
use mathlib.Core.List.{List, [], ◌∷◌, ◌++◌}
use Prim.Native.Nat.{ℕ, zero, suc, ◌+◌, ◌-◌, ◌*◌, ◌/◌, ◌%◌, ◌≤◌, ◌<◌}
use native.Mathlib.Decide.{dec_lt}
use native.Mathlib.Omega.{arith}
use lib.IntN.{ℤ, pos, negsuc}
use lib.Signed.{mag}
use lib.ListN.{length, get_or, take, drop, length-drop}
use lib.Seq.{get_or-drop}
use borrow.Author.Tests.{lt-ltb, le-ltb}
use mir.Syntax.{w32}
use mir.Val.{SFits, to_z, of_z}
use mir.Facts.{to_z_pos}
use Rattle.std.proofs.Math.Facts.{to_z-neg}
use Rattle.std.specs.Int.{from_le_bytes, to_le_bytes}
use Rattle.layout.specs.Numbers.{Bytes, words, number_at, four, signed_of, bits_of}

-- ---- a number and its bytes

pub four_length : (n : ℕ) → length (four n) ≡ 4
unfolding four
four_length n = refl

pub number_four : (n : ℕ) (t : List ℕ) → n < words → number_at (four n ++ t) 0 ≡ n
unfolding number_at four
number_four n t h = omega arith

-- One division at a time, so that each step is linear.
four_number : (a b c d : ℕ) → a < 256 → b < 256 → c < 256 → d < 256
    → four (a + 256 * b + 65536 * c + 16777216 * d) ≡ a ∷ b ∷ c ∷ d ∷ []
unfolding four
four_number a b c d p q r s =
    let n = a + 256 * b + 65536 * c + 16777216 * d in
    let n1 : n / 256 ≡ b + 256 * c + 65536 * d = omega arith in
    let n2 : (b + 256 * c + 65536 * d) / 256 ≡ c + 256 * d = omega arith in
    let n3 : (c + 256 * d) / 256 ≡ d = omega arith in
    let e0 : n % 256 ≡ a = omega arith in
    let e1 : (b + 256 * c + 65536 * d) % 256 ≡ b = omega arith in
    let e2 : (c + 256 * d) % 256 ≡ c = omega arith in
    let e3 : d % 256 ≡ d = omega arith in
    rw (n1, n2, n3, e0, e1, e2, e3)

pub four_byte : (n i : ℕ) (t : List ℕ) → Bytes t → get_or (four n ++ t) i 0 < 256
unfolding four
four_byte n zero t b = omega arith
four_byte n (suc zero) t b = omega arith
four_byte n (suc (suc zero)) t b = omega arith
four_byte n (suc (suc (suc zero))) t b = omega arith
four_byte n (suc (suc (suc (suc i)))) t b = b i

-- ---- a number somewhere in an area

pub bytes_drop : (bs : List ℕ) (k : ℕ) → Bytes bs → Bytes (drop k bs)
bytes_drop bs k b i = rw (get_or-drop k bs i 0) (b (k + i))

pub number_small : (bs : List ℕ) (k : ℕ) → Bytes bs → number_at bs k < words
unfolding number_at
number_small bs k b = omega (arith, b k, b (k + 1), b (k + 2), b (k + 3))

-- read at a place, or at the head of what stands from there on
pub number_drop : (bs : List ℕ) (k m : ℕ) → number_at (drop k bs) m ≡ number_at bs (k + m)
unfolding number_at
number_drop bs k m =
    let e1 : k + (m + 1) ≡ k + m + 1 = omega arith in
    let e2 : k + (m + 2) ≡ k + m + 2 = omega arith in
    let e3 : k + (m + 3) ≡ k + m + 3 = omega arith in
    rw (get_or-drop k bs m 0, get_or-drop k bs (m + 1) 0, get_or-drop k bs (m + 2) 0, get_or-drop k bs (m + 3) 0, e1, e2, e3)

four_first : (t : List ℕ) → Bytes t → 4 ≤ length t → four (number_at t 0) ≡ take 4 t
unfolding number_at
four_first [] b h = absurd (omega arith)
four_first (x ∷ []) b h = absurd (omega arith)
four_first (x ∷ y ∷ []) b h = absurd (omega arith)
four_first (x ∷ y ∷ z ∷ []) b h = absurd (omega arith)
four_first (x ∷ y ∷ z ∷ w ∷ t) b h = four_number x y z w (b 0) (b 1) (b 2) (b 3)

pub four_at : (t : List ℕ) (k : ℕ) → Bytes t → k + 4 ≤ length t → four (number_at t k) ≡ take 4 (drop k t)
four_at t k b h =
    let z : k + 0 ≡ k = omega arith in
    let e : number_at (drop k t) 0 ≡ number_at t k = number_drop t k 0 ∙ ap (number_at t) z in
    rw (← e) (four_first (drop k t) (bytes_drop t k b) (rw (length-drop k t) (omega arith)))

-- ---- two's complement

pub signed_low : (n : ℕ) → n < 2147483648 → signed_of n ≡ pos n
unfolding signed_of
signed_low n h = rw (lt-ltb n 2147483648 h)

pub signed_high : (n : ℕ) → 2147483648 ≤ n → signed_of n ≡ negsuc (4294967295 - n)
unfolding signed_of
signed_high n h = rw (le-ltb n 2147483648 h)

pub bits_signed : (n : ℕ) → n < words → bits_of (signed_of n) ≡ n
unfolding bits_of
bits_signed n h = go (dec_lt n 2147483648)
  where
    go : Dec (n < 2147483648) → bits_of (signed_of n) ≡ n
    go (yes k) = rw (signed_low n k)
    go (no k) = rw (signed_high n (omega arith)) (omega arith)

pub signed_bits : (z : ℤ) → mag z < 2147483648 → signed_of (bits_of z) ≡ z
unfolding bits_of
signed_bits (pos n) h = signed_low n h
signed_bits (negsuc n) h =
    let e : 4294967295 - (4294967295 - n) ≡ n = omega arith in
    rw (signed_high (4294967295 - n) (omega arith), e)

pub bits_small : (z : ℤ) → mag z < 2147483648 → bits_of z < words
unfolding bits_of
bits_small (pos n) h = omega arith
bits_small (negsuc n) h = omega arith

-- ---- what std's methods give

-- the number in four bytes that stand in an array
pub from_four : (bs : List ℕ) (k : ℕ)
    → from_le_bytes w32 (get_or bs k 0 ∷ get_or bs (k + 1) 0 ∷ get_or bs (k + 2) 0 ∷ get_or bs (k + 3) 0 ∷ []) ≡ number_at bs k
unfolding number_at
from_four bs k = omega arith

pub to_four : (n : ℕ) → to_le_bytes w32 n ≡ four n
unfolding four
to_four n =
    let a : n / 65536 ≡ n / 256 / 256 = omega arith in
    let b : n / 16777216 ≡ n / 256 / 256 / 256 = omega arith in
    rw (a, b)

pub signed_is : (n : ℕ) → n < words → to_z w32 n ≡ signed_of n
signed_is n h = go (dec_lt n 2147483648)
  where
    go : Dec (n < 2147483648) → to_z w32 n ≡ signed_of n
    go (yes k) = to_z_pos w32 {n = n} (omega arith) ∙ sym (signed_low n k)
    go (no k) =
        let e : n ≡ words - suc (4294967295 - n) = omega arith in
        ap (to_z w32) e ∙ (to_z-neg w32 (4294967295 - n) (omega arith) ∙ sym (signed_high n (omega arith)))

pub bits_held : (z : ℤ) → SFits w32 z → of_z w32 z ≡ bits_of z
unfolding bits_of
bits_held (pos n) f = refl
bits_held (negsuc n) f = omega arith
