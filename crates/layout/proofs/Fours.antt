-- The bytes of any count of numbers: read back, written back, and written one number after the other.
use mathlib.Core.Path.{◌≡◌, refl, sym, ap, ◌∙◌}
use mathlib.Core.List.{List, [], ◌∷◌, ◌++◌, append_assoc}
use Prim.Native.Nat.{ℕ, zero, suc, ◌+◌, ◌*◌, ◌≤◌, ◌<◌}
use native.Mathlib.Omega.{arith}
use lib.ListN.{length, get_or, take, drop, length-append, take-append-drop}
use lib.Seq.{take-add, drop-drop, length-take-le}
use Rattle.std.proofs.lemmas.List.{take_more}
use Rattle.layout.specs.Numbers.{Bytes, words, number_at, four, fours, written}
use Rattle.layout.proofs.Words.{number_four, number_drop, four_length, four_at, four_byte}
use Rattle.layout.proofs.Writing.{written_on}

pub fours-length : (ns : List ℕ) → length (fours ns) ≡ 4 * length ns
unfolding fours
fours-length [] = refl
fours-length (n ∷ ns) = length-append (four n) (fours ns) ∙ omega (arith, four_length n, fours-length ns)

pub fours_append : (ms ns : List ℕ) → fours (ms ++ ns) ≡ fours ms ++ fours ns
unfolding fours
fours_append [] ns = refl
fours_append (m ∷ ms) ns = rw (fours_append ms ns) (sym (append_assoc (four m) (fours ms) (fours ns)))

pub fours_bytes : (ns t : List ℕ) → Bytes t → Bytes (fours ns ++ t)
unfolding fours
fours_bytes [] t b = b
fours_bytes (n ∷ ns) t b = λ i. rw (append_assoc (four n) (fours ns) t) (four_byte n i (fours ns ++ t) (fours_bytes ns t b))

past_four : (n : ℕ) (r : List ℕ) → drop 4 (four n ++ r) ≡ r
unfolding four
past_four n r = refl

-- number i of them
pub fours-read : (ns t : List ℕ) (i : ℕ) → i < length ns → get_or ns i 0 < words → number_at (fours ns ++ t) (4 * i) ≡ get_or ns i 0
unfolding fours
fours-read [] t i h s = absurd (omega arith)
fours-read (n ∷ ns) t zero h s = rw (append_assoc (four n) (fours ns) t) (number_four n (fours ns ++ t) s)
fours-read (n ∷ ns) t (suc i) h s =
    let e : 4 * suc i ≡ 4 + 4 * i = omega arith in
    rw
    (append_assoc (four n) (fours ns) t, e, ← number_drop (four n ++ (fours ns ++ t)) 4 (4 * i), past_four n (fours ns ++ t))
    (fours-read ns t i (omega arith) s)

-- the numbers in the bytes from a place on
abbrev pub numbers_from : ℕ → ℕ → List ℕ → List ℕ
numbers_from zero at t = []
numbers_from (suc k) at t = number_at t at ∷ numbers_from k (at + 4) t

-- what was read is written back
pub fours_back : (k at : ℕ) (t : List ℕ) → Bytes t → at + 4 * k ≤ length t → fours (numbers_from k at t) ≡ take (4 * k) (drop at t)
unfolding fours
fours_back zero at t b h = refl
fours_back (suc k) at t b h =
    let e : 4 * suc k ≡ 4 + 4 * k = omega arith in
    rw
    (e, four_at t at b (omega arith), fours_back k (at + 4) t b (omega arith), take-add 4 (4 * k) (drop at t), drop-drop 4 at t)

-- ---- written one after the other

pub fours_none : (bs : List ℕ) (k : ℕ) → bs ≡ written bs k (fours [])
unfolding fours written
fours_none bs k = let same : k + 0 ≡ k = omega arith in sym (rw same (take-append-drop k bs))

-- one number more of those in a list
pub fours_more : (bs : List ℕ) (k i : ℕ) (ns : List ℕ) {n : ℕ} {s t : List ℕ} → i < length ns → n ≡ get_or ns i 0 → k + 4 * length ns ≤ length bs
    → s ≡ written bs k (fours (take i ns))
    → t ≡ written s (k + 4 * i) (four n)
    → t ≡ written bs k (fours (take (i + 1) ns))
unfolding fours
fours_more bs k i ns {n} h en long es et =
    let ms = take i ns in
    let size : length ms ≡ i = length-take-le i ns (omega arith) in
    let one : take (i + 1) ns ≡ ms ++ (n ∷ []) = rw en (take_more ns i 0 h) in
    let new : fours (n ∷ []) ≡ four n = unfold four in refl in
    et
    ∙ (ap (λ (d : List ℕ). written d (k + 4 * i) (four n)) es
    ∙ (written_on bs k (k + 4 * i) (fours ms) (four n) (omega (arith, fours-length ms)) (omega (arith, four_length n))
    ∙ rw (one, fours_append ms (n ∷ []), new) refl))
