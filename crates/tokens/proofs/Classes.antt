-- A byte's class, told from the tests that the code makes.
use Prim.Native.Nat.{ℕ, ◌≤◌}
use mathlib.Core.Path.{◌≡◌, refl}
use mathlib.Core.Bool.{Bool, true, false, cond, ◌&&◌, ◌||◌, false≢true}
use native.Mathlib.Omega.{arith}
use lib.Dec.{eqb, leb}
use borrow.Author.Tests.{leb-true, eqb-true, ne_eqb}
use Rattle.text_rules.specs.Bytes.{LineEnd, Hash, Blank, Digit, Other, is_numeral, is_blank, class_of, is_digit}

both : (a b : Bool) → (a && b) ≡ true → (a ≡ true) × (b ≡ true)
both true b e = (refl, e)
both false b e = absurd (false≢true e)

pub numeral_within : (b : ℕ) → is_numeral b ≡ true → (48 ≤ b) × (b ≤ 57)
numeral_within b e =
    let t = both (leb 48 b) (leb b 57) e in
    (leb-true 48 b t.0, leb-true b 57 t.1)

pub class_numeral : (b : ℕ) → is_numeral b ≡ true → class_of b ≡ Digit
unfolding class_of
class_numeral b e =
    let w = numeral_within b e in
    rw (ne_eqb b 10 (λ z. omega arith), ne_eqb b 35 (λ z. omega arith), ne_eqb b 32 (λ z. omega arith), ne_eqb b 9 (λ z. omega arith), ne_eqb b 13 (λ z. omega arith), e)

pub class_line : (b : ℕ) → b ≡ 10 → class_of b ≡ LineEnd
unfolding class_of
class_line b e = rw e

pub class_hash : (b : ℕ) → b ≡ 35 → class_of b ≡ Hash
unfolding class_of
class_hash b e = rw e

blank_by : (b : ℕ) (s t r : Bool) → eqb b 32 ≡ s → eqb b 9 ≡ t → eqb b 13 ≡ r → (s || t || r) ≡ true → class_of b ≡ Blank
unfolding class_of
blank_by b true t r p q o e = rw (eqb-true b 32 p)
blank_by b false true r p q o e = rw (eqb-true b 9 q)
blank_by b false false true p q o e = rw (eqb-true b 13 o)
blank_by b false false false p q o e = absurd (false≢true e)

pub class_blank : (b : ℕ) → is_blank b ≡ true → class_of b ≡ Blank
class_blank b e = blank_by b (eqb b 32) (eqb b 9) (eqb b 13) refl refl refl e

pub class_other : (b : ℕ) → is_numeral b ≡ false → eqb b 35 ≡ false → eqb b 10 ≡ false → is_blank b ≡ false → class_of b ≡ Other
unfolding class_of
class_other b n h l w = rw (l, h, w, n)

-- a byte is a digit by its class if it is one by its number
digit-by : (lf hash blank : Bool) → is_digit (cond lf LineEnd (cond hash Hash (cond blank Blank Other))) ≡ false
digit-by true hash blank = refl
digit-by false true blank = refl
digit-by false false true = refl
digit-by false false false = refl

numeral_by : (b : ℕ) (t : Bool) → is_numeral b ≡ t → is_digit (class_of b) ≡ t
unfolding class_of
numeral_by b true e = rw (class_numeral b e)
numeral_by b false e = rw e (digit-by (eqb b 10) (eqb b 35) (is_blank b))

pub numeral_digit : (b : ℕ) → is_digit (class_of b) ≡ is_numeral b
numeral_digit b = numeral_by b (is_numeral b) refl
