-- The proofs of what specs/Demands.antt states.
use mathlib.Core.Path.{◌≡◌, refl}
use mathlib.Core.Bool.{Bool, true, false, ◌&&◌, false≢true}
use mathlib.Core.List.{List, [], ◌∷◌, ◌++◌}
use Prim.Native.Nat.{ℕ, ◌+◌, ◌*◌, ◌-◌, ◌/◌, ◌%◌, ◌<◌}
use native.Mathlib.Nat.{div-add-mod'}
use native.Mathlib.Omega.{arith}
use borrow.Author.Tests.{le-leb}
use lib.ListN.{get_or, length-append, get_or-append}
use Rattle.numbers.specs.Fields.{nat_of}
use Rattle.line_rules.specs.Decimal.{digit, spell, digits, decimal, read_after, read_decimal}
use Rattle.line_rules.specs.Line.{open_line, open_with_line, batch_line, split_line, left_line, refused_line, Part, word, number, bytes_of, spaced, whole, space, line_end}
use Rattle.line_rules.specs.Plain.{is_digit, is_plain, all}
use Rattle.line_rules.specs.Demands.{NoLeadingZero, DigitsAlone, ReadsBack, PlainLines, OpenLines, NoLineLonger, OneLineAsLong}
use Rattle.line_rules.proofs.Decimal.{decimal_last, decimal_more, by_digits, decimal-some, decimal_width}

-- ---- decimals
pub no_leading_zero : NoLeadingZero
no_leading_zero =
    by_digits
    (λ n. get_or (decimal n) 0 (digit 0) ≡ digit 0 → n ≡ 0)
    (λ n h e. let f : 48 + n ≡ 48 = rw (decimal_last n h) at e in omega arith)
    (λ n h high e. let z = high (rw (decimal_more n h, get_or-append (decimal (n / 10)) (digit (n % 10) ∷ []) 48 0 (decimal-some (n / 10))) at e) in omega arith)

read_more : (ds : List ℕ) (high d : ℕ) → read_after high (ds ++ (d ∷ [])) ≡ read_after high ds * 10 + (d - 48)
unfolding read_after
read_more [] high d = refl
read_more (e ∷ ds) high d = read_more ds (high * 10 + (e - 48)) d

pub reads_back : ReadsBack
unfolding read_decimal read_after
reads_back =
    by_digits
    (λ n. read_decimal (decimal n) ≡ n)
    (λ n h. rw (decimal_last n h) (omega arith))
    (λ n h e. rw (decimal_more n h, read_more (decimal (n / 10)) 0 (digit (n % 10)), e) (omega (arith, div-add-mod' n 10)))

-- ---- bytes that pass a test
both : {a b : Bool} → a ≡ true → b ≡ true → (a && b) ≡ true
both e f = rw (e, f)

first_of : (a b : Bool) → (a && b) ≡ true → a ≡ true
first_of true b e = refl
first_of false b e = e

second_of : (a b : Bool) → (a && b) ≡ true → b ≡ true
second_of true b e = e
second_of false b e = absurd (false≢true e)

module _ (test : ℕ → Bool) where
  pub all_append : (a b : List ℕ) → all test a ≡ true → all test b ≡ true → all test (a ++ b) ≡ true
  all_append [] b e f = f
  all_append (x ∷ a) b e f =
      both (first_of (test x) (all test a) e) (all_append a b (second_of (test x) (all test a) e) f)

  all_decimal : ((d : ℕ) → d < 10 → test (digit d) ≡ true) → (n : ℕ) → all test (decimal n) ≡ true
  all_decimal pass =
      by_digits
      (λ n. all test (decimal n) ≡ true)
      (λ n h. rw (decimal_last n h) (both (pass n h) refl))
      (λ n h e. rw (decimal_more n h) (all_append (decimal (n / 10)) _ e (both (pass (n % 10) (omega arith)) refl)))

digit-is : (d : ℕ) → d < 10 → is_digit (digit d) ≡ true
digit-is d h = both (le-leb 48 (digit d) (omega arith)) (le-leb (digit d) 57 (omega arith))

pub digits_alone : DigitsAlone
digits_alone = all_decimal is_digit digit-is

digit-plain : (d : ℕ) → d < 10 → is_plain (digit d) ≡ true
digit-plain d h = rw (digit-is d h)

-- ---- lines have plain bytes, where their words have
abbrev plain_part : Part → Bool
plain_part (word w) = all is_plain w
plain_part (number z) = true

abbrev plain_parts : List Part → Bool
plain_parts [] = true
plain_parts (p ∷ ps) = plain_part p && plain_parts ps

part_plain : (p : Part) → plain_part p ≡ true → all is_plain (bytes_of p) ≡ true
part_plain (word w) e = e
part_plain (number z) e = all_decimal is_plain digit-plain (nat_of z)

spaced-plain : (ps : List Part) → plain_parts ps ≡ true → all is_plain (spaced ps) ≡ true
unfolding spaced
spaced-plain [] e = refl
spaced-plain (p ∷ ps) e =
    all_append
    is_plain
    (space ∷ bytes_of p)
    (spaced ps)
    (part_plain p (first_of (plain_part p) (plain_parts ps) e))
    (spaced-plain ps (second_of (plain_part p) (plain_parts ps) e))

whole_plain : (w : List ℕ) (ps : List Part) → all is_plain w ≡ true → plain_parts ps ≡ true → all is_plain (whole w ps) ≡ true
unfolding whole
whole_plain w ps e f = all_append is_plain (w ++ spaced ps) (line_end ∷ []) (all_append is_plain w (spaced ps) e (spaced-plain ps f)) refl

pub plain_lines : PlainLines
plain_lines (open_line start until teams cap nodes) = whole_plain _ _ refl refl
plain_lines (open_with_line start until teams cap nodes program) = whole_plain _ _ refl refl
plain_lines (batch_line team node from to) = whole_plain _ _ refl refl
plain_lines (split_line node left middle) = whole_plain _ _ refl refl
plain_lines (left_line count stopped) = whole_plain _ _ refl refl
plain_lines (refused_line code line) = whole_plain _ _ refl refl

-- ---- the open line, and with its program
pub open_lines : OpenLines
unfolding whole spaced decimal digits spell
open_lines = (refl, refl)

-- ---- how long lines are
pub one_line_as_long : OneLineAsLong
unfolding whole spaced decimal digits spell
one_line_as_long = ((omega arith, (omega arith, (omega arith, (omega arith, (omega arith, (omega arith, tt)))))), refl)

pub no_line_longer : NoLineLonger
unfolding whole spaced
no_line_longer (open_line start until teams cap nodes) h =
    let a = decimal_width 9 (nat_of start) (omega arith) in
    let b = decimal_width 9 (nat_of until) (omega arith) in
    let c = decimal_width 1 (nat_of teams) (omega arith) in
    let d = decimal_width 3 (nat_of cap) (omega arith) in
    let e = decimal_width 3 (nat_of nodes) (omega arith) in
    simp length-append (omega arith)
no_line_longer (open_with_line start until teams cap nodes program) h =
    let a = decimal_width 9 (nat_of start) (omega arith) in
    let b = decimal_width 9 (nat_of until) (omega arith) in
    let c = decimal_width 1 (nat_of teams) (omega arith) in
    let d = decimal_width 3 (nat_of cap) (omega arith) in
    let e = decimal_width 3 (nat_of nodes) (omega arith) in
    let f = decimal_width 0 (nat_of program) (omega arith) in
    simp length-append (omega arith)
no_line_longer (batch_line team node from to) h =
    let a = decimal_width 1 (nat_of team) (omega arith) in
    let b = decimal_width 3 (nat_of node) (omega arith) in
    let c = decimal_width 9 (nat_of from) (omega arith) in
    let d = decimal_width 9 (nat_of to) (omega arith) in
    simp length-append (omega arith)
no_line_longer (split_line node left middle) h =
    let a = decimal_width 3 (nat_of node) (omega arith) in
    let b = decimal_width 3 (nat_of left) (omega arith) in
    let c = decimal_width 9 (nat_of middle) (omega arith) in
    simp length-append (omega arith)
no_line_longer (left_line count stopped) h =
    let a = decimal_width 9 (nat_of count) (omega arith) in
    let b = decimal_width 1 (nat_of stopped) (omega arith) in
    simp length-append (omega arith)
no_line_longer (refused_line code line) h =
    let a = decimal_width 1 (nat_of code) (omega arith) in
    let b = decimal_width 9 (nat_of line) (omega arith) in
    simp length-append (omega arith)
