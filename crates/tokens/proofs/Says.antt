-- What the byte at a place says, by the tests that the code makes of it: a mark, after which the text goes on, or nothing.
use mathlib.Core.Path.{◌≡◌, refl, sym, ap, ◌∙◌}
use mathlib.Core.Bool.{Bool, true, false, cond, not, ◌||◌, true≢false, false≢true}
use mathlib.Core.List.{List, [], ◌∷◌}
use Prim.Native.Nat.{ℕ, suc, ◌+◌, ◌-◌, ◌<◌}
use native.Mathlib.Omega.{arith}
use lib.Dec.{eqb}
use lib.ListN.{length, get_or, take, drop, length-drop}
use Rattle.std.proofs.lemmas.List.{take_all}
use borrow.Author.Tests.{eqb-true}
use Rattle.std.specs.List.{prefix_len, take_while}
use Rattle.std.proofs.lemmas.List.Sums.{take_while-cons}
use Rattle.std.proofs.lemmas.List.Folds.{length-prefix_len}
use Rattle.text_rules.specs.Bytes.{is_numeral, is_blank}
use Rattle.text_rules.specs.Marks.{line_end, number, wrong, starts_digit, longer, marks_from, marks}
use Rattle.text_rules.proofs.Marks.{at_byte, passed_over}
use Rattle.tokens.specs.Scan.{in_line, comment_end}
use Rattle.tokens.proofs.Classes.{class_numeral, class_line, class_hash, class_blank, class_other, numeral_digit}

-- ---- a number
none_in_front : (bs : List ℕ) → starts_digit bs ≡ false → prefix_len is_numeral bs ≡ 0
none_in_front [] e = refl
none_in_front (b ∷ bs) e = rw (sym (numeral_digit b) ∙ e)

digit_says : (t : Bool) (b : ℕ) (bs : List ℕ) → starts_digit bs ≡ t
    → (t ≡ true → marks bs ≡ number (take_while is_numeral bs) (length bs - prefix_len is_numeral bs) ∷ marks (drop (prefix_len is_numeral bs) bs))
    → cond t (longer b (marks bs)) (number (b ∷ []) (length bs) ∷ marks bs) ≡ number (b ∷ take_while is_numeral bs) (length bs - prefix_len is_numeral bs) ∷ marks (drop (prefix_len is_numeral bs) bs)
digit_says true b bs e h = ap (longer b) (h refl)
digit_says false b bs e h = let z : length bs - 0 ≡ length bs = omega arith in rw (none_in_front bs e, z)

pub run_says : (bs : List ℕ) → starts_digit bs ≡ true → marks bs ≡ number (take_while is_numeral bs) (length bs - prefix_len is_numeral bs) ∷ marks (drop (prefix_len is_numeral bs) bs)
unfolding marks_from
run_says [] e = absurd (false≢true e)
run_says (b ∷ bs) e =
    let n : is_numeral b ≡ true = sym (numeral_digit b) ∙ e in
    let run : take_while is_numeral (b ∷ bs) ≡ b ∷ take_while is_numeral bs = take_while-cons is_numeral b bs ∙ rw n in
    let size : prefix_len is_numeral (b ∷ bs) ≡ suc (prefix_len is_numeral bs) = rw n (omega arith) in
    let left : suc (length bs) - suc (prefix_len is_numeral bs) ≡ length bs - prefix_len is_numeral bs = omega arith in
    rw (class_numeral b n, run, size, left) (digit_says (starts_digit bs) b bs refl (run_says bs))

module _ (bytes : List ℕ) (i : ℕ) (h : i < length bytes) where
  abbrev byte : ℕ
  byte = get_or bytes i 0

  left_after : length (drop (i + 1) bytes) ≡ length bytes - (i + 1)
  left_after = length-drop (i + 1) bytes

  pub says_line : (c : Bool) → byte ≡ 10 → marks_from c (drop i bytes) ≡ line_end (length bytes - (i + 1)) ∷ marks (drop (i + 1) bytes)
  says_line c e = at_byte bytes i c h ∙ rw (class_line byte e, left_after)

  pub says-wrong : is_numeral byte ≡ false → eqb byte 35 ≡ false → eqb byte 10 ≡ false → is_blank byte ≡ false → marks (drop i bytes) ≡ wrong (length bytes - (i + 1)) ∷ marks (drop (i + 1) bytes)
  says-wrong n s l w = at_byte bytes i false h ∙ rw (class_other byte n s l w, left_after)

-- ---- blanks and comments
blank_says : (b : ℕ) (bs : List ℕ) (t : Bool) → is_blank b ≡ t → marks (drop (prefix_len is_blank bs) bs) ≡ marks bs → marks (drop (prefix_len is_blank (b ∷ bs)) (b ∷ bs)) ≡ marks (b ∷ bs)
unfolding marks_from
blank_says b bs true e h =
    let size : prefix_len is_blank (b ∷ bs) ≡ suc (prefix_len is_blank bs) = rw e (omega arith) in
    rw (size, class_blank b e) h
blank_says b bs false e h = rw e

pub blanks_say : (bs : List ℕ) → marks (drop (prefix_len is_blank bs) bs) ≡ marks bs
blanks_say [] = refl
blanks_say (b ∷ bs) = blank_says b bs (is_blank b) refl (blanks_say bs)

-- a line end says the same inside a comment and outside
line_says : (b : ℕ) (bs : List ℕ) (t : Bool) → eqb b 10 ≡ t → marks (drop (prefix_len in_line bs) bs) ≡ marks_from true bs → marks (drop (prefix_len in_line (b ∷ bs)) (b ∷ bs)) ≡ marks_from true (b ∷ bs)
unfolding marks_from
line_says b bs true e h = rw (e, class_line b (eqb-true b 10 e))
line_says b bs false e h =
    let size : prefix_len in_line (b ∷ bs) ≡ suc (prefix_len in_line bs) = rw e (omega arith) in
    rw size (h ∙ sym (passed_over b bs e))

pub comment_says : (bs : List ℕ) → marks (drop (prefix_len in_line bs) bs) ≡ marks_from true bs
unfolding marks_from
comment_says [] = refl
comment_says (b ∷ bs) = line_says b bs (eqb b 10) refl (comment_says bs)

pub hash_says : (b : ℕ) (bs : List ℕ) → b ≡ 35 → marks (b ∷ bs) ≡ marks_from true (b ∷ bs)
unfolding marks_from
hash_says b bs e = rw (class_hash b e)

line_end_is : (b : ℕ) (t : Bool) → eqb b 10 ≡ t → not t ≡ false → b ≡ 10
line_end_is b true e h = eqb-true b 10 e
line_end_is b false e h = absurd (true≢false h)

pub no_more : (b : ℕ) → in_line b ≡ false → (eqb b 35 || is_blank b) ≡ false
no_more b e = rw (line_end_is b (eqb b 10) refl e)

-- a slice from a place to the end
pub rest_is : (bytes : List ℕ) (n : ℕ) → take (length bytes - n) (drop n bytes) ≡ drop n bytes
rest_is bytes n =
    let size : length (drop n bytes) ≡ length bytes - n = length-drop n bytes in
    take_all _ _ (omega (arith, size))

-- how far a line goes from a place, by the bytes that are left there
pub ends_line : (text rest : List ℕ) (from k : ℕ) → rest ≡ drop from text → k ≡ prefix_len in_line rest → from + k ≡ comment_end text from
unfolding comment_end
ends_line text rest from k e f =
    let size : length (take_while in_line (drop from text)) ≡ prefix_len in_line (drop from text) = length-prefix_len in_line (drop from text) in
    rw (size, f, e)
