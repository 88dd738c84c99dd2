-- Laws of a number's value: one that no longer grows once it is too large is judged and read as the value itself.
use mathlib.Core.Path.{◌≡◌, refl, sym, ◌∙◌}
use mathlib.Core.Bool.{Bool, true, false, cond, ◌||◌}
use mathlib.Core.List.{List, [], ◌∷◌}
use Prim.Native.Nat.{ℕ, ◌+◌, ◌-◌, ◌*◌, ◌<◌}
use native.Mathlib.Omega.{arith}
use lib.Dec.{leb, ltb}
use lib.ListN.{length, drop}
use borrow.Author.Tests.{lt-ltb, leb-false}
use Rattle.std.proofs.lemmas.Bool.{lt-leb}
use Rattle.std.specs.List.{fold, take_while}
use Rattle.std.proofs.lemmas.List.Folds.{length-prefix_len}
use Rattle.std.proofs.lemmas.List.{drop_all}
use Rattle.text_rules.specs.declared.Kind.TheVariants as kind
use Rattle.text_rules.specs.Bytes.{is_numeral}
use Rattle.text_rules.specs.Tokens.{token_by}
use Rattle.text_rules.specs.Digits.{max_digits, max_number, refused_number, value_from, value, too_large, number_of}
use Rattle.tokens.specs.Scan.{with_digit, Run, read_as, number_token, number_at}

-- v stands for x: it is x, or both are too large
data Stands : ℕ → ℕ → Type 0 where
  same : {v : ℕ} → Stands v v
  over : {v x : ℕ} → max_number < v → max_number < x → Stands v x

digit_added : (t : Bool) (v d : ℕ) → leb v max_number ≡ t → Stands (with_digit v d) (v * 10 + (d - 48))
digit_added true v d e = rw e same
digit_added false v d e =
    let h = leb-false v max_number e in
    let is : with_digit v d ≡ v = rw e in
    over {v = with_digit v d} {x = v * 10 + (d - 48)} (rw is h) (omega (arith, h))

with_digit_stands : (v x d : ℕ) → Stands v x → Stands (with_digit v d) (x * 10 + (d - 48))
with_digit_stands v x d same = digit_added (leb v max_number) v d refl
with_digit_stands v x d (over h k) =
    let is : with_digit v d ≡ v = rw (lt-leb v max_number h) in
    over {v = with_digit v d} {x = x * 10 + (d - 48)} (rw is h) (omega (arith, k))

stands_from : (ds : List ℕ) (v x : ℕ) → Stands v x → Stands (fold with_digit v ds) (value_from x ds)
unfolding value_from
stands_from [] v x s = s
stands_from (d ∷ ds) v x s = stands_from ds (with_digit v d) (x * 10 + (d - 48)) (with_digit_stands v x d s)

read_stands : (b : Bool) (v x : ℕ) → Stands v x → cond (b || ltb max_number v) refused_number v ≡ cond (b || ltb max_number x) refused_number x
read_stands b v x same = refl
read_stands true v x (over h k) = refl
read_stands false v x (over h k) = rw (lt-ltb max_number v h, lt-ltb max_number x k)

pub read_number : (ds : List ℕ) → number_of ds ≡ read_as (length ds) (fold with_digit 0 ds)
unfolding too_large number_of
read_number ds = sym (read_stands (ltb max_digits (length ds)) (fold with_digit 0 ds) (value ds) (stands_from ds 0 0 same))

read_run : (bytes : List ℕ) (r : ℕ × ℕ) → Run bytes r → read_as r.0 r.1 ≡ number_of (take_while is_numeral bytes)
read_run bytes r d = let size : r.0 ≡ length (take_while is_numeral bytes) = d.count ∙ sym (length-prefix_len is_numeral bytes) in
    rw (size, d.value) (sym (read_number (take_while is_numeral bytes)))

pub run_token : (text : List ℕ) (from : ℕ) (r : ℕ × ℕ) → Run (drop from text) r → token_by (kind.Number (read_as r.0 r.1)) (from + r.0) ≡ number_token text from
run_token text from r d = rw (read_run (drop from text) r d, d.count)

-- a run that is read as this value up to this place is the number there
pub run_number : (text : List ℕ) (from : ℕ) (r : ℕ × ℕ) (v e : ℕ) → Run (drop from text) r → v ≡ read_as r.0 r.1 → e ≡ from + r.0
    → record { value = v; end = e } ≡ number_at text from
unfolding number_at
run_number text from r v e d f g =
    let size : r.0 ≡ length (take_while is_numeral (drop from text)) = d.count ∙ sym (length-prefix_len is_numeral (drop from text)) in
    rw (f, g, read_run (drop from text) r d, size)

empty_run : take_while is_numeral [] ≡ []
empty_run = refl

-- past the text there is none
pub no_number : (text : List ℕ) (from : ℕ) → length text < from → record { value = 0; end = from } ≡ number_at text from
unfolding number_at too_large number_of value_from
no_number text from h =
    let none : take_while is_numeral (drop from text) ≡ [] = rw (drop_all from text (omega arith)) empty_run in
    let end : from + 0 ≡ from = omega arith in
    rw (none, end)
