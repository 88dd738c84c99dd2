-- The digits of a run, one after the other: what is counted and added up so far, with what is left.
use mathlib.Core.Path.{◌≡◌, ◌∙◌}
use mathlib.Core.Bool.{true}
use mathlib.Core.List.{List, ◌∷◌}
use Prim.Native.Nat.{ℕ, ◌+◌, ◌-◌, ◌*◌, ◌≤◌, ◌<◌}
use native.Mathlib.Omega.{arith}
use Rattle.std.proofs.lemmas.Bool.{lt-leb, le-leb}
use native.Mathlib.Numerals.{add-one}
use lib.ListN.{length, get_or, drop}
use lib.Seq.{drop-cons}
use Rattle.std.specs.List.{fold, prefix_len, take_while}
use Rattle.std.proofs.lemmas.List.Sums.{take_while-cons, prefix_len-le-length, prefix_len-drop_all}
use Rattle.text_rules.specs.Bytes.{is_numeral}
use Rattle.text_rules.specs.Digits.{max_number}
use Rattle.tokens.specs.Scan.{with_digit, Run}
use Rattle.tokens.proofs.Classes.{numeral_within}

pub record Running (bytes : List ℕ) (i value : ℕ) : Type 0 where
  pub count : i + prefix_len is_numeral (drop i bytes) ≡ prefix_len is_numeral bytes
  pub sum : fold with_digit value (take_while is_numeral (drop i bytes)) ≡ fold with_digit 0 (take_while is_numeral bytes)
  pub most : value ≤ max_number * 10 + 9

module _ (bytes : List ℕ) (i value : ℕ) (r : Running bytes i value) where
  runs_on : i < length bytes → is_numeral (get_or bytes i 0) ≡ true → (v : ℕ) → v ≡ with_digit value (get_or bytes i 0) → v ≤ max_number * 10 + 9 → Running bytes (i + 1) v
  runs_on h e v is m =
      let b = get_or bytes i 0 in
      let rest = drop (i + 1) bytes in
      let parts : drop i bytes ≡ b ∷ rest = rw (add-one i) (drop-cons bytes i 0 h) in
      let run : take_while is_numeral (b ∷ rest) ≡ b ∷ take_while is_numeral rest = take_while-cons is_numeral b rest ∙ rw e in
      let size : prefix_len is_numeral (b ∷ rest) ≡ 1 + prefix_len is_numeral rest = rw e in
      let count = rw parts at r.count in
      record {
        count = omega (arith, size, count);
        sum = rw is (rw run at (rw parts at r.sum));
        most = m;
      }

  pub runs_small : i < length bytes → is_numeral (get_or bytes i 0) ≡ true → value ≤ max_number → Running bytes (i + 1) (value * 10 + (get_or bytes i 0 - 48))
  runs_small h e s =
      let most = (numeral_within (get_or bytes i 0) e).1 in
      runs_on h e _ (rw (le-leb value max_number s)) (omega (arith, s, most))

  pub runs_large : i < length bytes → is_numeral (get_or bytes i 0) ≡ true → max_number < value → Running bytes (i + 1) value
  runs_large h e s = runs_on h e _ (rw (lt-leb value max_number s)) r.most

  pub runs_out : prefix_len is_numeral (drop i bytes) ≡ 0 → Run bytes (i, value)
  runs_out e =
      let most : prefix_len is_numeral bytes ≤ length bytes = prefix_len-le-length is_numeral bytes in
      let count : i ≡ prefix_len is_numeral bytes = omega (arith, e, r.count) in
      record { count = count; value = rw e at r.sum; within = omega (arith, count, most) }

  pub runs_through : length bytes ≤ i → Run bytes (length bytes, value)
  runs_through h =
      let none : prefix_len is_numeral (drop i bytes) ≡ 0 = prefix_len-drop_all is_numeral bytes i h in
      let r = runs_out none in
      record { count = omega (arith, h, r.count, r.within); value = r.value; within = omega arith }
