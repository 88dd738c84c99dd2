-- What the byte makes at which the skipping stops is the token.
use mathlib.Core.Path.{◌≡◌, refl, ◌∙◌}
use mathlib.Core.Bool.{Bool, true, false, ◌||◌, true≢false}
use mathlib.Core.List.{List}
use Prim.Native.Nat.{ℕ, ◌+◌, ◌-◌, ◌≤◌, ◌<◌}
use native.Mathlib.Omega.{arith}
use lib.Dec.{eqb}
use lib.ListN.{length, get_or, drop, length-drop}
use lib.Seq.{drop-cons}
use Rattle.std.specs.List.{prefix_len}
use Rattle.std.proofs.lemmas.List.Sums.{prefix_len-le-length}
use Rattle.text_rules.specs.declared.Kind.TheVariants as kind
use Rattle.text_rules.specs.Bytes.{is_numeral, is_blank}
use Rattle.text_rules.specs.Marks.{starts_digit}
use Rattle.text_rules.specs.Tokens.{token_by, token_of, token_at}
use Rattle.text_rules.proofs.Marks.{at_end}
use Rattle.tokens.specs.Scan.{Skipped, number_token}
use Rattle.tokens.proofs.Classes.{numeral_digit}
use Rattle.tokens.proofs.Says.{run_says, says_line, says-wrong}

neither : (a b : Bool) → (a || b) ≡ false → (a ≡ false) × (b ≡ false)
neither true b e = absurd (true≢false e)
neither false b e = (refl, e)

-- the end of a mark, told by the bytes after it
end_of : (n next : ℕ) → next ≤ n → n - (n - next) ≡ next
end_of n next h = omega arith

module _ (text : List ℕ) (place at : ℕ) (s : Skipped text place at) where
  pub token_none : length text ≤ at → token_by kind.End (length text) ≡ token_at text place
  unfolding token_at token_of
  token_none h = rw (← s.same, at_end text at false h)

  pub token_number : at < length text → is_numeral (get_or text at 0) ≡ true → number_token text at ≡ token_at text place
  unfolding token_at token_of
  token_number h e =
      let bs = drop at text in
      let n = prefix_len is_numeral bs in
      let starts : starts_digit bs ≡ true = rw (drop-cons text at 0 h) (numeral_digit (get_or text at 0) ∙ e) in
      let size : length bs ≡ length text - at = length-drop at text in
      let most : n ≤ length bs = prefix_len-le-length is_numeral bs in
      let end : length text - (length bs - n) ≡ at + n = omega arith in
      rw (← s.same, run_says bs starts, end)

  pub token_line : at < length text → get_or text at 0 ≡ 10 → token_by kind.LineEnd (at + 1) ≡ token_at text place
  unfolding token_at token_of
  token_line h e = rw (← s.same, says_line text at h false e, end_of (length text) (at + 1) (omega arith))

  pub token_wrong : at < length text → is_numeral (get_or text at 0) ≡ false → eqb (get_or text at 0) 10 ≡ false → token_by kind.Wrong (at + 1) ≡ token_at text place
  unfolding token_at token_of
  token_wrong h n l =
      let w = neither (eqb (get_or text at 0) 35) (is_blank (get_or text at 0)) (s.first h) in
      rw (← s.same, says-wrong text at h n w.0 l w.1, end_of (length text) (at + 1) (omega arith))
