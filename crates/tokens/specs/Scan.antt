-- What is passed over on the way to a token, and a number's value as far as it matters.
use Rattle.std.specs.Prelude.{◌≡◌, ℕ, Option, Some, None, ◌+◌, ◌-◌, ◌*◌, ◌≤◌, ◌<◌, Bool, false, cond, not, ◌||◌, List, eqb, leb, ltb, length, get_or, drop}
use Rattle.std.specs.List.{fold, prefix_len, take_while}
use Rattle.text_rules.specs.declared.Kind.TheVariants as kind
use Rattle.text_rules.specs.declared.Token.{Token}
use Rattle.tokens.specs.declared.Number.{Number}
use Rattle.text_rules.specs.Bytes.{is_numeral, is_blank}
use Rattle.text_rules.specs.Digits.{max_digits, max_number, refused_number, number_of}
use Rattle.text_rules.specs.Marks.{marks}
use Rattle.text_rules.specs.Tokens.{token_by}

-- a byte that does not end the line
abbrev pub in_line : ℕ → Bool
in_line b = not (eqb b 10)

-- the end of a comment's bytes from a place on: its line end, or the text's end
unfoldable pub comment_end : List ℕ → ℕ → ℕ
comment_end text from = from + length (take_while in_line (drop from text))

-- the byte at a place, with the place
abbrev pub byte_at : List ℕ → ℕ → Option (ℕ × ℕ)
byte_at text at = cond (ltb at (length text)) (Some (at, get_or text at 0)) None

-- the place past the blanks
abbrev pub past_blanks : List ℕ → ℕ → ℕ
past_blanks text from = from + prefix_len is_blank (drop from text)

-- the end of the comment that begins at a place, or the place itself where none begins there
abbrev pub past_comment : List ℕ → ℕ → ℕ
past_comment text at = cond (eqb (get_or text at 0) 35) (comment_end text at) at

-- the place past both, where the next token begins
abbrev pub skipped : List ℕ → ℕ → ℕ
skipped text from = past_comment text (past_blanks text from)

-- nothing is said between the place and r, and a token begins at r
pub record Skipped (text : List ℕ) (place r : ℕ) : Type 0 where
  pub same : marks (drop r text) ≡ marks (drop place text)
  pub first : r < length text → (eqb (get_or text r 0) 35 || is_blank (get_or text r 0)) ≡ false
  pub within : r ≤ length text

-- the value with one digit more; one that is too large stays as it is
abbrev pub with_digit : ℕ → ℕ → ℕ
with_digit v b = cond (leb v max_number) (v * 10 + (b - 48)) v

-- the digits at the front: how many there are, and their value as far as it matters
pub record Run (bytes : List ℕ) (r : ℕ × ℕ) : Type 0 where
  pub count : r.0 ≡ prefix_len is_numeral bytes
  pub value : r.1 ≡ fold with_digit 0 (take_while is_numeral bytes)
  pub within : r.0 ≤ length bytes

-- what a run of so many digits and that value is read as
abbrev pub read_as : ℕ → ℕ → ℕ
read_as count v = cond (ltb max_digits count || ltb max_number v) refused_number v

-- the digits at a place
abbrev pub run_at : List ℕ → ℕ → List ℕ
run_at text from = take_while is_numeral (drop from text)

-- the number at a place
unfoldable pub number_at : List ℕ → ℕ → Number
number_at text from = record { value = number_of (run_at text from); end = from + length (run_at text from) }

-- the token that it makes
abbrev pub number_token : List ℕ → ℕ → Token
number_token text from = token_by (kind.Number (number_of (run_at text from))) (from + prefix_len is_numeral (drop from text))
