-- What a scanner finds at a place of the text: its first mark from there on.
use Rattle.std.specs.Prelude.{ℕ, ◌-◌, List, [], ◌∷◌, length, drop}
use Rattle.text_rules.specs.declared.Kind as K
use Rattle.text_rules.specs.declared.Kind.TheVariants as kind
use Rattle.text_rules.specs.declared.Token.{Token}
use Rattle.text_rules.specs.Marks.{Mark, line_end, number, wrong, marks}
use Rattle.text_rules.specs.Digits.{number_of}

abbrev pub token_by : K.Kind → ℕ → Token
token_by kind end = record { kind = kind; end = end }

-- the first mark as a token, in a text of n bytes: its end is the place after it
unfoldable pub token_of : ℕ → List Mark → Token
token_of n [] = token_by kind.End n
token_of n (line_end k ∷ ms) = token_by kind.LineEnd (n - k)
token_of n (number ds k ∷ ms) = token_by (kind.Number (number_of ds)) (n - k)
token_of n (wrong k ∷ ms) = token_by kind.Wrong (n - k)

unfoldable pub token_at : List ℕ → ℕ → Token
token_at text place = token_of (length text) (marks (drop place text))
