-- "A small scanner holds the text and its place in it."
use Rattle.std.specs.Prelude.{ℕ, List}
use Rattle.std.specs.Borrow.{Bor}
use Rattle.text_rules.specs.declared.Token.{Token}
use Rattle.text_rules.specs.Tokens.{token_at}
use Rattle.scanner.specs.declared.Scanner.{Scanner}

-- the scanner of a text, at its first byte
abbrev pub at_start : Bor (List ℕ) → Scanner
at_start text = record { text = text; place = 0 }

-- the token at the scanner's place
abbrev pub found : Scanner → Token
found s = token_at s.text.now s.place

-- the scanner past that token: the same text, and the place after it
abbrev pub past : Scanner → Scanner
past s = record { text = s.text; place = (found s).end }
