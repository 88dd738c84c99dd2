-- What is claimed of the scanner, for every text; the proof stands in proofs/Demands.antt.
use Rattle.std.specs.Prelude.{◌≡◌, List, [], ◌∷◌, ℕ, length}
use Rattle.std.specs.Borrow.{Bor}
use Rattle.text_rules.specs.declared.Kind.TheVariants as kind
use Rattle.text_rules.specs.declared.Token.{Token}
use Rattle.text_rules.specs.Marks.{marks}
use Rattle.text_rules.specs.Demands.{tokens_of}
use Rattle.scanner.specs.declared.Scanner.{Scanner}
use Rattle.scanner.specs.Scanning.{at_start, found, past}

-- The tokens that a scanner gives, one after the other, up to the text's end.
pub data Gives : Scanner → List Token → Type 0 where
  ended : {s : Scanner} → (found s).kind ≡ kind.End → Gives s []
  next : {s : Scanner} {ts : List Token} → Gives (past s) ts → Gives s (found s ∷ ts)

-- From the start they are the marks by which the readers judge the text.
abbrev pub GivesTheMarks : Type 0
GivesTheMarks = (text : Bor (List ℕ)) → Gives (at_start text) (tokens_of (length text.now) (marks text.now))
