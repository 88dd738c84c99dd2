-- The proof of specs/Demands.antt: a scanner's place moves as the law of the text's tokens says.
use mathlib.Core.List.{List}
use Prim.Native.Nat.{ℕ}
use denote.Ref.{Bor}
use Rattle.text_rules.specs.declared.Token.{Token}
use Rattle.text_rules.specs.Demands as D
use Rattle.text_rules.proofs.Demands.{scanner_finds_the_marks}
use Rattle.scanner.specs.Demands.{Gives, ended, next, GivesTheMarks}

gives : (text : Bor (List ℕ)) {place : ℕ} {ts : List Token} → D.Scans text.now place ts → Gives (record { text = text; place = place }) ts
gives text (D.ended e) = ended e
gives text (D.found r) = next (gives text r)

pub gives_the_marks : GivesTheMarks
gives_the_marks text = gives text (scanner_finds_the_marks text.now)
