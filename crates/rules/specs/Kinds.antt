-- The kinds of requests as cases, each with the number that a request brings for it.
use Rattle.std.specs.Prelude.{◌≡◌, ℕ, ℤ, pos, false, Result, MatchResult}
use Rattle.numbers.specs.Fields.{within}
use Rattle.rules.specs.declared.kind.Kind.{Kind}
use Rattle.rules.specs.declared.kind.Kind.TheVariants as kind
use Rattle.rules.specs.declared.kind.UnknownKind.{UnknownKind}
use Rattle.rules.specs.Asks.{OWN, ADVANCE, MARK, EXPAND, LOOK, REPORT, PUSH, last_kind}

abbrev pub number_of : Kind → ℕ
number_of kind.Own = OWN
number_of kind.Advance = ADVANCE
number_of kind.Mark = MARK
number_of kind.Expand = EXPAND
number_of kind.Look = LOOK
number_of kind.Report = REPORT
number_of kind.Push = PUSH

-- the kind with this number, or an error with a number that no kind has
abbrev pub Reads : ℤ → Result Kind UnknownKind → Type 0
Reads n r = MatchResult r (λ k. n ≡ pos (number_of k)) (λ e. (e.0 ≡ n) × (within n 1 last_kind ≡ false))
