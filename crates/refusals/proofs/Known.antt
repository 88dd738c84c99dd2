-- The number of a kind is within the kinds' limits.
use Rattle.std.proofs.Common.{◌≡◌, refl, true, ℤ, pos}
use Rattle.numbers.specs.Fields.{within}
use Rattle.rules.specs.declared.kind.Kind.{Kind}
use Rattle.rules.specs.declared.kind.Kind.TheVariants as kind
use Rattle.rules.specs.Asks.{last_kind}
use Rattle.rules.specs.Kinds.{number_of}

within_by : (k : Kind) → within (pos (number_of k)) 1 last_kind ≡ true
within_by kind.Own = refl
within_by kind.Advance = refl
within_by kind.Mark = refl
within_by kind.Expand = refl
within_by kind.Look = refl
within_by kind.Report = refl
within_by kind.Push = refl

pub within_kinds : (z : ℤ) (k : Kind) → z ≡ pos (number_of k) → within z 1 last_kind ≡ true
within_kinds z k h = rw h (within_by k)
