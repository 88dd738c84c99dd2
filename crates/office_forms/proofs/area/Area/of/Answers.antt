-- A well-formed ledger's area is measured.
use Rattle.std.proofs.Common.{arith}
use Rattle.office_forms.proofs.Held.{held, formed_area}
use Rattle.office_forms.proofs.area.Area.of.Goals as goal

pub head_in-requires : goal.head_in-requires
head_in-requires c = let t = held c.args.bytes.now c.requires in omega (arith, t.long)

pub invariant_of-result : goal.invariant_of-result
invariant_of-result c = record { measured = formed_area c.args.bytes.now c.requires c.head_in.ensures }
