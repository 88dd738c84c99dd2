-- The invariant: the sum over the slots so far, of which each adds a number of 32 bits.
use Rattle.std.proofs.Common.{◌≡◌, ◌*◌, ◌≤◌, take}
use Rattle.rules.specs.Count.{rest_of}
use Rattle.rules.specs.Table.{sum_by}
use Rattle.forms.proofs.table.Table.unclaimed.Given as goal

abbrev pub invariant-loop-i : goal.invariant-loop-i
invariant-loop-i g l =
    record { is : l.sum ≡ sum_by rest_of (take l.i (g.Self.Table.ledger l.self).nodes); small : l.sum ≤ 4294967295 * l.i }
