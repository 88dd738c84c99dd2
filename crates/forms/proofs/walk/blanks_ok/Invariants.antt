use Rattle.std.proofs.Common.{◌≡◌, ◌≤◌, false}
use Rattle.rules.specs.Limits.{max_nodes}
use Rattle.rules.specs.WellFormed.{up_to, unused_rule}
use Rattle.forms.proofs.walk.blanks_ok.Given as goal

abbrev pub invariant-loop-i : goal.invariant-loop-i
invariant-loop-i g l =
    let k = g.T.Table.ledger l.t in
    record { passed : l.ok ≡ up_to (unused_rule k) l.i; low : k.used ≤ l.i; small : l.ok ≡ false → l.i ≤ max_nodes }
