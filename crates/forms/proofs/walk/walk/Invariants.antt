use Rattle.std.proofs.Common.{◌≡◌, true}
use Rattle.rules.specs.WellFormed.{up_to, node_rule}
use Rattle.forms.proofs.Pairs.{Counted}
use Rattle.forms.proofs.walk.walk.Given as goal

abbrev pub invariant-loop-i : goal.invariant-loop-i
invariant-loop-i g l =
    let k = g.T.Table.ledger l.t in
    record { passed : true ≡ up_to (node_rule k) l.i; counted : Counted k.nodes l.i l.seen l.stolen }
