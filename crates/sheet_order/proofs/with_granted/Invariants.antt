-- The invariant: the row ends in what was granted from the node, of the grants so far, and had room for it.
use Rattle.std.proofs.Common.{◌≡◌, ◌≤◌}
use Rattle.sheet_order.specs.Row.{most, with_all}
use Rattle.sheet_order.specs.Order.{granted_to, from_node}
use Rattle.sheet_order.proofs.with_granted.Given as goal

abbrev pub invariant-loop-p : goal.invariant-loop-p
invariant-loop-p l = record {
  room : l.row.count ≤ most;
  so_far : l.row ≡ with_all l.fn.row (from_node (granted_to l.granted.items l.p-index) l.n);
}
