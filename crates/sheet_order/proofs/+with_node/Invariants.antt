-- Each call of itself is one less deep.
use Rattle.sheet_order.proofs.+with_node.Given as goal

abbrev pub decreases-with_node : goal.decreases-with_node
decreases-with_node l = l.depth
