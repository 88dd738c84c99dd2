-- What is read of a ledger's table beside a single node.
use Rattle.std.specs.Prelude.{ℕ, ◌+◌, List, take}
use Rattle.rules.specs.declared.Node.{Node}
use Rattle.rules.specs.declared.Ledger.{Ledger}
use Rattle.rules.specs.declared.View.{View}
use Rattle.rules.specs.Table.{at}

-- the nodes that stand at a node's left child and after it
abbrev pub children_of : Ledger → Node → Node × Node
children_of l x = (at l x.left, at l (x.left + 1))

-- what a request sees of node n, by a count of STOLEN nodes and the number of a new pair
abbrev pub view_by : Ledger → ℕ → ℕ → ℕ → View
view_by l stolen pair n =
    record {
      teams = l.teams;
      room = l.room;
      used = l.used;
      stolen = stolen;
      pair = pair;
      node = at l n;
      left = at l (at l n).left;
      right = at l ((at l n).left + 1);
    }

-- the nodes in use
abbrev pub used_nodes : Ledger → List Node
used_nodes l = take l.used l.nodes
