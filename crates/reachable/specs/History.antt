-- A history of a ledger: an opening, and a list of requests that ends in the ledger. It is one of many, made from the ledger alone.
use Rattle.std.specs.Prelude.{ℕ, zero, suc, ◌+◌, ◌*◌, ◌/◌, List, [], ◌++◌, pos}
use Rattle.rules.specs.declared.Node.{Node}
use Rattle.rules.specs.declared.Ledger.{Ledger}
use Rattle.rules.specs.declared.Opening.{Opening}
use Rattle.rules.specs.declared.Request.{Request}
use Rattle.rules.specs.Table.{at}
use Rattle.reachable.specs.Parents.{parent_of}
use Rattle.reachable.specs.Work.{works, steals, splits, works_leaf, steals_leaf, reports, pushes}

-- a ledger has no cap: that of the least run stands in
abbrev pub opening_for : Ledger → Opening
opening_for l =
    record {
      start = pos l.start;
      until = pos l.until;
      teams = pos l.teams;
      cap = pos 1;
      nodes = pos l.room;
    }

-- ---- the pairs, ascending, since a split takes the next two slots

-- all that is asked of node n, which is x, until it has children
unfoldable pub parts : ℕ → Node → List Request
parts n x = works n x ++ (steals n x ++ splits n)

-- the first k pairs, each by its parent
unfoldable pub pairs : Ledger → ℕ → List Request
pairs l zero = []
pairs l (suc k) = pairs l k ++ parts (parent_of l (2 * k + 2)) (at l (parent_of l (2 * k + 2)))

-- ---- what is asked of each of the nodes 1 to k

unfoldable pub ascending : (ℕ → Node → List Request) → Ledger → ℕ → List Request
ascending asks l zero = []
ascending asks l (suc k) = ascending asks l k ++ asks (suc k) (at l (suc k))

unfoldable pub descending : (ℕ → Node → List Request) → Ledger → ℕ → List Request
descending asks l zero = []
descending asks l (suc k) = asks (suc k) (at l (suc k)) ++ descending asks l k

-- ---- the whole list

-- every pair is made, from node 2 to the last number in use
abbrev pub pair_count : Ledger → ℕ
pair_count l = l.used / 2

-- once all nodes stand: those without children are worked on, then the STOLEN ones are marked
unfoldable pub nodes_made : Ledger → List Request
nodes_made l = pairs l (pair_count l) ++ (ascending works_leaf l l.used ++ ascending steals_leaf l l.used)

-- reports come before pushes; children have greater numbers than their parent and are pushed before it
unfoldable pub reports_made : Ledger → List Request
reports_made l = ascending reports l l.used ++ descending pushes l l.used

unfoldable pub history : Ledger → List Request
history l = nodes_made l ++ reports_made l
