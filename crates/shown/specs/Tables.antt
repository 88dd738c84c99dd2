-- Ledgers and nodes made of numbers, and a node by the number that a request brings.
use Rattle.std.specs.Prelude.{ℕ, ℤ, pos, negsuc, cond, List, [], ◌∷◌, Option, Some, None}
use Rattle.std.specs.List.{fold}
use Rattle.numbers.specs.Fields.{nat_of, within}
use Rattle.rules.specs.declared.Finds.{Finds}
use Rattle.rules.specs.declared.Ledger.{Ledger}
use Rattle.rules.specs.declared.Node.{Node}
use Rattle.rules.specs.declared.Request.{Request}
use Rattle.rules.specs.Asks.{own, expand}
use Rattle.rules.specs.Joining.{none}
use Rattle.rules.specs.Limits.{max_nodes}
use Rattle.rules.specs.Nodes.{make_node, stage_for}
use Rattle.rules.specs.Opening.{opening}
use Rattle.rules.specs.Requests.{requested}
use Rattle.rules.specs.Table.{at, put}

-- a ledger with an untouched root; past the limits it is all 0
abbrev pub opened : ℤ → ℤ → ℤ → ℤ → Ledger
opened a b teams room = (opening (record { start = a; until = b; teams = teams; cap = pos 1; nodes = room })).ledger

-- the ledger after these requests, in their order
abbrev pub after : Ledger → List Request → Ledger
after l rs = fold (λ m r. (requested m r).ledger) l rs

-- a node of which nothing is reported
abbrev pub node_with : ℕ → ℕ → ℤ → ℕ → ℕ → Node
node_with a b p owner left = make_node a b p owner left none none (stage_for a b)

-- the node with these results at this stage
abbrev pub with_results : Node → Finds → Finds → ℕ → Node
with_results x own joined stage = make_node x.start x.until x.progress x.owner x.left own joined stage

abbrev pub finds : ℕ → ℕ → ℕ → Finds
finds count first last = record { count = count; first = first; last = last }

-- node n, where a slot has that number
abbrev pub node_of : Ledger → ℤ → Option Node
node_of l n = cond (within n 1 max_nodes) (Some (at l (nat_of n))) None

-- a ledger of two teams that has only its root, from 0, at a progress of an owner
abbrev pub rooted : ℤ → ℤ → ℤ → ℕ → Ledger
rooted until room p owner = put (opened (pos 0) until (pos 2) room) 1 (node_with 0 (nat_of until) p owner 0)

-- 0..8 of team 1, split at 3: nobody owns its children
abbrev pub halved : ℤ → Ledger
halved room = after (rooted (pos 8) room (negsuc 3) 1) (expand 2 1 ∷ [])

-- the same, where team 1 owns node 2 and team 2 node 3
abbrev pub owned : ℤ → Ledger
owned room = after (halved room) (own 1 2 ∷ own 2 3 ∷ [])
