-- The parent of a pair of nodes, found by a search of the table.
use Rattle.std.specs.Prelude.{ℕ, suc, ◌+◌, cond, List, [], ◌∷◌, eqb}
use Rattle.rules.specs.declared.Node.{Node}
use Rattle.rules.specs.declared.Ledger.{Ledger}

-- the first slot of a node whose left child is c
unfoldable pub slot_above : ℕ → List Node → ℕ
slot_above c [] = 0
slot_above c (x ∷ xs) = cond (eqb x.left c) 0 (suc (slot_above c xs))

-- the number of that node
abbrev pub parent_of : Ledger → ℕ → ℕ
parent_of l c = slot_above c l.nodes + 1
