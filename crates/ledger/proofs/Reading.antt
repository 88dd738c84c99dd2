-- What code reads of a table that stands somewhere is what the rules read of its ledger.
use mathlib.Core.Path.{◌≡◌, refl, sym}
use Prim.Native.Nat.{ℕ, ◌-◌, ◌≤◌}
use native.Mathlib.Omega.{arith}
use native.Mathlib.Decide.{dec_le}
use lib.ListN.{get_or}
use borrow.Author.Tests.{le-leb, lt-leb}
use Rattle.rules.specs.declared.Node.{Node}
use Rattle.rules.specs.declared.Ledger.{Ledger}
use Rattle.rules.specs.Limits.{max_nodes}
use Rattle.rules.specs.Nodes.{blank}
use Rattle.rules.specs.Requests.{view, alone}
use Rattle.rules.specs.Table.{at, next_pair, stolen_in}
use Rattle.rules.specs.WellFormed.{Sized}
use Rattle.rules.proofs.Nodes.{at_out}
use Rattle.ledger.specs.Table.{slot_for, node_for, view_by}

pub node_is : (l : Ledger) (n : ℕ) → Sized l → node_for n (get_or l.nodes (slot_for n) blank) ≡ at l n
node_is l n slots = go (dec_le n max_nodes)
  where
    go : Dec (n ≤ max_nodes) → node_for n (get_or l.nodes (slot_for n) blank) ≡ at l n
    go (yes h) = let e : slot_for n ≡ n - 1 = omega arith in rw (le-leb n max_nodes h, e) (unfold at in refl)
    go (no h) = rw (lt-leb n max_nodes (omega arith)) (sym (at_out l n (omega arith)))

pub view-is : (l : Ledger) (n stolen pair : ℕ) (x : Node) → stolen ≡ stolen_in l → pair ≡ next_pair l → x ≡ at l n
    → view_by l.teams l.room l.used stolen pair x ≡ alone (view l n)
unfolding view
view-is l n stolen pair x es ep ex = rw (es, ep, ex)
