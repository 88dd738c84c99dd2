-- Which code a late claim gets. A claim is late if the progress of its node is no longer the position that it names: the node was marked
-- meanwhile, or completed, or claimed further. `proofs/LateClaim.antt` proves it.
use Rattle.std.specs.Prelude.{◌≡◌, ◌≢◌, true, cond, ℕ, pos}
use Rattle.numbers.specs.Fields.{within}
use Rattle.rules.specs.declared.Ledger.{Ledger}
use Rattle.rules.specs.declared.Node.{Node}
use Rattle.rules.specs.declared.Request.{Request}
use Rattle.rules.specs.Asks.{ADVANCE}
use Rattle.rules.specs.Limits.{max_amount}
use Rattle.rules.specs.Nodes.{marked}
use Rattle.rules.specs.Requests.{refused, node_in, requested}
use Rattle.rules.specs.States.{completed}
use Rattle.rules.specs.Table.{at}
use Rattle.rules.specs.WellFormed.{well_formed}

-- a claim by the owner of its node, of an amount within the limits, at another position than the node's progress
pub record Late (l : Ledger) (r : Request) : Type 0 where
  pub kind : r.kind ≡ pos ADVANCE
  pub team : within r.team 1 l.teams ≡ true
  pub node : within r.node 1 l.used ≡ true
  pub amount : within r.amount 1 max_amount ≡ true
  pub mine : r.team ≡ pos (at l (node_in r)).owner
  pub passed : r.position ≢ (at l (node_in r)).progress

-- 9 of a node that is marked, 6 of one that is completed, and else 10
abbrev pub late_code : Node → ℕ
late_code x = cond (marked x) 9 (cond (completed x) 6 10)

abbrev pub LateClaim : Type 0
LateClaim =
    (l : Ledger) (r : Request) → well_formed l ≡ true → Late l r
    → requested l r ≡ record { ledger = l; answer = refused (late_code (at l (node_in r))) }
