-- The STOLEN count that a run carries: after each change of a step it is that of the ledger after it.
use mathlib.Core.Path.{◌≡◌, refl}
use Prim.Native.Nat.{ℕ, ◌+◌}
use native.Mathlib.Omega.{arith}
use lib.IntN.{pos, negsuc}
use Rattle.rules.specs.declared.Node.{Node}
use Rattle.rules.specs.declared.Ledger.{Ledger}
use Rattle.rules.specs.declared.Change.{Change}
use Rattle.rules.specs.Nodes.{owned, moved}
use Rattle.rules.specs.Requests.{changed}
use Rattle.rules.specs.States.{stolen_of}
use Rattle.rules.specs.Table.{InUse, at, put, stolen_in}
use Rattle.rules.proofs.Changed.{Changes, keeps, owns, advances, marks, splits, reports, pushes}
use Rattle.rules.proofs.Expand.{load_next}
use Rattle.rules.proofs.Record.{WF, in_table, no_children}
use Rattle.rules.proofs.Spare.{spare}
use Rattle.rules.proofs.States.{Stolen, stolen_one, owned_same, unmarked_none}
use Rattle.rules.proofs.Store.{stolen_put}
use Rattle.steps.proofs.Turns.{Moving}
use Rattle.listing.specs.Table.{stolen_after}

module _ (l : Ledger) (w : WF l) (n : ℕ) where
  -- one node that is stored, and counts as c says
  stored : (y : Node) (c : ℕ) → InUse l n → c + stolen_of (at l n) ≡ stolen_in l + stolen_of y → c ≡ stolen_in (put l n y)
  stored y c u e = omega (arith, stolen_put l n y u.low (in_table l w n u))

  pub counts : {c : Change} → Changes l n c → Moving c → stolen_after (stolen_in l) c ≡ stolen_in (changed l n c)
  unfolding changed
  counts keeps m = refl
  counts (owns {team = team} u) m = stored (owned (at l n) team) (stolen_in l) u (omega (arith, owned_same (at l n) team))
  counts (advances {p = p} u plain inside) m =
      stored
      (moved (at l n) (pos p))
      (stolen_in l)
      u
      (omega (arith, unmarked_none (at l n) plain, unmarked_none (moved (at l n) (pos p)) refl))
  counts (marks {p = p} u plain is) m =
      let y : Node = moved (at l n) (negsuc p) in
      let leaf : Stolen y = record { mark = refl; leaf = no_children l w n u plain } in
      stored y (stolen_in l + 1) u (omega (arith, unmarked_none (at l n) plain, stolen_one y leaf))
  counts (splits u s) m = unfold changed in omega (arith, load_next l w n u s, (spare l w).next, (spare l w).past)
  counts (reports u) m = absurd m
  counts (pushes u k) m = absurd m
