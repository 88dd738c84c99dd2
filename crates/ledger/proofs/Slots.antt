-- A request stores into slots of the table alone, its node's and those of the pair that every STOLEN node has, and within the limits.
use mathlib.Core.Path.{◌≡◌}
use Prim.Native.Nat.{ℕ, ◌≤◌}
use native.Mathlib.Omega.{arith}
use Rattle.rules.specs.declared.Ledger.{Ledger}
use Rattle.rules.specs.declared.Request.{Request}
use Rattle.rules.specs.declared.Change.{Change}
use Rattle.rules.specs.declared.Outcome.{Outcome}
use Rattle.rules.specs.declared.View.{View}
use Rattle.rules.specs.Limits.{max_until}
use Rattle.rules.specs.Nodes.{position_of, middle}
use Rattle.rules.specs.Requests.{decided, view, node_in}
use Rattle.rules.specs.Table.{InUse, at}
use Rattle.rules.specs.WellFormed.{Sound}
use Rattle.rules.proofs.Changed.{Changes, keeps, owns, advances, marks, splits, reports, pushes, changes}
use Rattle.rules.proofs.FindsFit.{joined_fits}
use Rattle.rules.proofs.Range.{within_range}
use Rattle.rules.proofs.Spare.{spare, pair_fits}
use Rattle.rules.proofs.Record.{WF, rules, used_high, sound}
use Rattle.ledger.specs.Slots.{IsSlot, Stores}

module _ (l : Ledger) (w : WF l) (n : ℕ) where
  pub in_slot : InUse l n → IsSlot n
  in_slot u = (u.low, omega (arith, u.high, used_high l w))

  until_high : InUse l n → (at l n).until ≤ max_until
  until_high u = omega (arith, (within_range l w n u).high, w.limits.until_limit)

  position_high : InUse l n → position_of (at l n) ≤ max_until
  position_high u = omega (arith, (w.node n u).alone.high, until_high u)

  middle_high : InUse l n → middle (at l n) ≤ max_until
  unfolding middle
  middle_high u = omega (arith, position_high u, until_high u)

  pub in_limits : {c : Change} → Changes l n c → Stores l n c
  in_limits keeps = tt
  in_limits (owns u) = in_slot u
  in_limits (advances u plain inside) = (in_slot u, omega (arith, until_high u))
  in_limits (marks u plain is) = (in_slot u, omega (arith, position_high u))
  in_limits (splits u s) =
      let low = (spare l w).past in
      let high = pair_fits l w n u s in
      let most = w.slots in
      (in_slot u, (omega arith, omega arith), (omega arith, omega arith), middle_high u)
  in_limits (reports u) = in_slot u
  in_limits (pushes u k) =
      let fits = joined_fits l n (sound l w) u in
      (in_slot u, omega (arith, used_high l w))

-- n is the request's node, and o what is decided by its view
pub request_stores : (l : Ledger) (r : Request) {n : ℕ} {v : View} {o : Outcome}
    → Sound l
    → node_in r ≡ n
    → v ≡ view l n
    → o ≡ decided v r
    → Stores l n o.change
request_stores l r s en ev eo =
    let w = rules l s in
    rw (eo, ev, ← en) (in_limits l w (node_in r) (changes l r))
