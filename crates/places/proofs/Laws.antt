-- Within the limits what the code of the places says is what the definitions say.
use mathlib.Core.Path.{◌≡◌, refl}
use Prim.Native.Nat.{ℕ, ◌≤◌, min}
use native.Mathlib.Omega.{arith}
use lib.IntN.{ℤ, pos}
use Rattle.numbers.proofs.Laws.{signed_is}
use Rattle.rules.specs.Asks.{OWN, ADVANCE, MARK, EXPAND, LOOK, last_kind, plain}
use Rattle.rules.specs.Limits.{max_cap}
use Rattle.steps.specs.declared.Place.{Place}
use Rattle.steps.specs.declared.Place.TheVariants.{Seek, Take, Work, Claim, Mark, Split, Stopped}
use Rattle.steps.specs.declared.Team.{Team}
use Rattle.steps.specs.Places.{line_from}
use Rattle.steps.specs.Records.{max_node}
use Rattle.places.specs.Clipped.{clipped_request, clipped_asks, clipped_moves, Limited, UnclippedAsks, UnclippedMoves}

-- ---- within the limits nothing is clipped

small_request : (t : ℕ) (r : Team) (kind amount : ℕ) (p : ℤ) → Limited t r → kind ≤ last_kind → amount ≤ max_cap
    → clipped_request (plain (pos kind) (pos t) (pos r.node) p (pos amount)) ≡ plain (pos kind) (pos t) (pos r.node) p (pos amount)
small_request t r kind amount p h k a =
    rw
    (signed_is kind (omega arith), signed_is t (omega (arith, h.number_high)), signed_is r.node (omega (arith, h.node_high)), signed_is amount (omega arith))

pub unclipped_asks : UnclippedAsks
unfolding clipped_asks
unclipped_asks t r h = go r.place
  where
    go : (p : Place) → clipped_request ((line_from p r).asks t r) ≡ (line_from p r).asks t r
    go Seek = small_request t r LOOK 0 (pos 0) h (omega arith) (omega arith)
    go Take = small_request t r OWN 0 (pos 0) h (omega arith) (omega arith)
    go Work = small_request t r LOOK 0 (pos 0) h (omega arith) (omega arith)
    go Claim = small_request t r ADVANCE r.size r.position h (omega arith) h.size_high
    go Mark = small_request t r MARK 0 r.position h (omega arith) (omega arith)
    go Split = small_request t r EXPAND 0 (pos 0) h (omega arith) (omega arith)
    go Stopped = refl

small : (n : ℕ) → n ≤ max_node → min n max_node ≡ n
small n h = omega arith

pub unclipped_moves : UnclippedMoves
unfolding clipped_moves
unclipped_moves t cap r a node left = rw (small r.node node, small a.left left)
