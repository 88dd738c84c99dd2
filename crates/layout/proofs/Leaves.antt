-- What the code needs that reads and writes a result or a node, number by number.
use mathlib.Core.Path.{◌≡◌}
use mathlib.Core.List.{List}
use Prim.Native.Nat.{ℕ, ◌+◌}
use native.Mathlib.Omega.{arith}
use lib.IntN.{ℤ}
use lib.ListN.{drop}
use Rattle.rules.specs.declared.Finds.{Finds}
use Rattle.rules.specs.Nodes.{make_node}
use Rattle.layout.specs.Sizes.{slot_place, progress_place, owner_place, left_place, own_place, joined_place, stage_place}
use Rattle.layout.specs.Numbers.{number_at, signed_of}
use Rattle.layout.specs.Areas.{finds_at, node_of, slot_at}
use Rattle.layout.proofs.Words.{number_drop}

finds-drop : (bs : List ℕ) (k m : ℕ) → finds_at (drop k bs) m ≡ finds_at bs (k + m)
unfolding finds_at
finds-drop bs k m =
    let e1 : k + (m + 4) ≡ k + m + 4 = omega arith in
    let e2 : k + (m + 8) ≡ k + m + 8 = omega arith in
    rw (number_drop bs k m, number_drop bs k (m + 4), number_drop bs k (m + 8), e1, e2)

-- a node by the numbers that were read at the places of slot i
pub slot_made : (bs : List ℕ) (i : ℕ) {a b bits o c s : ℕ} {p : ℤ} {f g : Finds}
    → a ≡ number_at bs (slot_place i + 0)
    → b ≡ number_at bs (slot_place i + 4)
    → bits ≡ number_at bs (slot_place i + progress_place)
    → o ≡ number_at bs (slot_place i + owner_place)
    → c ≡ number_at bs (slot_place i + left_place)
    → f ≡ finds_at bs (slot_place i + own_place)
    → g ≡ finds_at bs (slot_place i + joined_place)
    → s ≡ number_at bs (slot_place i + stage_place)
    → p ≡ signed_of bits
    → make_node a b p o c f g s ≡ slot_at bs i
unfolding slot_at node_of
slot_made bs i ea eb ebits eo ec ef eg es ep =
    let k = slot_place i in
    rw (
      ep,
      ea,
      eb,
      ebits,
      eo,
      ec,
      ef,
      eg,
      es,
      number_drop bs k 0,
      number_drop bs k 4,
      number_drop bs k progress_place,
      number_drop bs k owner_place,
      number_drop bs k left_place,
      finds-drop bs k own_place,
      finds-drop bs k joined_place,
      number_drop bs k stage_place,
    )
