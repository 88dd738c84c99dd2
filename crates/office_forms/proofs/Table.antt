-- The table of a measured area, over plain variables.
use mathlib.Core.Path.{◌≡◌, sym, ap, ◌∙◌}
use mathlib.Core.List.{List}
use Prim.Native.Nat.{ℕ, ◌+◌, ◌-◌, ◌≤◌, ◌<◌}
use native.Mathlib.Omega.{arith}
use Rattle.rules.specs.declared.Ledger.{Ledger}
use Rattle.rules.specs.Nodes.{blank}
use Rattle.rules.specs.Table.{at}
use Rattle.forms.specs.declared.head.Head.{Head}
use Rattle.forms.specs.Head.{head_of}
use Rattle.layout.specs.Areas.{decoded, slot_at}
use Rattle.layout.proofs.Slots.{at-is, at_past}
use Rattle.office_forms.specs.Measured.{Measured}

module _ (bs : List ℕ) (d : Head) (m : Measured bs d) where
  abbrev l : Ledger
  l = decoded bs

  pub head_is : d ≡ head_of l
  head_is = rw (m.start_is, m.until_is, m.teams_is, m.room_is, m.used_is)

  pub slot_node : (slot : ℕ) → slot < d.room → slot_at bs slot ≡ at l (slot + 1)
  slot_node slot h =
      let one : slot + 1 - 1 ≡ slot = omega arith in
      ap (slot_at bs) (sym one) ∙ sym (at-is bs (slot + 1) (omega arith) (omega (arith, m.room_is)))

  pub past_room : (n : ℕ) → d.room < n → at l n ≡ blank
  past_room n h = at_past bs n (omega (arith, m.room_is))

  pub past_node : (slot : ℕ) → d.room ≤ slot → blank ≡ at l (slot + 1)
  past_node slot h = sym (past_room (slot + 1) (omega arith))
