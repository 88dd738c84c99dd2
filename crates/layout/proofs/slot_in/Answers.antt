-- The numbers that were read are the slot's node.
use mir.Facts.{to_z-of_z}
use mir.Syntax.{w32}
use Rattle.std.proofs.Common.{arith, ◌∙◌}
use Rattle.layout.proofs.Words.{signed_is}
use Rattle.layout.proofs.Leaves.{slot_made}
use Rattle.layout.proofs.slot_in.Goals as goal

pub returns : goal.returns
returns c =
    slot_made
    c.args.bytes.now
    c.args.i
    c.field_in.ensures
    c.field_in-2.ensures
    c.field_in-3.ensures
    c.field_in-4.ensures
    c.field_in-5.ensures
    c.finds_in.ensures
    c.finds_in-2.ensures
    c.field_in-6.ensures
    (to_z-of_z {w = w32} (record { sfits = c.cast_signed.type_inv }) ∙ (c.cast_signed.ensures ∙ signed_is c.field_in-3.result (omega arith)))
