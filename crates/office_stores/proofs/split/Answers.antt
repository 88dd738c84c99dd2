-- The node's slot and its children's are slots of the room, and the area is as long as its room says.
use Rattle.std.proofs.Common.{rules, arith, refl, sym, ◌∙◌}
use Rattle.layout.proofs.Slots.{at-is}
use Rattle.office_forms.proofs.Held.{held}
use Rattle.office_stores.proofs.Laws.{slot_inside, split_area}
use Rattle.office_stores.proofs.split.Goals as goal

pub slot_in-x-requires : goal.slot_in-x-requires
slot_in-x-requires c = slot_inside c.args.bytes.now c.requires.0 (search rules) c.args.n c.requires.1.0 refl

pub put_field-requires : goal.put_field-requires
put_field-requires c = slot_inside c.args.bytes.now c.requires.0 (search rules) c.args.n c.requires.1.0 refl

pub put_slot-requires : goal.put_slot-requires
put_slot-requires c = omega (arith, slot_inside c.args.bytes.now c.requires.0 (search rules) c.args.pair c.requires.1.1 refl)

pub put_slot-requires-2 : goal.put_slot-requires-2
put_slot-requires-2 c = let t = held c.args.bytes.now c.requires.0 in omega (arith, t.long, c.requires.1.2.1)

pub overflow_add-pair : goal.overflow_add-pair
overflow_add-pair c = let t = held c.args.bytes.now c.requires.0 in omega (arith, t.room, c.requires.1.2.1)

pub put_number-requires : goal.put_number-requires
put_number-requires c = let t = held c.args.bytes.now c.requires.0 in omega (arith, t.long)

pub returns : goal.returns
returns c =
    let bs = c.args.bytes.now in
    let n = c.args.n in
    let r = c.requires.1 in
    let x = c.slot_in-x.ensures ∙ sym (at-is bs n r.0.0 r.0.1) in
    split_area
    bs
    c.requires.0
    (search rules)
    n
    r.0
    c.args.pair
    r.1
    r.2
    r.3
    r.4
    x
    c.left_part.ensures
    c.right_part.ensures
    c.put_field.ensures
    c.put_slot.ensures
    c.put_slot-2.ensures
    c.put_number.ensures
