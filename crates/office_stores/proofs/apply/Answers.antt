-- In each case a slot of the room is written, and what is written is the change.
use Rattle.std.proofs.Common.{rules, ap, ◌∙◌}
use Rattle.numbers.proofs.Signed.{told}
use Rattle.numbers.specs.Progress.{mark}
use Rattle.office_stores.proofs.Laws.{slot_inside, advanced_area, marked_area, reported_area, pushed_area}
use Rattle.office_stores.proofs.apply.Goals as goal

-- ---- the slot

pub put_field-requires : goal.put_field-requires
put_field-requires c =
    slot_inside c.args.bytes.now c.requires.0 (search rules) c.args.n (rw c.in-Own.is at c.requires.1) c.saturating_sub-slot.ensures

pub put_progress-requires : goal.put_progress-requires
put_progress-requires c =
    slot_inside c.args.bytes.now c.requires.0 (search rules) c.args.n (rw c.in-Advance.is at c.requires.1).0 c.saturating_sub-slot.ensures

pub put_progress-requires-in-Mark : goal.put_progress-requires-in-Mark
put_progress-requires-in-Mark c =
    slot_inside c.args.bytes.now c.requires.0 (search rules) c.args.n (rw c.in-Mark.is at c.requires.1).0 c.saturating_sub-slot.ensures

pub put_result-requires : goal.put_result-requires
put_result-requires c =
    slot_inside c.args.bytes.now c.requires.0 (search rules) c.args.n (rw c.in-Report.is at c.requires.1) c.saturating_sub-slot.ensures

-- ---- what is written

pub returns-in-Advance : goal.returns-in-Advance
returns-in-Advance c =
    let r = rw c.in-Advance.is at c.requires.1 in
    let p = told c.to_signed.result c.to_signed.type_inv ∙ c.to_signed.ensures in
    let h = rw c.saturating_sub-slot.ensures at c.put_progress.ensures in
    rw c.in-Advance.is (h ∙ advanced_area c.args.bytes.now c.requires.0 (search rules) c.args.n r.0 c.in-Advance.p _ r.1 p)

pub returns-in-Mark : goal.returns-in-Mark
returns-in-Mark c =
    let r = rw c.in-Mark.is at c.requires.1 in
    let p = told c.to_signed-in-Mark.result c.to_signed-in-Mark.type_inv ∙ c.to_signed-in-Mark.ensures in
    let m = told c.mark_of.result c.mark_of.type_inv ∙ (c.mark_of.ensures ∙ ap mark p) in
    let h = rw c.saturating_sub-slot.ensures at c.put_progress-in-Mark.ensures in
    rw c.in-Mark.is (h ∙ marked_area c.args.bytes.now c.requires.0 (search rules) c.args.n r.0 c.in-Mark.p _ r.1 m)

pub returns-in-Report : goal.returns-in-Report
returns-in-Report c =
    let r = rw c.in-Report.is at c.requires.1 in
    let h = rw c.saturating_sub-slot.ensures at c.put_result.ensures in
    rw c.in-Report.is (h ∙ reported_area c.args.bytes.now c.requires.0 (search rules) c.args.n r c.in-Report.f)

pub returns-in-Push : goal.returns-in-Push
returns-in-Push c =
    let r = rw c.in-Push.is at c.requires.1 in
    let f = rw c.of.ensures at c.joined_in-f.ensures in
    let h = rw c.saturating_sub-slot.ensures at c.put_result-in-Push.ensures in
    rw c.in-Push.is (h ∙ pushed_area c.args.bytes.now c.requires.0 (search rules) c.args.n r.0 r.1 f)
