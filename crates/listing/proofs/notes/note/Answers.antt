-- A granted advance and a granted expand have a line, and no other step has.
use Rattle.std.proofs.Common.{pos, ◌∙◌, sym}
use Rattle.lines.proofs.Area.{put-nothing}
use Rattle.lines.proofs.Added.{added-put}
use Rattle.listing.proofs.Writing.{refused_note, batch_note, split_note, no_note}
use Rattle.listing.proofs.notes.note.Goals as goal

pub returns-then-a-ne0 : goal.returns-then-a-ne0
returns-then-a-ne0 c =
    let t = c.args.t in
    rw (refused_note (pos c.args.team) t.kind t.node t.answer c.if-a-ne0.true) (put-nothing c.args.out.now c.args.at)

pub returns-then-t-number : goal.returns-then-t-number
returns-then-t-number c =
    let t = c.args.t in
    let e = batch_note (pos c.args.team) t.kind t.node t.answer c.if-a-ne0.false (c.if-t-number.true ∙ c.number.ensures) in
    let a = rw (c.from.ensures, c.from-node.ensures, c.from-from.ensures, c.from-then-t-number.ensures) at c.add_batch.ensures in
    rw e (added-put (rw e at c.requires) a.value a.area_after)

pub returns-then-t-number-2 : goal.returns-then-t-number-2
returns-then-t-number-2 c =
    let t = c.args.t in
    let e = split_note (pos c.args.team) t.kind t.node t.answer c.if-a-ne0.false (c.if-t-number-2.true ∙ c.number-2.ensures) in
    let a = rw (c.from-node.ensures, c.from-then-t-number-2.ensures, c.from-from.ensures) at c.add_split.ensures in
    rw e (added-put (rw e at c.requires) a.value a.area_after)

pub returns : goal.returns
returns c =
    let t = c.args.t in
    rw
    (no_note (pos c.args.team) t.kind t.node t.answer (λ e. c.if-t-number.false (e ∙ sym c.number.ensures)) (λ e. c.if-t-number-2.false (e ∙ sym c.number-2.ensures)))
    (put-nothing c.args.out.now c.args.at)
