-- The room is within its limits, and what was written is the opened ledger.
use Rattle.std.proofs.Common.{rules, arith, refl, ap, ◌∙◌}
use Rattle.numbers.proofs.Signed.{told}
use Rattle.numbers.specs.Fields.{nat_of}
use Rattle.rules.proofs.Opens.{opens_facts}
use Rattle.nodes.proofs.Makers.{fresh_within}
use Rattle.office.proofs.Opening.{new_area}
use Rattle.office.proofs.opens.put_new.Goals as goal

pub put_slot-requires : goal.put_slot-requires
put_slot-requires c = let n = (opens_facts c.args.o c.requires.0).nodes in omega (arith, n.low, c.requires.1)

pub slice_bounds-fill-count : goal.slice_bounds-fill-count
slice_bounds-fill-count c =
    let n = (opens_facts c.args.o c.requires.0).nodes in
    let room = c.natural-room.ensures ∙ ap nat_of (told c.args.o.nodes (search rules)) in
    omega (arith, n.low, room)

pub slice_bounds-fill-start : goal.slice_bounds-fill-start
slice_bounds-fill-start c =
    let n = (opens_facts c.args.o c.requires.0).nodes in
    let room = c.natural-room.ensures ∙ ap nat_of (told c.args.o.nodes (search rules)) in
    omega (arith, n.low, room)

pub returns : goal.returns
returns c =
    let o = c.args.o in
    let f = opens_facts o c.requires.0 in
    let start = c.natural-start.ensures ∙ ap nat_of (told o.start (search rules)) in
    let until = c.natural-until.ensures ∙ ap nat_of (told o.until (search rules)) in
    let teams = c.natural-teams.ensures ∙ ap nat_of (told o.teams (search rules)) in
    let room = c.natural-room.ensures ∙ ap nat_of (told o.nodes (search rules)) in
    let root = c.fresh_node.ensures ∙ fresh_within c.natural-start.result c.natural-until.result (omega (arith, start, f.start.high, f.until.high)) in
    let whole =
    new_area c.args.bytes.now c.natural-start.result c.natural-until.result c.natural-teams.result c.natural-room.result
    (omega (arith, f.nodes.low, room)) (omega (arith, f.nodes.high, room)) (omega (arith, c.requires.1, room))
    c.put_numbers.ensures root c.put_slot.ensures (c.fill.ensures.after (λ y e. e)) in
    whole ∙ rw (start, until, teams, room) refl
