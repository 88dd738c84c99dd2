-- Each place of the loop by what is known there (listing/proofs/Looping): the run that was begun, the open line, the steps so far, the turn.
use Rattle.std.proofs.Common.{rules, arith, ◌≡◌, refl, length, get_or, take_all, true}
use Rattle.steps.specs.Records.{no_team, is_stopped}
use Rattle.listing.proofs.Looping.{starting, heading, looping, room_for_head, no_step, few, used_few, last_good, whole, seat, stays, storable, room_for_note, steps_on}
use Rattle.listing.proofs.run.run.Goals as goal

pub head-end-requires : goal.head-end-requires
head-end-requires c =
    room_for_head (starting c.requires (search rules) c.natural-cap.ensures c.open.ensures c.fresh_teams-teams.ensures)

pub loop-number-init : goal.loop-number-init
loop-number-init c =
    no_step (heading c.requires (search rules) c.natural-cap.ensures c.open.ensures c.fresh_teams-teams.ensures c.head-end.ensures)

pub bounds-teams-seat : goal.bounds-teams-seat
bounds-teams-seat c =
    let a = looping (heading c.requires (search rules) c.natural-cap.ensures c.open.ensures c.fresh_teams-teams.ensures c.head-end.ensures) c.loop-number.invariant in
    seat a c.loop-number-test.true (search rules) c.team_slot-seat.ensures

pub loop-number-preserved-then-eq : goal.loop-number-preserved-then-eq
loop-number-preserved-then-eq c =
    let a = looping (heading c.requires (search rules) c.natural-cap.ensures c.open.ensures c.fresh_teams-teams.ensures c.head-end.ensures) c.loop-number.invariant in
    let e : is_stopped (get_or c.loop-number.teams c.team_slot-seat.result no_team).place ≡ true = search rules in
    stays a c.loop-number-test.true (search rules) c.team_slot-seat.ensures e

pub overflow_add-book : goal.overflow_add-book
overflow_add-book c =
    let a = looping (heading c.requires (search rules) c.natural-cap.ensures c.open.ensures c.fresh_teams-teams.ensures c.head-end.ensures) c.loop-number.invariant in
    omega (arith, used_few a)

pub note-end-requires : goal.note-end-requires
note-end-requires c =
    let a = looping (heading c.requires (search rules) c.natural-cap.ensures c.open.ensures c.fresh_teams-teams.ensures c.head-end.ensures) c.loop-number.invariant in
    room_for_note a c.loop-number-test.true (search rules) c.team_slot-seat.ensures c.slot_for-slot.ensures refl c.node_for-node.ensures c.view_by-view.ensures c.natural-name.ensures c.turn-turn.ensures

pub bounds-teams-seat-in-loop-number : goal.bounds-teams-seat-in-loop-number
bounds-teams-seat-in-loop-number c =
    let a = looping (heading c.requires (search rules) c.natural-cap.ensures c.open.ensures c.fresh_teams-teams.ensures c.head-end.ensures) c.loop-number.invariant in
    seat a c.loop-number-test.true (search rules) c.team_slot-seat.ensures

pub change-requires : goal.change-requires
change-requires c =
    let a = looping (heading c.requires (search rules) c.natural-cap.ensures c.open.ensures c.fresh_teams-teams.ensures c.head-end.ensures) c.loop-number.invariant in
    storable a c.loop-number-test.true (search rules) c.team_slot-seat.ensures c.slot_for-slot.ensures refl c.node_for-node.ensures c.view_by-view.ensures c.natural-name.ensures c.turn-turn.ensures

pub stolen_after-stolen-requires : goal.stolen_after-stolen-requires
stolen_after-stolen-requires c =
    let a = looping (heading c.requires (search rules) c.natural-cap.ensures c.open.ensures c.fresh_teams-teams.ensures c.head-end.ensures) c.loop-number.invariant in
    few a

pub loop-number-preserved : goal.loop-number-preserved
loop-number-preserved c =
    let a = looping (heading c.requires (search rules) c.natural-cap.ensures c.open.ensures c.fresh_teams-teams.ensures c.head-end.ensures) c.loop-number.invariant in
    steps_on a c.loop-number-test.true (search rules) c.team_slot-seat.ensures c.slot_for-slot.ensures refl c.node_for-node.ensures c.view_by-view.ensures c.natural-name.ensures c.turn-turn.ensures c.note-end.ensures c.note-end.auto.out c.stolen_after-stolen.ensures c.change.ensures

pub last-requires : goal.last-requires
last-requires c =
    let a = looping (heading c.requires (search rules) c.natural-cap.ensures c.open.ensures c.fresh_teams-teams.ensures c.head-end.ensures) c.loop-number.invariant in
    let e : c.loop-number.number-index ≡ length c.args.schedule.now = omega arith in
    last_good a e

pub returns : goal.returns
returns c =
    let a = looping (heading c.requires (search rules) c.natural-cap.ensures c.open.ensures c.fresh_teams-teams.ensures c.head-end.ensures) c.loop-number.invariant in
    let e : c.loop-number.number-index ≡ length c.args.schedule.now = omega arith in
    let all = take_all (length c.args.schedule.now) c.args.schedule.now (omega arith) in
    rw all at (whole a e c.last.ensures)
