-- A refused text has one line; the lines of a granted one are those of its run.
use Rattle.std.proofs.Common.{arith, refl, sym, length, take, length-take-le}
use Rattle.listing.proofs.Reading.{count_fits, steps_are, runnable_inside, runnable, refused_room, refused_whole, granted_whole, some_code}
use Rattle.listing.proofs.write.Goals as goal

pub slice_bounds-run-end : goal.slice_bounds-run-end
slice_bounds-run-end c =
    let e = c.in-Ok.ensures in
    runnable_inside c.args.text.now c.args.schedule.now c.read_schedule.new.area _ e.value e.area_after refl

pub slice_bounds-run-end-in-Ok : goal.slice_bounds-run-end-in-Ok
slice_bounds-run-end-in-Ok c =
    let e = c.in-Ok.ensures in
    sym (length-take-le _ _ (runnable_inside c.args.text.now c.args.schedule.now c.read_schedule.new.area _ e.value e.area_after refl))

pub run-requires : goal.run-requires
run-requires c =
    let e = c.in-Ok.ensures in
    let later = c.read_schedule.new.area in
    let few = count_fits c.args.text.now c.args.schedule.now later _ e.value e.area_after refl in
    let long = length-take-le c.in-Ok.s.count later (runnable_inside c.args.text.now c.args.schedule.now later _ e.value e.area_after refl) in
    (runnable c.args.text.now c.args.schedule.now later _ e.value e.area_after refl, rw long (omega (arith, c.requires)))

pub refusal-requires : goal.refusal-requires
refusal-requires c =
    let e = c.in-Err.ensures in
    refused_room (length c.args.schedule.now) c.args.text.now c.args.out.now _ e.value (some_code c.in-Err.e.refusal) c.requires

pub returns-in-Ok : goal.returns-in-Ok
returns-in-Ok c =
    let e = c.in-Ok.ensures in
    let later = c.read_schedule.new.area in
    let w = granted_whole (length c.args.schedule.now) c.args.text.now c.args.out.now _ e.value (take c.in-Ok.s.count later) refl (steps_are c.args.text.now c.args.schedule.now later _ e.value e.area_after refl) c.run.ensures in
    record { value = w.length-is; out_after = w.bytes; schedule_after = e.area_after }

pub returns-in-Err : goal.returns-in-Err
returns-in-Err c =
    let e = c.in-Err.ensures in
    let w = refused_whole (length c.args.schedule.now) c.args.text.now c.args.out.now _ e.value (some_code c.in-Err.e.refusal) c.refusal.ensures in
    record { value = w.length-is; out_after = w.bytes; schedule_after = e.area_after }
