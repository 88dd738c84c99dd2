use Rattle.std.proofs.Common.{arith, take_all}
use Rattle.lines.proofs.Area.{put-nothing, put_then}
use Rattle.lines.proofs.Ending.{fields_more, fields_room, fields_none}
use Rattle.lines.proofs.put_fields.Goals as goal

pub loop-n-init : goal.loop-n-init
loop-n-init c = rw fields_none (put-nothing _ _)

pub put_byte-next-requires : goal.put_byte-next-requires
put_byte-next-requires c =
    let r = fields_room c.args.numbers.now c.loop-n.n-index _ _ c.loop-n-test.true c.requires in
    omega (arith, c.loop-n.invariant.place)

pub put_number-next-requires : goal.put_number-next-requires
put_number-next-requires c =
    let r = fields_room c.args.numbers.now c.loop-n.n-index _ _ c.loop-n-test.true c.requires in
    omega (arith, c.loop-n.invariant.place, c.put_byte-next.ensures.place)

pub loop-n-preserved : goal.loop-n-preserved
loop-n-preserved c =
    let i = c.loop-n.n-index in
    let r = fields_room c.args.numbers.now i _ _ c.loop-n-test.true c.requires in
    let one = put_then c.put_byte-next.ensures c.put_number-next.ensures (omega (arith, c.loop-n.invariant.place)) in
    rw (fields_more c.args.numbers.now i c.loop-n-test.true) (put_then c.loop-n.invariant one (omega arith))

pub returns : goal.returns
returns c = rw (take_all c.loop-n.n-index c.args.numbers.now c.loop-n-test.false) at c.loop-n.invariant
