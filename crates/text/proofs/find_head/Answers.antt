use Rattle.std.proofs.Common.{arith}
use Rattle.text.proofs.Stepping.{SaysLine, at_line, at_number, at_wrong, at_none}
use Rattle.text.proofs.Passing.{seek_line, seek_number, seek_wrong, seek_none}
use Rattle.text.proofs.find_head.Goals as goal

pub returns-in-End : goal.returns-in-End
returns-in-End c =
    let s = c.loop-spot in
    rw c.refused.ensures
    (seek_none c.args.text.now c.requires s.spot s.invariant _ (at_none c.args.text.now _ s.invariant.within _ c.token_at-token.ensures c.in-End.is))

pub returns-in-Number : goal.returns-in-Number
returns-in-Number c =
    let s = c.loop-spot in
    seek_number c.args.text.now c.requires s.spot s.invariant _ _ (at_number c.args.text.now _ s.invariant.within _ c.token_at-token.ensures _ c.in-Number.is)

pub returns-in-Wrong : goal.returns-in-Wrong
returns-in-Wrong c =
    let s = c.loop-spot in
    rw c.refused-in-Wrong.ensures
    (seek_wrong c.args.text.now c.requires s.spot s.invariant _ (at_wrong c.args.text.now _ s.invariant.within _ c.token_at-token.ensures c.in-Wrong.is))

pub loop-spot-smaller : goal.loop-spot-smaller
loop-spot-smaller c =
    let s = c.loop-spot in
    let y : SaysLine c.args.text.now s.spot.place c.token_at-token.result.end = at_line c.args.text.now _ s.invariant.within _ c.token_at-token.ensures c.in-LineEnd.is in
    omega (arith, y.said.further, y.said.within)

pub loop-spot-preserved : goal.loop-spot-preserved
loop-spot-preserved c =
    let s = c.loop-spot in
    seek_line c.args.text.now c.requires s.spot s.invariant _ (at_line c.args.text.now _ s.invariant.within _ c.token_at-token.ensures c.in-LineEnd.is)
