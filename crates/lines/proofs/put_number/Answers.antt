use Rattle.std.proofs.Common.{arith}
use Rattle.lines.proofs.Backwards.{behind_none, behind_more, behind_all}
use Rattle.lines.proofs.put_number.Goals as goal

pub loop-place-init : goal.loop-place-init
loop-place-init c = behind_none _ _ _ _ (omega (arith, c.width.ensures.0))

pub loop-place-preserved : goal.loop-place-preserved
loop-place-preserved c = behind_more _ _ _ _ _ _ c.requires c.loop-place.invariant c.loop-place-test.true

pub returns : goal.returns
returns c = rw c.width.ensures.0 (behind_all _ _ _ _ _ _ c.requires c.loop-place.invariant c.loop-place-test.false)
