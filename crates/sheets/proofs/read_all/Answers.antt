-- A read puts its bytes behind those that were read; a call that was interrupted changes nothing of them.
use Rattle.std.proofs.Common.{arith, refl}
use Rattle.sheets.proofs.Bytes.{goes_on, goes_again}
use Rattle.sheets.proofs.read_all.Goals as goal
use Rattle.sheets.proofs.read_all.Goals.{in-Ok, in-Err}

pub loop-turn-preserved : goal.loop-turn-preserved
loop-turn-preserved g c =
    let l = c.loop-turn in
    elim c.match-read.branch [
      | in-Ok w ↦ goes_on l.done _ l.area c.read.new.buf l.invariant.0 refl (omega (arith, c.read.auto.buf)) _ _ _ l.invariant.1 _ w.in-Ok.n w.done-is w.in-Ok.ensures.bound.0 w.in-Ok.ensures.bytes.0
      | in-Err w ↦ goes_again l.done _ l.area c.read.new.buf l.invariant.0 refl (omega (arith, c.read.auto.buf)) _ _ _ l.invariant.1 _ w.done-is w.in-Err.ensures.bytes
    ]
