-- Each digit moves from the run that is left into the value.
use Rattle.tokens.proofs.Running.{Running}
use Rattle.tokens.proofs.run.Given as goal

abbrev pub invariant-loop-i : goal.invariant-loop-i
invariant-loop-i l = Running l.bytes l.i l.value
