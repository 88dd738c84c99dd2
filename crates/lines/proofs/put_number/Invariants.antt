-- The digits are counted, and each is written where it belongs, the last one first. The loop's invariant: those `Behind` the place stand.
use Rattle.lines.proofs.Backwards.{Behind}
use Rattle.lines.proofs.put_number.Given as goal

abbrev pub invariant-loop-place : goal.invariant-loop-place
invariant-loop-place l = Behind l.initial.area l.at l.n l.place l.high l.area
