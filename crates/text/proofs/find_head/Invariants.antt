-- Line ends are counted and passed; any other token ends the search.
use Rattle.std.proofs.Common.{◌-◌, length}
use Rattle.text.proofs.Passing.{Seeking}
use Rattle.text.proofs.find_head.Given as goal

abbrev pub invariant-loop-spot : goal.invariant-loop-spot
invariant-loop-spot l = Seeking l.text l.spot

abbrev pub decreases-loop-spot : goal.decreases-loop-spot
decreases-loop-spot l = length l.text - l.spot.place
