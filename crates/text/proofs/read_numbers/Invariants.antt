-- Each number is counted, judged and kept.
use Rattle.std.proofs.Common.{◌-◌, length, drop}
use Rattle.text_rules.specs.Marks.{marks}
use Rattle.text.proofs.Passing.{Reading}
use Rattle.text.proofs.read_numbers.Given as goal

abbrev pub invariant-loop-tally : goal.invariant-loop-tally
invariant-loop-tally l = Reading l.text (marks (drop l.fn.from.place l.text)) l.fn.from l.teams l.initial.kept l.spot l.tally l.kept

abbrev pub decreases-loop-tally : goal.decreases-loop-tally
decreases-loop-tally l = length l.text - l.spot.place
