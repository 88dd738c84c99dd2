-- Each number of the line is noted.
use Rattle.std.proofs.Common.{◌-◌, length, drop}
use Rattle.text_rules.specs.Marks.{marks}
use Rattle.text.proofs.Passing.{Rowing}
use Rattle.text.proofs.read_row.Given as goal

abbrev pub invariant-loop-row : goal.invariant-loop-row
invariant-loop-row l = Rowing l.text l.head.line (marks (drop l.head.place l.text)) l.row

abbrev pub decreases-loop-row : goal.decreases-loop-row
decreases-loop-row l = length l.text - l.row.end
