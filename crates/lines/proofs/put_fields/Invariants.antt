-- The numbers one after the other. The loop's invariant: those so far were put.
use Rattle.std.proofs.Common.{take}
use Rattle.lines.specs.Area.{Put}
use Rattle.lines.specs.Fields.{fields}
use Rattle.lines.proofs.put_fields.Given as goal

abbrev pub invariant-loop-n : goal.invariant-loop-n
invariant-loop-n l = Put l.initial.area l.at (fields (take l.n-index l.numbers)) l.next l.area
