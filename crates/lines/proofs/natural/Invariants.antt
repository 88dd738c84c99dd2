-- The loop's invariant: none so far is negative, and those so far stand.
use Rattle.std.proofs.Common.{◌≡◌, false, length, take, map}
use Rattle.std.specs.List.{list_any}
use Rattle.numbers.specs.Fields.{nat_of}
use Rattle.numbers.specs.Progress.{negative}
use Rattle.lines.proofs.natural.Given as goal

abbrev pub invariant-loop-i : goal.invariant-loop-i
invariant-loop-i N l =
    (list_any negative (take l.i l.numbers) ≡ false)
    × (length l.natural ≡ length l.numbers)
    × (take l.i l.natural ≡ map nat_of (take l.i l.numbers))
