use Rattle.std.proofs.Common.{◌≡◌, length, take}
use Rattle.layout.specs.Numbers.{fours, written}
use Rattle.layout.proofs.put_numbers.Given as goal

abbrev pub invariant-loop-i : goal.invariant-loop-i
invariant-loop-i l =
    record { is : l.bytes ≡ written l.initial.bytes l.at (fours (take l.i l.ns)); size : length l.bytes ≡ length l.initial.bytes }
