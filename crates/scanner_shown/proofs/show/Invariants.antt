-- The scanner stays on its text, and each token ends further on.
use Rattle.std.proofs.Common.{◌≡◌, ◌-◌, length}
use Rattle.scanner_shown.proofs.show.Given as goal

abbrev pub invariant-loop-scanner : goal.invariant-loop-scanner
invariant-loop-scanner g l = l.scanner.text.now ≡ l.text

abbrev pub decreases-loop-scanner : goal.decreases-loop-scanner
decreases-loop-scanner g l = length l.text - l.scanner.place
