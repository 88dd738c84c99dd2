-- The loop holds a ledger and records that are those of the run so far, and has written its lines so far.
use Rattle.std.proofs.Common.{length}
use Rattle.listing_rules.specs.Steps.{run_with}
use Rattle.listing.proofs.Looping.{Kept}
use Rattle.listing.proofs.run.run.Given as goal

abbrev pub invariant-loop-number : goal.invariant-loop-number
invariant-loop-number l =
    Kept l.schedule (length l.schedule) l.cap (run_with l.initial.book l.initial.teams) l.initial.end l.initial.out l.number-index l.stolen l.end l.book l.teams l.out
