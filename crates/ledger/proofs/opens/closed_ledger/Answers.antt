-- Every number is 0.
use Rattle.rules.specs.Opening.{closed}
use Rattle.ledger.proofs.opens.closed_ledger.Goals as goal

pub returns : goal.returns
unfolding closed
returns c = cc
