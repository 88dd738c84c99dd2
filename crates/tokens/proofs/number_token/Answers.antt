-- What the run is read as is its number.
use Rattle.tokens.proofs.Says.{rest_is}
use Rattle.tokens.proofs.Values.{run_token}
use Rattle.tokens.proofs.number_token.Goals as goal

pub returns : goal.returns
returns c = rw c.read_as.ensures (run_token c.args.text.now c.args.from c.run-count.result (rw (rest_is c.args.text.now c.args.from) at c.run-count.ensures))
