-- Each node counts for one at most, so the sum fits; and it is the rules' sum.
use Rattle.std.proofs.Common.{rules, tests, arith, ◌≡◌, ◌∙◌}
use Rattle.std.specs.Prelude.{sum_by}
use Rattle.std.proofs.lemmas.Iterator.{YieldsList-from_slice}
use Rattle.std.proofs.lemmas.Iterator.Adapters.{fits_from_length, at_most_from_yields_List}
use Rattle.rules.specs.States.{stolen_of}
use Rattle.rules.proofs.States.{at_most_one}
use Rattle.forms.proofs.Sums.{sum_same}
use Rattle.forms.proofs.stolen_in.Goals as goal

pub sum-requires-clause-fits : goal.sum-requires-clause-fits
sum-requires-clause-fits c =
    fits_from_length _ _ 1023 _ (at_most_from_yields_List (YieldsList-from_slice c.args.nodes.now cc) (omega arith)) c.map.ensures.closure (omega arith) (λ x r q k. search (rules, tests, at_most_one))

pub returns : goal.returns
returns c =
    let h : c.sum.result ≡ sum_by stolen_of c.args.nodes.now = search rules in
    h ∙ sum_same stolen_of c.args.nodes.now
