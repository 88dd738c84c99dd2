-- The chain looks at the counts from the first half on.
use Rattle.std.proofs.Common.{rules, arith, ◌≡◌, ◌≢◌, tests}
use Rattle.std.proofs.lemmas.Iterator.{YieldsList-from_slice, cases_from_all}
use Rattle.forms.proofs.Pairs.{pairs_all}
use Rattle.forms.proofs.walk.pairs_ok.Goals as goal

pub returns : goal.returns
returns c =
    let xs = c.iter.result.rest.now in
    pairs_all c.args.seen.now xs c.args.used _ (omega arith) (omega arith) c.iter.ensures.rest
    (cases_from_all _ _ _ (λ x. x ≡ 1) (λ x. x ≢ 1) c.all.ensures.ran (YieldsList-from_slice xs cc) (λ x q k. search (rules, tests)) (λ x q k. search (rules, tests)))
