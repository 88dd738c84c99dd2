-- Each number has 21 bytes at most, so the sum fits; and it is that of the fields.
use Rattle.std.proofs.Common.{rules, tests, arith, ◌≡◌, ◌∙◌, length}
use Rattle.std.specs.Prelude.{sum_by}
use Rattle.std.proofs.lemmas.Iterator.Adapters.{fits_from_length, at_most_from_yields_List}
use Rattle.std.proofs.lemmas.Iterator.{YieldsList-from_slice}
use Rattle.lines.specs.Fields.{field}
use Rattle.lines.proofs.Ending.{fields_sum, fields_most}
use Rattle.lines.proofs.fields_width.Goals as goal

pub sum-requires-clause-fits : goal.sum-requires-clause-fits
sum-requires-clause-fits c =
    fits_from_length _ _ 8 _ (at_most_from_yields_List (YieldsList-from_slice c.args.numbers.now cc) c.requires) c.map.ensures.closure (omega arith) (λ x r q k. search (rules, tests))

pub returns : goal.returns
returns c =
    let h : c.sum.result ≡ sum_by (λ n. length (field n)) c.args.numbers.now = search rules in
    let e = h ∙ fields_sum c.args.numbers.now in
    let most = fields_most c.args.numbers.now (λ i. omega (arith, c.type_inv.numbers i)) in
    (e, omega (arith, e, most, c.requires))
