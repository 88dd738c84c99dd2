-- The count, or the code of its refusal with a minus.
use Rattle.std.proofs.Common.{arith, sym, ap, ◌∙◌}
use mir.Facts.{to_z_pos}
use mir.Syntax.{w32}
use lib.IntN.{pos}
use Rattle.office_forms.proofs.Held.{refused}
use Rattle.office_views.proofs.Laws.{rest_small}
use Rattle.office.proofs.Smalls.{some_code}
use Rattle.office.proofs.Opening.{count_given, minus_code}
use Rattle.office.proofs.yol_unclaimed.Goals as goal

pub returns-in-Ok : goal.returns-in-Ok
returns-in-Ok c =
    let bs = c.args.ledger.now in
    let e = rw c.in-Ok.ensures.area at c.in-Ok.formed.formed in
    let k = rw c.in-Ok.ensures.area at c.unclaimed_in.ensures in
    to_z_pos w32 {n = c.unclaimed_in.result} (omega (arith, k, rest_small bs e)) ∙ (ap pos k ∙ count_given bs e)

pub overflow_cast-result : goal.overflow_cast-result
overflow_cast-result c =
    let bs = c.args.ledger.now in
    let k = rw c.in-Ok.ensures.area at c.unclaimed_in.ensures in
    omega (arith, k, rest_small bs (rw c.in-Ok.ensures.area at c.in-Ok.formed.formed))

pub returns-in-Err : goal.returns-in-Err
returns-in-Err c =
    let k = refused c.args.ledger.now c.in-Err.e c.in-Err.ensures.value in
    minus_code c.args.ledger.now (c.code.ensures ∙ k) (λ z. some_code c.in-Err.e (sym c.code.ensures ∙ z))
