-- The ways out of a request.
use Rattle.std.proofs.Common.{sym, rules, arith, ap, ◌∙◌, ◌≤◌, length, pos}
use mir.Facts.{to_z-of_z}
use Rattle.numbers.specs.Fields.{nat_of}
use Rattle.numbers.proofs.Signed.{told}
use Rattle.rules.specs.declared.Request.{Request}
use Rattle.rules.specs.Asks.{request}
use Rattle.rules.specs.Requests.{decided, view, node_in}
use Rattle.layout.specs.Areas.{decoded}
use Rattle.office_forms.proofs.Held.{refused}
use Rattle.office_stores.proofs.Inside.{request_inside}
use Rattle.office.proofs.Smalls.{some_code, as_signed}
use Rattle.office.proofs.Requesting.{few, unformed, few_codes, done-code, done_area, done_told, done_untold, request_held}
use Rattle.office.proofs.yol_request.Goals as goal
use Rattle.office.proofs.yol_request.Goals.{then-tells, else-tells}

-- ---- an answer area that is too short

pub returns-then-answer-lt-ANSWER : goal.returns-then-answer-lt-ANSWER
returns-then-answer-lt-ANSWER c =
    let a = c.args in
    let r = request a.kind a.team a.node a.position a.amount a.count a.first a.last in
    let stays = few a.ledger.now a.answer.now r (omega (arith, c.if-answer-lt-ANSWER.true)) in
    record { code = as_signed c.code.ensures (omega arith) ∙ ap pos stays.code; area = stays.area; out = stays.answer }

-- ---- an area that does not pass

pub returns-in-Err : goal.returns-in-Err
returns-in-Err c =
    let a = c.args in
    let r = request a.kind a.team a.node a.position a.amount a.count a.first a.last in
    let bs = a.ledger.now in
    let k = refused bs c.in-Err.e c.in-Err.ensures.value in
    let stays = unformed bs a.answer.now r (omega (arith, c.if-answer-lt-ANSWER.false)) (λ z. some_code c.in-Err.e (k ∙ z)) in
    record {
      code = as_signed (c.code-in-Err.ensures ∙ k) (few_codes bs) ∙ ap pos stays.code;
      area = stays.area;
      out = stays.answer;
    }

-- ---- a request that is decided

pub apply-requires : goal.apply-requires
apply-requires c =
    let a = c.args in
    let r = request a.kind a.team a.node a.position a.amount a.count a.first a.last in
    let bs = a.ledger.now in
    let f = c.ranges in
    let same =
    c.new-r.ensures
    ∙ request_held a.kind a.team a.node a.position a.amount a.count a.first a.last f.kind f.team f.node f.position f.amount f.count f.first f.last in
    let e = rw c.in-Ok.ensures.area at c.in-Ok.formed.formed in
    let d = rw c.in-Ok.ensures.area at c.outcome_of-o.ensures in
    let q = d ∙ ap (λ (x : Request). decided (view (decoded bs) (node_in x)) x) same in
    let n = c.natural.ensures ∙ ap nat_of (to_z-of_z f.node) in
    (e, rw (n, q) (request_inside bs e r))

pub returns : goal.returns
returns c =
    let a = c.args in
    let r = request a.kind a.team a.node a.position a.amount a.count a.first a.last in
    let bs = a.ledger.now in
    let out = a.answer.now in
    let f = c.ranges in
    let same =
    c.new-r.ensures
    ∙ request_held a.kind a.team a.node a.position a.amount a.count a.first a.last f.kind f.team f.node f.position f.amount f.count f.first f.last in
    let e = rw c.in-Ok.ensures.area at c.in-Ok.formed.formed in
    let d = rw c.in-Ok.ensures.area at c.outcome_of-o.ensures in
    let q = d ∙ ap (λ (x : Request). decided (view (decoded bs) (node_in x)) x) same in
    let n = c.natural.ensures ∙ ap nat_of (to_z-of_z f.node) in
    let long : 24 ≤ length out = omega (arith, c.if-answer-lt-ANSWER.false) in
    record {
      code = told c.to_signed.result (search rules) ∙ (c.to_signed.ensures ∙ done-code bs out r long e c.outcome_of-o.result q);
      area = c.apply.ensures ∙ done_area bs out r long e c.outcome_of-o.result q _ n;
      out =
          elim c.if-tells.branch [
            | then-tells w ↦ w.answer-is ∙ (w.put_answer.ensures ∙ done_told bs out r long e c.outcome_of-o.result q (sym w.if-tells.ensures))
            | else-tells w ↦ w.answer-is ∙ done_untold bs out r long e c.outcome_of-o.result q (sym w.if-tells.ensures)
          ];
    }
