-- The area is measured where its numbers pass, and well formed where the walk over it does.
use Rattle.std.proofs.Common.{sym, ◌∙◌}
use Rattle.office_forms.proofs.Codes.{m, judged_0, walked_some, walked_none}
use Rattle.office_forms.proofs.judge.Goals as goal

pub invariant_of-area : goal.invariant_of-area
invariant_of-area c =
    let long = sym c.too_short.ensures ∙ c.if-too_short.false in
    record { measured = m c.args.bytes.now long c.head_in-head.ensures c.if-not-is_good.ensures }

pub invariant_of-result : goal.invariant_of-result
invariant_of-result c =
    let long = sym c.too_short.ensures ∙ c.if-too_short.false in
    let t = walked_some c.args.bytes.now long c.head_in-head.ensures c.if-not-is_good.ensures c.in-Some.ensures in
    record { formed = t.0; counted = t.1 }

pub returns-clause-value : goal.returns-clause-value
returns-clause-value c =
    let long = sym c.too_short.ensures ∙ c.if-too_short.false in
    let t = walked_some c.args.bytes.now long c.head_in-head.ensures c.if-not-is_good.ensures c.in-Some.ensures in
    judged_0 c.args.bytes.now long t.0 t.1

pub returns-in_default-clause-value : goal.returns-in_default-clause-value
returns-in_default-clause-value c =
    let long = sym c.too_short.ensures ∙ c.if-too_short.false in
    walked_none c.args.bytes.now long c.head_in-head.ensures c.if-not-is_good.ensures c.in_default.ensures
