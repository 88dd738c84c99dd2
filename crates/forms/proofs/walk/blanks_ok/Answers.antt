-- One slot more is unused, or not.
use Rattle.std.proofs.Common.{arith, ◌≡◌, ◌+◌, ap, ◌∙◌}
use mathlib.Core.Bool.{true≢false}
use Rattle.rules.specs.WellFormed.{unused_rule, is_blank}
use Rattle.forms.specs.declared.head.Head.{Head}
use Rattle.forms.proofs.UpTo.{up_to_more}
use Rattle.forms.proofs.Whole.{blank_none, blank_here, blank_end}
use Rattle.forms.proofs.walk.blanks_ok.Goals as goal

pub loop-i-init : goal.loop-i-init
loop-i-init g c =
    let l = g.T.Table.ledger c.args.t.now in
    let u : c.head-i.result.used ≡ l.used = ap (λ (h : Head). h.used) c.head-i.ensures in
    record { passed = blank_none l u; low = omega (arith, u); small = λ e. absurd (true≢false e) }

pub loop-i-preserved : goal.loop-i-preserved
loop-i-preserved g c =
    let l = g.T.Table.ledger c.args.t.now in
    record {
      passed =
          up_to_more (unused_rule l) c.loop-i.i c.loop-i.invariant.passed
          (blank_here l c.loop-i.i c.loop-i.invariant.low (c.blank_ok-ok.ensures ∙ ap is_blank c.slot.ensures));
      low = omega (arith, c.loop-i.invariant.low);
      small = λ e. omega (arith, c.loop-i-test.true, c.slots-i-end.ensures.small);
    }

pub returns-clause-value : goal.returns-clause-value
returns-clause-value g c =
    let l = g.T.Table.ledger c.args.t.now in
    let i = c.loop-i.invariant in
    blank_end l c.slots-i-end.result c.loop-i.i c.slots-i-end.ensures.past c.loop-i-test.false c.loop-i.ok i.small i.passed
