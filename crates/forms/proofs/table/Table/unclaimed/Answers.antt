-- The sum before the first slot, one slot more, and all of those in use.
use Rattle.std.proofs.Common.{arith, ◌≡◌, ℕ, take, sym, ap, ◌∙◌}
use Rattle.rules.specs.Count.{rest_of}
use Rattle.rules.specs.Table.{sum_by}
use Rattle.rules.proofs.Sums.{sum_by_none}
use Rattle.forms.proofs.Reading.{sum_more, blank_rest}
use Rattle.forms.proofs.table.Table.unclaimed.Goals as goal

pub loop-i-init : goal.loop-i-init
loop-i-init g c = record { is = sym (sum_by_none rest_of (g.Self.Table.ledger c.args.self.now).nodes); small = omega arith }

pub overflow_add-sum : goal.overflow_add-sum
overflow_add-sum g c = omega (arith, c.loop-i.invariant.small, c.from-sum.ensures, c.rest_of.type_inv, c.loop-i-test.true, c.head-i-end.type_inv)

pub loop-i-preserved : goal.loop-i-preserved
loop-i-preserved g c =
    let l = g.Self.Table.ledger c.args.self.now in
    let loop = c.loop-i in
    let one : c.from-sum.result ≡ rest_of c.slot.result = c.from-sum.ensures ∙ c.rest_of.ensures in
    record {
      is = rw (loop.invariant.is, one, c.slot.ensures) (sum_more rest_of blank_rest l loop.i);
      small = omega (arith, loop.invariant.small, c.from-sum.ensures, c.rest_of.type_inv);
    }

pub returns : goal.returns
returns g c =
    let l = g.Self.Table.ledger c.args.self.now in
    let u : c.head-i-end.result.used ≡ l.used = cc in
    let e : c.loop-i.i ≡ l.used = omega (arith, u) in
    c.loop-i.invariant.is ∙ ap (λ (k : ℕ). sum_by rest_of (take k l.nodes)) e
