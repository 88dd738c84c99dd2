-- A grant more is noted, found no room, or is of another node.
use Rattle.std.proofs.Common.{rules, sym, ◌∙◌}
use Rattle.sheet_order.proofs.Row.{kept_is}
use Rattle.sheet_order.proofs.Order.{granted_none, granted_noted, granted_passed, granted_past}
use Rattle.sheet_order.proofs.with_granted.Goals as goal
use Rattle.sheet_order.proofs.with_granted.Goals.{then-p-n+in_ok-row, else-p-n}

pub loop-p-init : goal.loop-p-init
loop-p-init c = record { room = search rules; so_far = granted_none c.args.row c.args.granted.now.items c.args.n }

pub loop-p-preserved : goal.loop-p-preserved
loop-p-preserved c =
    let g = c.args.granted.now in
    let i = c.loop-p.invariant in
    elim c.if-p-n.branch [
      | then-p-n+in_ok-row w ↦
          (let h = granted_noted c.args.row g.items c.args.n g.count c.loop-p.p-index c.loop-p-test.true i.so_far w.if-p-n.true (sym w.in_ok-row.was ∙ w.with.ensures) in
          rw w.row-is (record { room = h.1; so_far = h.0 }))
      | else-p-n w ↦
          rw w.row-is (record {
            room = i.room;
            so_far = granted_passed c.args.row g.items c.args.n g.count c.loop-p.p-index c.loop-p-test.true i.so_far w.if-p-n.false;
          })
    ]

pub returns-in_err-row : goal.returns-in_err-row
returns-in_err-row c =
    let g = c.args.granted.now in
    c.from_residual.ensures
    ∙ granted_past c.args.row g.items c.args.n g.count c.loop-p.p-index c.loop-p-test.true c.loop-p.invariant.so_far c.if-p-n.true (sym c.in_err-row.was ∙ c.with.ensures)

pub returns : goal.returns
returns c = search (rules, kept_is)
