use Rattle.std.proofs.Common.{◌≡◌, arith, inl, inr}
use Rattle.text.proofs.Stepping.{SaysNumber, at_line, at_number, at_wrong, at_none}
use Rattle.text.proofs.Passing.{row_number, row_large, row_wrong, row_line, row_none}
use Rattle.text.proofs.read_row.Goals as goal

pub returns-in-End : goal.returns-in-End
returns-in-End c =
    let l = c.loop-row in
    elim c.in-End.is [
      | inl e ↦ row_none c.args.text.now c.args.head l.row l.invariant _ (at_none c.args.text.now _ l.invariant.within _ c.token_at-token.ensures e)
      | inr e ↦ row_line c.args.text.now c.args.head l.row l.invariant _ (at_line c.args.text.now _ l.invariant.within _ c.token_at-token.ensures e)
    ]

pub returns-in-Number : goal.returns-in-Number
returns-in-Number c =
    let l = c.loop-row in
    rw c.refused.ensures
    (row_large c.args.text.now _ _ l.row l.invariant _ _ (at_number c.args.text.now _ l.invariant.within _ c.token_at-token.ensures _ c.in-Number.is) c.if-value-gt-LARGEST.true)

pub returns-in-Wrong : goal.returns-in-Wrong
returns-in-Wrong c =
    let l = c.loop-row in
    rw c.refused-in-Wrong.ensures
    (row_wrong c.args.text.now _ _ l.row l.invariant _ (at_wrong c.args.text.now _ l.invariant.within _ c.token_at-token.ensures c.in-Wrong.is))

pub loop-row-smaller : goal.loop-row-smaller
loop-row-smaller c =
    let l = c.loop-row in
    let y : SaysNumber c.args.text.now l.row.end c.in-Number-2.value c.token_at-token.result.end = at_number c.args.text.now _ l.invariant.within _ c.token_at-token.ensures _ c.in-Number-2.is in
    rw c.note.ensures (omega (arith, y.said.further, y.said.within))

pub loop-row-preserved : goal.loop-row-preserved
loop-row-preserved c =
    let l = c.loop-row in
    let same : c.in-Number-2.value ≡ c.in-Number.value = cc in
    rw (c.note.ensures, same)
    (row_number c.args.text.now _ _ l.row l.invariant _ _ (at_number c.args.text.now _ l.invariant.within _ c.token_at-token.ensures _ c.in-Number.is) c.if-value-gt-LARGEST.false)
