-- What is too large or not well formed has no listing, and else the row is the answer.
use Rattle.std.proofs.Common.{rules, arith, ◌≡◌, ◌∙◌, false}
use mathlib.Core.Bool.{and-false, false-and}
use borrow.Author.Tests.{lt-leb}
use Rattle.rules.specs.WellFormed.{well_formed, Sized}
use Rattle.sheet_order.specs.Row.{most}
use Rattle.sheet_order.specs.Order.{small, most_nodes}
use Rattle.sheet_order.proofs.Demands.{answer_reads, small_answer, large_answer, small_is, root_readable}
use Rattle.forms.proofs.Laws.{length_under}
use Rattle.sheet_order.proofs.in_order.Goals as goal
use Rattle.sheet_order.proofs.in_order.Goals.{then-not-well_formed-via-then-not-well_formed, then-not-well_formed-via-else-not-well_formed+then-l-gt-NODES, then-not-well_formed-via-else-not-well_formed+else-l-gt-NODES+then-granted-gt-MOST}

pub returns-then-not-well_formed-clause-value : goal.returns-then-not-well_formed-clause-value
unfolding small
returns-then-not-well_formed-clause-value c =
    let l = c.args.l in
    let g = c.args.granted in
    elim c.then-not-well_formed.branch [
      | then-not-well_formed-via-then-not-well_formed w ↦ (let e : well_formed l ≡ false = cc in large_answer l g (rw e))
      | then-not-well_formed-via-else-not-well_formed+then-l-gt-NODES w ↦
          large_answer l g (simp (lt-leb l.used most_nodes (omega arith), false-and, and-false))
      | then-not-well_formed-via-else-not-well_formed+else-l-gt-NODES+then-granted-gt-MOST w ↦
          large_answer l g (simp (lt-leb g.count most (omega arith), and-false))
    ]

pub with_node-requires-clause-readable : goal.with_node-requires-clause-readable
with_node-requires-clause-readable c =
    let l = c.args.l in
    let sized : Sized l = search (rules, length_under) in
    root_readable l c.args.granted sized (small_is l c.args.granted (cc c.if-not-well_formed.ensures) (omega arith) (omega arith))

pub returns-clause-value : goal.returns-clause-value
returns-clause-value c =
    let l = c.args.l in
    let sized : Sized l = search (rules, length_under) in
    rw c.none.ensures at c.with_node.ensures
    ∙ small_answer l c.args.granted sized (small_is l c.args.granted (cc c.if-not-well_formed.ensures) (omega arith) (omega arith))

pub returns-clause-listing : goal.returns-clause-listing
returns-clause-listing c =
    rw (returns-clause-value c) (answer_reads c.args.l c.args.granted)
