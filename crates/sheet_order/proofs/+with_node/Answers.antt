-- A node's own pieces, and then its unclaimed sheets, or its children's pieces from left to right.
use Rattle.std.proofs.Common.{arith, ◌≡◌, refl, sym, ap, ◌∙◌, true, false}
use Rattle.rules.specs.Nodes.{childless}
use Rattle.rules.specs.Table.{at}
use Rattle.sheet_order.specs.Row.{kept}
use Rattle.sheet_order.specs.Order.{granted_to}
use Rattle.sheet_order.proofs.Row.{kept_is, kept_row}
use Rattle.sheet_order.proofs.Order.{node_none, node_ends, node_parts, own_full, left_full, children, slot_small}
use Rattle.sheet_order.proofs.+with_node.Goals as goal

pub returns-then-depth-eq0 : goal.returns-then-depth-eq0
returns-then-depth-eq0 t c =
    let a = c.args in
    kept_row (node_none a.row a.depth a.l.now (granted_to a.granted.now.items a.granted.now.count) a.n c.if-depth-eq0.true) c.requires.room

pub returns-in_err-own : goal.returns-in_err-own
returns-in_err-own t c =
    let a = c.args in
    c.from_residual.ensures
    ∙ own_full a.row a.depth a.l.now (granted_to a.granted.now.items a.granted.now.count) a.n (omega arith) (sym c.in_err-own.was ∙ c.with_granted.ensures)

pub returns-then-is_childless : goal.returns-then-is_childless
returns-then-is_childless t c =
    let a = c.args in
    let bare : childless (at a.l.now a.n) ≡ true = cc in
    let own = kept_is _ (sym c.in_ok-own.was ∙ c.with_granted.ensures) in
    let ends = node_ends a.row c.in_ok-own.own a.l.now (granted_to a.granted.now.items a.granted.now.count) a.n own.0 a.depth (omega arith) bare in
    cc (c.with.ensures, ap kept ends)

pub with_node-requires : goal.with_node-requires
with_node-requires t c =
    let a = c.args in
    let some : childless (at a.l.now a.n) ≡ false = cc in
    let own = kept_is _ (sym c.in_ok-own.was ∙ c.with_granted.ensures) in
    let kids = children a.l.now a.granted.now a.n c.requires.readable some in
    (omega (arith, c.decreases), (own.1, rw c.node_at-x.ensures kids.0))

pub returns-in_err-then : goal.returns-in_err-then
returns-in_err-then t c =
    let a = c.args in
    let some : childless (at a.l.now a.n) ≡ false = cc in
    let own = kept_is _ (sym c.in_ok-own.was ∙ c.with_granted.ensures) in
    c.from_residual-in_err-then.ensures
    ∙ left_full a.row c.in_ok-own.own a.l.now (granted_to a.granted.now.items a.granted.now.count) a.n own.0 a.depth (omega arith) some (sym c.in_err-then.was ∙ rw c.node_at-x.ensures at c.with_node.ensures)

pub overflow_add-x : goal.overflow_add-x
overflow_add-x t c =
    let a = c.args in
    let some : childless (at a.l.now a.n) ≡ false = cc in
    let kids = children a.l.now a.granted.now a.n c.requires.readable some in
    rw c.node_at-x.ensures (omega (arith, slot_small a.l.now a.granted.now _ kids.1))

pub with_node-requires-2 : goal.with_node-requires-2
with_node-requires-2 t c =
    let a = c.args in
    let some : childless (at a.l.now a.n) ≡ false = cc in
    let then = kept_is _ (sym c.in_ok-then.was ∙ c.with_node.ensures) in
    let kids = children a.l.now a.granted.now a.n c.requires.readable some in
    (omega (arith, c.decreases), (then.1, rw c.node_at-x.ensures kids.1))

pub returns : goal.returns
returns t c =
    let a = c.args in
    let some : childless (at a.l.now a.n) ≡ false = cc in
    let own = kept_is _ (sym c.in_ok-own.was ∙ c.with_granted.ensures) in
    let then = kept_is _ (sym c.in_ok-then.was ∙ rw c.node_at-x.ensures at c.with_node.ensures) in
    rw c.node_at-x.ensures at c.with_node-2.ensures
    ∙ ap kept (node_parts a.row c.in_ok-own.own a.l.now (granted_to a.granted.now.items a.granted.now.count) a.n own.0 a.depth (omega arith) some then.0 refl)
