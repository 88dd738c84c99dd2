-- How many requests a ledger shows at most: each node's sheets are its own, and those of the whole tree are no more than the range has.
use mathlib.Core.Path.{◌≡◌, refl}
use mathlib.Core.Bool.{Bool, true, false, cond}
use Prim.Native.Nat.{ℕ, ◌+◌, ◌-◌, ◌*◌, ◌≤◌, ◌<◌}
use native.Mathlib.Omega.{arith}
use borrow.Author.Tests.{eq-eqb}
use Rattle.rules.specs.declared.Ledger.{Ledger}
use Rattle.rules.specs.declared.Node.{Node}
use Rattle.rules.specs.Limits.{max_amount}
use Rattle.rules.specs.Nodes.{marked, unowned, childless, position_of, middle}
use Rattle.rules.specs.Table.{at}
use Rattle.rules.proofs.Record.{WF, Staged}
use Rattle.rules.proofs.Rooted.{rooted}
use Rattle.rules.proofs.Stages.{unpushed}
use Rattle.rules.proofs.States.{going_on}
use Rattle.rules.proofs.Tree.{Tree, leaf, fork}
use Rattle.rules.proofs.TreeSum.{sum_tree, tree_sum, size, rooted_size}
use Rattle.reachable.specs.Batches.{batch_count}
use Rattle.reachable.specs.Length.{one_if, work_count, split_count, request_count, worth, per_node, longest}
use Rattle.reachable.specs.Work.{has_report, was_pushed}
use Rattle.reachable.proofs.Counts.{blank_count}
use Rattle.reachable.proofs.Pushes.{was_pushed-by}

at_most_one : (b : Bool) → one_if b ≤ 1
at_most_one true = omega arith
at_most_one false = omega arith

none_or_one : (b : Bool) → cond {A = ℕ} b 0 1 ≤ 1
none_or_one true = omega arith
none_or_one false = omega arith

-- all batches but the last are full
work_most : (x : Node) → max_amount * work_count x < position_of x - x.start + 2 * max_amount
unfolding work_count batch_count
work_most x = go (unowned x)
  where
    go : (b : Bool) → max_amount * cond b 0 (1 + batch_count x.start (position_of x)) < position_of x - x.start + 2 * max_amount
    go true = omega arith
    go false = omega arith

-- a node without children is not both marked and pushed
one_of_two : (x a b : Node) → Staged x a b → x.left ≡ 0 → one_if (marked x) + one_if (was_pushed x) ≤ 1
one_of_two x a b s e = go (marked x) (was_pushed x) refl refl
  where
    go : (m p : Bool) → marked x ≡ m → was_pushed x ≡ p → one_if m + one_if p ≤ 1
    go true true f g = absurd (unpushed x a b s (going_on x f) e (was_pushed-by x a b s g).stage)
    go true false f g = omega arith
    go false true f g = omega arith
    go false false f g = omega arith

leaf_most : (x a b : Node) → Staged x a b → x.left ≡ 0 → max_amount * request_count x ≤ position_of x - x.start + max_amount * 4
unfolding request_count split_count
leaf_most x a b s e =
    rw (eq-eqb x.left 0 e) (omega (arith, work_most x, one_of_two x a b s e, at_most_one (has_report x)))

fork_most : (x : Node) → max_amount * request_count x ≤ position_of x - x.start + max_amount * 6
unfolding request_count split_count
fork_most x =
    omega
    (arith, work_most x, at_most_one (marked x), none_or_one (childless x), at_most_one (has_report x), at_most_one (was_pushed x))

-- ---- down the tree

module _ (l : Ledger) (w : WF l) where
  below : {n : ℕ} (t : Tree l n)
      → max_amount * sum_tree (λ (m : ℕ). request_count (at l m)) t + max_amount ≤ (at l n).until - (at l n).start + max_amount * per_node * size t
  unfolding sum_tree size middle
  below (leaf {n = n} u e) =
      let a = (w.node n u).alone in
      omega (arith, leaf_most (at l n) _ _ (w.node n u).staged e, a.low, a.high)
  below (fork {n = n} {c = c} u some e x y) =
      let a = (w.node n u).alone in
      let p = rw e at ((w.node n u).pair (omega arith)) in
      omega
      (arith, fork_most (at l n), below x, below y, a.low, a.high, p.left.start, p.left.until, p.right.start, p.right.until)

  pub worth_most : worth l ≤ longest l
  unfolding worth
  worth_most =
      let r = rooted l w in
      omega
      (arith, tree_sum l w request_count blank_count, below r.tree, rooted_size l r, w.root.start, w.root.until)
