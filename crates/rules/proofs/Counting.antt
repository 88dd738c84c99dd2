-- No more is unclaimed than the range has sheets: the children of a node share out what it left unclaimed.
use mathlib.Core.Path.{◌≡◌, refl}
use mathlib.Core.Bool.{Bool, true, false, cond}
use mathlib.Core.Logic.{◌≢◌}
use Prim.Native.Nat.{ℕ, ◌-◌, ◌≤◌}
use native.Mathlib.Omega.{arith}
use borrow.Author.Tests.{eq-eqb, ne_eqb}
use Rattle.rules.specs.declared.Ledger.{Ledger}
use Rattle.rules.specs.Count.{Unclaimed}
use Rattle.rules.specs.Count.{rest_of, unclaimed, counted}
use Rattle.rules.specs.Limits.{max_until}
use Rattle.rules.specs.Nodes.{middle}
use Rattle.rules.specs.Demands.{CountAtMost, CountFits}
use Rattle.rules.specs.Table.{at}
use Rattle.rules.specs.WellFormed.{well_formed}
use Rattle.rules.proofs.Record.{WF, rules, both_sound}
use Rattle.rules.proofs.Rooted.{rooted}
use Rattle.rules.proofs.Tree.{Tree, leaf, fork}
use Rattle.rules.proofs.TreeSum.{sum_tree, tree_sum}

module _ (l : Ledger) (w : WF l) where
  below : {n : ℕ} (t : Tree l n) → sum_tree (λ (m : ℕ). rest_of (at l m)) t ≤ (at l n).until - (at l n).start
  unfolding sum_tree rest_of middle
  below (leaf {n = n} u e) = rw (eq-eqb (at l n).left 0 e) (omega (arith, (w.node n u).alone.low))
  below (fork {n = n} {c = c} u some e x y) =
      let a = (w.node n u).alone in
      let p = rw e at ((w.node n u).pair (omega arith)) in
      let ne : (at l n).left ≢ 0 = omega arith in
      rw
      (ne_eqb (at l n).left 0 ne)
      (omega (arith, below x, below y, a.low, a.high, p.left.start, p.left.until, p.right.start, p.right.until))

  pub at_most : unclaimed l ≤ l.until - l.start
  unfolding unclaimed rest_of
  at_most = omega (arith, tree_sum l w rest_of refl, below (rooted l w).tree, w.root.start, w.root.until)

pub count_at_most : CountAtMost
count_at_most l s = at_most l (rules l s)

pub count_fits : CountFits
unfolding counted
count_fits l sized = go (well_formed l) refl
  where
    given : Bool → Unclaimed
    given b = cond b (record { code = 0; count = unclaimed l }) (record { code = 1; count = 0 })

    go : (b : Bool) → well_formed l ≡ b → (given b).count ≤ max_until
    go true e =
        let s = both_sound sized e in
        omega (arith, count_at_most l s, (rules l s).limits.until_limit)
    go false e = omega arith
