-- The joined count of a node: at most the largest count of a report for each node of its tree, and so for each slot in use.
use mathlib.Core.Path.{◌≡◌, sym, ap, subst, ◌∙◌}
use mathlib.Core.Bool.{true}
use Prim.Native.Nat.{ℕ, ◌+◌, ◌*◌, ◌≤◌, ◌<◌}
use native.Mathlib.Omega.{arith}
use native.Mathlib.Decide.{ℕ_discrete}
use borrow.Author.Tests.{eq-eqb, ne_eqb}
use Rattle.rules.specs.declared.Finds.{Finds}
use Rattle.rules.specs.declared.Ledger.{Ledger}
use Rattle.rules.specs.declared.Node.{Node}
use Rattle.rules.specs.Demands.{JoinedFits}
use Rattle.rules.specs.Joining.{max_finds, join, join_all, reportable, passing}
use Rattle.rules.specs.Nodes.{UNREPORTED, PREPARED, joined_of}
use Rattle.rules.specs.Table.{InUse, at}
use Rattle.rules.proofs.Facts.{facts}
use Rattle.rules.proofs.Record.{Staged, WF, rules, left_used, right_used}
use Rattle.rules.proofs.Rooted.{rooted}
use Rattle.rules.proofs.Tree.{Tree, leaf, fork, from_root}
use Rattle.rules.proofs.TreeSum.{sum_tree, size, rooted_size}

-- ---- one node

passing_count : (f : Finds) → passing f ≡ true → f.count ≤ max_finds
unfolding reportable
passing_count f e = let h = simp facts at e in h.0.0.0.1

-- what a node reports passes 33, whatever its stage: nothing passes too
own_count : (x a b : Node) → Staged x a b → x.own.count ≤ max_finds
own_count x a b s = go (ℕ_discrete x.stage UNREPORTED) (ℕ_discrete x.stage PREPARED)
  where
    go : Dec (x.stage ≡ UNREPORTED) → Dec (x.stage ≡ PREPARED) → x.own.count ≤ max_finds
    go (yes e) d = let z = ap (λ (f : Finds). f.count) (s.unreported e).0 in omega arith
    go (no e) (yes f) = passing_count x.own (s.prepared f).own
    go (no e) (no f) = passing_count x.own (s.pushed (omega (arith, s.limit))).own

-- a joined result is there once the node is pushed, and is the join
joined_count : (x a b : Node) → Staged x a b → x.joined.count ≤ (joined_of x a b).count
joined_count x a b s = go (ℕ_discrete x.stage UNREPORTED) (ℕ_discrete x.stage PREPARED)
  where
    count : {f g : Finds} → f ≡ g → f.count ≡ g.count
    count e = ap (λ (f : Finds). f.count) e

    go : Dec (x.stage ≡ UNREPORTED) → Dec (x.stage ≡ PREPARED) → x.joined.count ≤ (joined_of x a b).count
    go (yes e) d = let z = count (s.unreported e).1 in omega arith
    go (no e) (yes f) = let z = count (s.prepared f).joined in omega arith
    go (no e) (no f) = let z = count (s.pushed (omega (arith, s.limit))).joined in omega arith

leaf_count : (x a b : Node) → x.left ≡ 0 → (joined_of x a b).count ≡ x.own.count
unfolding joined_of join_all join
leaf_count x a b e = rw (eq-eqb x.left 0 e) (omega arith)

fork_count : (x a b : Node) → 0 < x.left → (joined_of x a b).count ≡ x.own.count + a.joined.count + b.joined.count
unfolding joined_of join_all join
fork_count x a b some = rw (ne_eqb x.left 0 (omega arith)) (omega arith)

-- ---- the tree below a node

abbrev joined_at : Ledger → ℕ → Finds
joined_at l n = joined_of (at l n) (at l (at l n).left) (at l ((at l n).left + 1))

module _ (l : Ledger) (w : WF l) where
  -- a node with children
  forked : (n i j : ℕ) → InUse l n → 0 < (at l n).left
      → (joined_at l (at l n).left).count ≤ max_finds * i
      → (joined_at l ((at l n).left + 1)).count ≤ max_finds * j
      → (joined_at l n).count ≤ max_finds * (1 + (i + j))
  forked n i j u some p q =
      let own = own_count (at l n) _ _ (w.node n u).staged in
      let left = joined_count _ _ _ (w.node (at l n).left (left_used l w n u some)).staged in
      let right = joined_count _ _ _ (w.node ((at l n).left + 1) (right_used l w n u some)).staged in
      omega (arith, fork_count (at l n) (at l (at l n).left) (at l ((at l n).left + 1)) some)

  below : {n : ℕ} (t : Tree l n) → (joined_at l n).count ≤ max_finds * size t
  unfolding size sum_tree
  below (leaf {n = n} u e) =
      let own = own_count (at l n) _ _ (w.node n u).staged in
      omega (arith, leaf_count (at l n) (at l (at l n).left) (at l ((at l n).left + 1)) e)
  below (fork {n = n} {c = c} u h e x y) =
      forked
      n
      (size x)
      (size y)
      u
      (omega arith)
      (subst (λ (m : ℕ). (joined_at l m).count ≤ max_finds * size x) (sym e) (below x))
      (subst (λ (m : ℕ). (joined_at l (m + 1)).count ≤ max_finds * size y) (sym e) (below y))

-- ---- from the root

-- the tree below a node has no more nodes than there are in use
record Sub (l : Ledger) (n : ℕ) : Type 0 where
  pub tree : Tree l n
  pub small : size tree ≤ l.used

children : (l : Ledger) (n c : ℕ) → InUse l n → 0 < c → (at l n).left ≡ c → Sub l n → Sub l c × Sub l (c + 1)
unfolding size sum_tree
children l n c u h e s = go s.tree s.small
  where
    go : (t : Tree l n) → size t ≤ l.used → Sub l c × Sub l (c + 1)
    go (leaf v f) k = absurd (omega arith)
    go (fork {c = d} v p f x y) k =
        subst
        (λ (m : ℕ). Sub l m × Sub l (m + 1))
        (sym f ∙ e)
        (record { tree = x; small = omega arith }, record { tree = y; small = omega arith })

pub joined_fits : JoinedFits
joined_fits l n sound u =
    let w = rules l sound in
    let r = rooted l w in
    let s = from_root l (Sub l) (children l) r (record { tree = r.tree; small = rooted_size l r }) n u in
    omega (arith, below l w s.tree, s.small)
