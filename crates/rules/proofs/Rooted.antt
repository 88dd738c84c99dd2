-- Where children have greater numbers the nodes are a tree below the root, each once. No other file goes by the children's numbers.
use Prim.Native.Nat.{ℕ, zero, suc, ◌+◌, ◌-◌, ◌%◌, ◌≤◌, ◌<◌}
use mathlib.Core.Path.{◌≡◌, refl, sym, ap, ◌∙◌}
use mathlib.Core.Logic.{◌≢◌}
use native.Mathlib.Omega.{arith}
use native.Mathlib.Decide.{dec_le, ℕ_discrete}
use lib.ListN.{length}
use Rattle.rules.specs.declared.Node.{Node}
use Rattle.rules.specs.declared.Ledger.{Ledger}
use Rattle.rules.specs.Nodes.{blank}
use Rattle.rules.specs.Table.{InUse, at, put, sum_by}
use Rattle.rules.specs.WellFormed.{left_is}
use Rattle.rules.proofs.Nodes.{at_next, at_other, put-length}
use Rattle.rules.proofs.Parents.{is_left, no_left, left_some}
use Rattle.rules.proofs.Record.{WF, in_table, left_used, right_used, root_used}
use Rattle.rules.proofs.Sums.{Adds, sum_by-some, sum_by-put, sum_by_ge}
use Rattle.rules.proofs.Tree.{same_as, same_one, same_none, Tree, leaf, fork, times, Rooted}

-- two nodes of the table
two_of : (l : Ledger) (f : Node → ℕ) (m n : ℕ) → 1 ≤ m → m ≤ length l.nodes → 1 ≤ n → n ≤ length l.nodes → m ≢ n → f blank ≡ 0
    → f (at l m) + f (at l n) ≤ sum_by f l.nodes
unfolding at put
two_of l f m n a b c d ne z =
    let there = ap f (at_other l n blank c m a ne) in
    omega
    (arith, sum_by-put f l n blank c d, sum_by_ge f (put l n blank).nodes (m - 1) blank (omega (arith, put-length l n blank)))

sum_one : (a b c : ℕ) → a ≡ b + c → b ≡ 0 → c ≡ 1 → a ≡ 1
sum_one a b c e f g = omega arith

not_one : (c : ℕ) → c % 2 ≡ 0 → 1 ≢ c
not_one c e f = absurd (omega arith)

not_next : (c : ℕ) → 0 < c → 1 ≢ c + 1
not_next c p = omega arith

-- ---- the tree

module _ (l : Ledger) (w : WF l) where
  grow : (k n : ℕ) → InUse l n → l.used < k + n → Tree l n
  grow zero n u h = absurd (omega (arith, u.high))
  grow (suc k) n u h = go (ℕ_discrete (at l n).left 0) (λ m v c. grow k m v c)
    where
      go : Dec ((at l n).left ≡ 0) → ((m : ℕ) → InUse l m → l.used < k + m → Tree l m) → Tree l n
      go (yes e) below = leaf u e
      go (no ne) below =
          let some : 0 < (at l n).left = omega arith in
          let late = ((w.node n u).pair some).later in
          fork
          {c = (at l n).left}
          u
          some
          refl
          (below (at l n).left (left_used l w n u some) (omega arith))
          (below ((at l n).left + 1) (right_used l w n u some) (omega arith))

  child_after : (n c : ℕ) → InUse l n → 0 < c → (at l n).left ≡ c → n < c
  child_after n c u some e = rw e at ((w.node n u).pair (omega arith)).later

  -- no number below the top stands in a tree
  none_below : {n : ℕ} (x : Tree l n) (m : ℕ) → m < n → times m x ≡ 0
  unfolding times
  none_below (leaf {n = n} u e) m h = same_none n m (omega arith)
  none_below (fork {n = n} {c = c} u some e x y) m h =
      let late = child_after n c u some e in
      omega (arith, same_none n m (omega arith), none_below x m (omega arith), none_below y m (omega arith))

  none_past : {n : ℕ} (x : Tree l n) (m : ℕ) → l.used < m → times m x ≡ 0
  unfolding times
  none_past (leaf {n = n} u e) m h = same_none n m (omega (arith, u.high))
  none_past (fork {n = n} u some e x y) m h = omega (arith, same_none n m (omega (arith, u.high)), none_past x m h, none_past y m h)

  -- the parent of a pair
  pub record Parent (c : ℕ) : Type 0 where
    pub node : ℕ
    pub used : InUse l node
    pub is : (at l node).left ≡ c
    pub only : (n : ℕ) → InUse l n → (at l n).left ≡ c → n ≡ node

  -- a pair stands where its parent stands
  module _ (c : ℕ) (some-c : 0 < c) (even : c % 2 ≡ 0) (parent : Parent c) where
    abbrev p : ℕ
    p = parent.node

    is : (at l p).left ≡ c
    is = parent.is

    record With {n : ℕ} (x : Tree l n) : Type 0 where
      left : times c x ≡ same_as n c + times p x
      right : times (c + 1) x ≡ same_as n (c + 1) + times p x

    with_parent : {n : ℕ} (x : Tree l n) → With x
    unfolding times
    with_parent (leaf {n = n} u e) =
        let ne : n ≢ p = λ f. let z : (at l n).left ≡ c = rw f is in absurd (omega arith) in
        record { left = omega (arith, same_none n p ne); right = omega (arith, same_none n p ne) }
    with_parent (fork {n = n} {c = d} u some e x y) = go (ℕ_discrete d c) (with_parent x) (with_parent y)
      where
        even_d : d % 2 ≡ 0
        even_d = rw e at ((w.node n u).pair (omega arith)).even

        go : Dec (d ≡ c) → With x → With y → With (fork {n = n} {c = d} u some e x y)
        go (yes f) a b =
            let one = same_one n p (parent.only n u (e ∙ f)) in
            record {
              left = omega (arith, a.left, b.left, one, same_one d c f, same_none (d + 1) c (omega (arith, even_d)));
              right = omega (arith, a.right, b.right, one, same_none d (c + 1) (omega (arith, even_d)), same_one (d + 1) (c + 1) (omega arith));
            }
        go (no f) a b =
            let ne : n ≢ p = λ g. f (sym e ∙ rw g is) in
            let none = same_none n p ne in
            record {
              left = omega (arith, a.left, b.left, none, same_none d c f, same_none (d + 1) c (omega (arith, even_d)));
              right = omega (arith, a.right, b.right, none, same_none d (c + 1) (omega (arith, even_d)), same_none (d + 1) (c + 1) (omega arith));
            }

  pub parent_of_lem : (c : ℕ) → InUse l c → c % 2 ≡ 0 → Parent c
  parent_of_lem c u e =
      record { node = slot + 1; used = used; is = is; only = λ n v f. only n v f (ℕ_discrete n (slot + 1)) }
    where
      found : Adds (left_is c) l.nodes
      found = sum_by-some (left_is c) l.nodes (omega (arith, w.parent c u e))

      slot : ℕ
      slot = found.slot

      is : (at l (slot + 1)).left ≡ c
      is = left_some c (at l (slot + 1)) (rw at_next found.some)

      inside : Dec (slot + 1 ≤ l.used) → slot + 1 ≤ l.used
      inside (yes h) = h
      inside (no h) = absurd (omega (arith, is, ap (λ (x : Node). x.left) (w.blank (slot + 1) (omega arith))))

      used : InUse l (slot + 1)
      used = record { low = omega arith; high = inside (dec_le (slot + 1) l.used) }

      only : (n : ℕ) → InUse l n → (at l n).left ≡ c → Dec (n ≡ slot + 1) → n ≡ slot + 1
      only n v f (yes g) = g
      only n v f (no g) =
          absurd
          (omega
          (arith, w.parent c u e, is_left c (at l n) f, is_left c (at l (slot + 1)) is, two_of l (left_is c) n (slot + 1) v.low (in_table l w n v) used.low (in_table l w (slot + 1) used) g (no_left c blank (omega arith))))

  root : Tree l 1
  root = grow l.used 1 (root_used l w) (omega arith)

  once_root : {n : ℕ} (x : Tree l n) → times n x ≡ 1
  unfolding times
  once_root (leaf {n = n} u e) = same_one n n refl
  once_root (fork {n = n} {c = c} u some e x y) =
      let late = child_after n c u some e in
      omega (arith, same_one n n refl, none_below x n late, none_below y n (omega arith))

  -- so often as its parent, once
  pair_once : (c : ℕ) (u : InUse l c) (e : c % 2 ≡ 0) → ((j : ℕ) → j < c → InUse l j → times j root ≡ 1)
      → (times c root ≡ 1) × (times (c + 1) root ≡ 1)
  pair_once c u e below = go (parent_of_lem c u e)
    where
      go : Parent c → (times c root ≡ 1) × (times (c + 1) root ≡ 1)
      go f =
          let both = with_parent c u.low e f root in
          let one = below f.node (child_after f.node c f.used u.low f.is) f.used in (
            sum_one (times c root) (same_as 1 c) (times f.node root) both.left (same_none 1 c (not_one c e)) one,
            sum_one (times (c + 1) root) (same_as 1 (c + 1)) (times f.node root) both.right (same_none 1 (c + 1) (not_next c u.low)) one,
          )

  once : (k m : ℕ) → m < k → InUse l m → times m root ≡ 1
  once zero m h u = absurd (omega arith)
  once (suc k) m h u = go (ℕ_discrete m 1) (ℕ_discrete (m % 2) 0) (λ j a v. once k j a v)
    where
      go : Dec (m ≡ 1) → Dec (m % 2 ≡ 0) → ((j : ℕ) → j < k → InUse l j → times j root ≡ 1) → times m root ≡ 1
      go (yes e) d below = rw e (once_root root)
      go (no ne) (yes e) below = (pair_once m u e (λ j a v. below j (omega arith) v)).0
      go (no ne) (no e) below =
          let j : m - 1 + 1 ≡ m = omega arith in
          let left : InUse l (m - 1) = record { low = omega (arith, u.low); high = omega (arith, u.high) } in
          rw j at (pair_once (m - 1) left (omega arith) (λ i a v. below i (omega arith) v)).1

  pub rooted : Rooted l
  rooted = record { tree = root; once = λ m u. once (m + 1) m (omega arith) u; none = none_past root }
