-- A sum over the table is the sum over the tree below the root. So what is counted over all slots is proved by going down the tree.
use mathlib.Core.Path.{◌≡◌, refl, ap, ◌∙◌}
use mathlib.Core.List.{List, [], ◌∷◌}
use Prim.Native.Nat.{ℕ, zero, suc, ◌+◌, ◌*◌, ◌≤◌, ◌<◌}
use native.Mathlib.Omega.{arith}
use native.Mathlib.Decide.{ℕ_discrete, dec_le}
use native.Mathlib.Numerals.{add-one}
use lib.ListN.{length, take}
use Rattle.rules.specs.declared.Node.{Node}
use Rattle.rules.specs.declared.Ledger.{Ledger}
use Rattle.rules.specs.Limits.{max_nodes}
use Rattle.rules.specs.Nodes.{blank}
use Rattle.rules.specs.Table.{at, sum_by}
use Rattle.rules.proofs.Record.{WF, used_high}
use Rattle.rules.proofs.Nodes.{at_next}
use Rattle.rules.proofs.Rooted.{rooted}
use Rattle.rules.proofs.Sums.{sum_by_next, sum_by_none}
use Rattle.rules.proofs.Tree.{same_as, same_one, same_none, Tree, leaf, fork, times, Rooted}
use Rattle.rules.proofs.Numbers.{sum_up, sum_up_add, sum_up_alike}

-- what is counted of each number, over a tree
unfoldable pub sum_tree : {l : Ledger} {n : ℕ} → (ℕ → ℕ) → Tree l n → ℕ
sum_tree g (leaf {n = n} u e) = g n
sum_tree g (fork {n = n} u h e x y) = g n + (sum_tree g x + sum_tree g y)

-- picked by one number
past : (n : ℕ) (g : ℕ → ℕ) (k : ℕ) → k < n → sum_up (λ (m : ℕ). same_as n m * g m) k ≡ 0
unfolding sum_up
past n g zero h = refl
past n g (suc k) h = rw (same_none n (suc k) (omega arith)) (omega (arith, past n g k (omega arith)))

picked : (n : ℕ) (g : ℕ → ℕ) (k : ℕ) → 1 ≤ n → n ≤ k → sum_up (λ (m : ℕ). same_as n m * g m) k ≡ g n
unfolding sum_up
picked n g zero p q = absurd (omega arith)
picked n g (suc k) p q = go (ℕ_discrete n (suc k)) (λ h. picked n g k p h)
  where
    go : Dec (n ≡ suc k) → (n ≤ k → sum_up (λ (m : ℕ). same_as n m * g m) k ≡ g n) → sum_up (λ (m : ℕ). same_as n m * g m) (suc k) ≡ g n
    go (yes e) below = rw (same_one n (suc k) e) (omega (arith, past n g k (omega arith), ap g e))
    go (no ne) below = rw (same_none n (suc k) ne) (omega (arith, below (omega arith)))

-- by how often each stands in the tree
weighed : {l : Ledger} {n : ℕ} (g : ℕ → ℕ) (t : Tree l n) (k : ℕ) → l.used ≤ k → sum_up (λ (m : ℕ). times m t * g m) k ≡ sum_tree g t
unfolding times sum_tree
weighed g (leaf {n = n} u e) k h = picked n g k u.low (omega (arith, u.high))
weighed g (fork {n = n} u some e x y) k h =
    let here = picked n g k u.low (omega (arith, u.high)) in
    let all =
    sum_up_add
    (λ (m : ℕ). (same_as n m + (times m x + times m y)) * g m)
    (λ (m : ℕ). same_as n m * g m)
    (λ (m : ℕ). times m x * g m + times m y * g m)
    k
    (λ m. omega arith) in
    let below =
    sum_up_add
    (λ (m : ℕ). times m x * g m + times m y * g m)
    (λ (m : ℕ). times m x * g m)
    (λ (m : ℕ). times m y * g m)
    k
    (λ m. refl) in
    omega (arith, weighed g x k h, weighed g y k h)

-- ---- the size of the tree

unfoldable pub size : {l : Ledger} {n : ℕ} → Tree l n → ℕ
size t = sum_tree (λ m. 1) t

pub size_some : {l : Ledger} {n : ℕ} (t : Tree l n) → 0 < size t
unfolding size sum_tree
size_some (leaf u e) = omega arith
size_some (fork u h e x y) = omega arith

ones : (k : ℕ) → sum_up (λ m. 1) k ≡ k
unfolding sum_up
ones zero = refl
ones (suc k) = omega (arith, ones k)

-- no larger than the slots in use are many, so a walk as deep as that meets its end
pub rooted_size : (l : Ledger) (r : Rooted l) → size r.tree ≤ l.used
unfolding size
rooted_size l r =
    let e : sum_up (λ (m : ℕ). times m r.tree * 1) l.used ≡ sum_up (λ m. 1) l.used =
    sum_up_alike
    (λ (m : ℕ). times m r.tree * 1)
    (λ m. 1)
    l.used
    (λ m p q. omega (arith, r.once m (record { low = p; high = q }))) in
    omega (arith, weighed (λ m. 1) r.tree l.used (omega arith), ones l.used)

-- ---- a sum over the table

front_sum : (f : Node → ℕ) (l : Ledger) (k : ℕ) → k ≤ length l.nodes → sum_by f (take k l.nodes) ≡ sum_up (λ (m : ℕ). f (at l m)) k
unfolding sum_up
front_sum f l zero h = sum_by_none f l.nodes
front_sum f l (suc k) h =
    rw
    (← add-one k)
    (omega
    (arith, sum_by_next f l.nodes k blank (omega arith), front_sum f l k (omega arith), ap f (at_next l k)))

-- a slot that is not in use adds nothing
weight : (l : Ledger) (w : WF l) (f : Node → ℕ) → f blank ≡ 0 → (m : ℕ) → 1 ≤ m → f (at l m) ≡ times m (rooted l w).tree * f (at l m)
weight l w f z m p = go (dec_le m l.used)
  where
    go : Dec (m ≤ l.used) → f (at l m) ≡ times m (rooted l w).tree * f (at l m)
    go (yes q) = rw ((rooted l w).once m (record { low = p; high = q })) (omega arith)
    go (no q) = let b = ap f (w.blank m (omega arith)) in rw ((rooted l w).none m (omega arith)) (omega arith)

take_all : (xs : List Node) (k : ℕ) → length xs ≡ k → take k xs ≡ xs
take_all [] zero e = refl
take_all [] (suc k) e = refl
take_all (x ∷ xs) zero e = absurd (omega arith)
take_all (x ∷ xs) (suc k) e = ap (λ (ys : List Node). x ∷ ys) (take_all xs k (omega arith))

pub tree_sum : (l : Ledger) (w : WF l) (f : Node → ℕ) → f blank ≡ 0 → sum_by f l.nodes ≡ sum_tree (λ (m : ℕ). f (at l m)) (rooted l w).tree
tree_sum l w f z =
    let all : sum_by f l.nodes ≡ sum_up (λ (m : ℕ). f (at l m)) max_nodes =
    rw (take_all l.nodes max_nodes w.slots) at (front_sum f l max_nodes (omega (arith, w.slots))) in
    let same : sum_up (λ (m : ℕ). f (at l m)) max_nodes ≡ sum_up (λ (m : ℕ). times m (rooted l w).tree * f (at l m)) max_nodes =
    sum_up_alike
    (λ (m : ℕ). f (at l m))
    (λ (m : ℕ). times m (rooted l w).tree * f (at l m))
    max_nodes
    (λ m p q. weight l w f z m p) in
    all ∙ (same ∙ weighed (λ (m : ℕ). f (at l m)) (rooted l w).tree max_nodes (used_high l w))
