-- The nodes under a node, as an inductive fact. Nothing bounds its depth, and children may have any numbers.
-- `Rooted`: the tree below the root has each slot in use once, and no other.
use mathlib.Core.Path.{◌≡◌}
use mathlib.Core.Logic.{◌≢◌}
use mathlib.Core.Bool.{cond}
use Prim.Native.Nat.{ℕ, ◌+◌, ◌<◌}
use native.Mathlib.Omega.{arith}
use native.Mathlib.Decide.{ℕ_discrete}
use lib.Dec.{eqb}
use borrow.Author.Tests.{eq-eqb, ne_eqb}
use Rattle.rules.specs.declared.Ledger.{Ledger}
use Rattle.rules.specs.Table.{InUse, at}

-- 1 for the same number, 0 for any other
unfoldable pub same_as : ℕ → ℕ → ℕ
same_as n m = cond (eqb n m) 1 0

pub same_one : (n m : ℕ) → n ≡ m → same_as n m ≡ 1
unfolding same_as
same_one n m e = rw (eq-eqb n m e)

pub same_none : (n m : ℕ) → n ≢ m → same_as n m ≡ 0
unfolding same_as
same_none n m ne = rw (ne_eqb n m ne)

pub data Tree (l : Ledger) : ℕ → Type 0 where
  leaf : {n : ℕ} → InUse l n → (at l n).left ≡ 0 → Tree l n
  fork : {n c : ℕ} → InUse l n → 0 < c → (at l n).left ≡ c → Tree l c → Tree l (c + 1) → Tree l n

-- how often a number stands in a tree
unfoldable pub times : {l : Ledger} {n : ℕ} → ℕ → Tree l n → ℕ
times m (leaf {n = n} u e) = same_as n m
times m (fork {n = n} u h e x y) = same_as n m + (times m x + times m y)

-- every slot in use is reached from the root, along one way
pub record Rooted (l : Ledger) : Type 0 where
  pub tree : Tree l 1
  pub once : (n : ℕ) → InUse l n → times n tree ≡ 1
  pub none : (n : ℕ) → l.used < n → times n tree ≡ 0

-- ---- induction from the root

-- what holds of the root, and of the children of each node in use of which it holds, holds of each node in the tree
module _ (l : Ledger) (P : ℕ → Type 0)
    (down : (n c : ℕ) → InUse l n → 0 < c → (at l n).left ≡ c → P n → P c × P (c + 1)) where
  pub each : {n : ℕ} (t : Tree l n) → P n → (m : ℕ) → 0 < times m t → P m
  unfolding times same_as
  each (leaf {n = n} u e) p m h = go (ℕ_discrete n m)
    where
      go : Dec (n ≡ m) → P m
      go (yes f) = rw f at p
      go (no ne) = absurd (omega (arith, same_none n m ne))
  each (fork {n = n} {c = c} u h e x y) p m k =
      let both = down n c u h e p in
      go (ℕ_discrete n m) (ℕ_discrete (times m x) 0) (λ q. each x both.0 m q) (λ q. each y both.1 m q)
    where
      go : Dec (n ≡ m) → Dec (times m x ≡ 0) → (0 < times m x → P m) → (0 < times m y → P m) → P m
      go (yes f) d in-x in-y = rw f at p
      go (no ne) (no z) in-x in-y = in-x (omega arith)
      go (no ne) (yes z) in-x in-y = in-y (omega (arith, same_none n m ne))

  -- so of each slot in use
  pub from_root : Rooted l → P 1 → (m : ℕ) → InUse l m → P m
  from_root r p m u = each r.tree p m (omega (arith, r.once m u))
