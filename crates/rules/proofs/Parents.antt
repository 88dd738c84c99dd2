-- 1 for a node whose left child is c, 0 for any other: made from the child, and read back.
use mathlib.Core.Path.{◌≡◌, refl}
use mathlib.Core.Logic.{◌≢◌}
use mathlib.Core.Bool.{Bool, true, false, cond}
use Prim.Native.Nat.{ℕ, ◌<◌}
use native.Mathlib.Omega.{arith}
use lib.Dec.{eqb}
use borrow.Author.Tests.{eqb-true, eq-eqb, ne_eqb}
use Rattle.rules.specs.declared.Node.{Node}
use Rattle.rules.specs.WellFormed.{left_is}

module _ (c : ℕ) (x : Node) where
  pub no_left : x.left ≢ c → left_is c x ≡ 0
  unfolding left_is
  no_left ne = rw (ne_eqb x.left c ne)

  pub is_left : x.left ≡ c → left_is c x ≡ 1
  unfolding left_is
  is_left e = rw (eq-eqb x.left c e)

  pub left_some : 0 < left_is c x → x.left ≡ c
  unfolding left_is
  left_some h = go (eqb x.left c) refl h
    where
      go : (b : Bool) → eqb x.left c ≡ b → 0 < cond b 1 0 → x.left ≡ c
      go true e k = eqb-true x.left c e
      go false e k = absurd (omega arith)
