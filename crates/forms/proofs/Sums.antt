-- The rules' sum over the nodes is the library's.
use mathlib.Core.Path.{◌≡◌, refl}
use mathlib.Core.List.{List, [], ◌∷◌}
use Prim.Native.Nat.{ℕ}
use native.Mathlib.Omega.{arith}
use Rattle.std.specs.List as std
use Rattle.std.proofs.lemmas.List.Sums.{sum_by-cons}
use Rattle.rules.specs.declared.Node.{Node}
use Rattle.rules.specs.Table.{sum_by}

pub sum_same : (f : Node → ℕ) (xs : List Node) → std.sum_by f xs ≡ sum_by f xs
unfolding sum_by
sum_same f [] = refl
sum_same f (x ∷ xs) = omega (arith, sum_by-cons f x xs, sum_same f xs)
