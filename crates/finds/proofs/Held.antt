-- Three results joined, number by number.
use Prim.Native.Nat.{ℕ, ◌+◌}
use mathlib.Core.Path.{◌≡◌, refl, ap, ◌∙◌}
use mathlib.Core.List.{[], ◌∷◌}
use native.Mathlib.Omega.{arith}
use Rattle.rules.specs.declared.Finds.{Finds}
use Rattle.rules.specs.Joining.{none, first_of, last_of, join, join_all}
use Rattle.rules.proofs.Joining.{same_finds_lem, first-join, last_join}
use Rattle.finds.specs.Held.{held_join, JoinWithin, NoneAfter}

module _ (x a b : Finds) where
  pub three_count : (join_all (x ∷ a ∷ b ∷ [])).count ≡ x.count + a.count + b.count
  unfolding join_all join
  three_count = omega arith

  pub three_first : (join_all (x ∷ a ∷ b ∷ [])).first ≡ first_of x (first_of a (first_of b 0))
  unfolding join_all
  three_first =
      (unfold join in (ap (λ (k : ℕ). first_of x k) (first-join a (join b none) 0 ∙ ap (λ (k : ℕ). first_of a k) (first-join b none 0))))

  pub three_last : (join_all (x ∷ a ∷ b ∷ [])).last ≡ last_of b (last_of a (last_of x 0))
  unfolding join_all
  three_last =
      (unfold join in (last_join a (join b none) (last_of x 0) ∙ last_join b none (last_of a (last_of x 0))))

pub join_within : JoinWithin
unfolding held_join
join_within own left right small = same_finds_lem _ _ _ _ _ _ (omega arith) refl refl

pub none_after : NoneAfter
unfolding join_all join
none_after own = refl
