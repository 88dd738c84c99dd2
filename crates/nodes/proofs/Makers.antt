-- Within the limits the makers are the rules' own.
use mathlib.Core.Path.{◌≡◌, refl, sym, ap, subst, ◌∙◌}
use mathlib.Core.Bool.{Bool, true, false, cond}
use mathlib.Core.List.{[], ◌∷◌}
use Prim.Native.Nat.{◌≤◌}
use lib.IntN.{ℤ}
use Rattle.numbers.specs.Progress.{mark}
use Rattle.numbers.proofs.Laws.{signed_is}
use Rattle.rules.specs.declared.Finds.{Finds}
use Rattle.rules.specs.Joining.{none, join_all}
use Rattle.rules.specs.Nodes.{make_node, stage_for, moved, pushed, childless, middle, right_part, joined_of}
use Rattle.finds.specs.Held.{most_held}
use Rattle.finds.proofs.Held.{join_within, none_after}
use Rattle.nodes.specs.Makers.{held_right, part_of, held_pushed, FreshWithin, AdvancedWithin, MarkedWithin, RightWithin, JoinedInParts, PushedWithin}

pub fresh_within : FreshWithin
fresh_within a b small = ap (λ (p : ℤ). make_node a b p 0 0 none none (stage_for a b)) (signed_is a small)

pub advanced_within : AdvancedWithin
advanced_within x p small = ap (λ (z : ℤ). moved x z) (signed_is p small)

pub marked_within : MarkedWithin
marked_within x p small = ap (λ (z : ℤ). moved x (mark z)) (signed_is p small)

pub right_within : RightWithin
unfolding held_right right_part
right_within x small = fresh_within (middle x) x.until small

-- with children or without
in_parts : (t : Bool) (own a b : Finds) → join_all (cond t (own ∷ []) (own ∷ a ∷ b ∷ [])) ≡ join_all (own ∷ cond t none a ∷ cond t none b ∷ [])
in_parts true own a b = sym (none_after own)
in_parts false own a b = refl

pub joined_in_parts : JoinedInParts
unfolding joined_of part_of
joined_in_parts x a b = in_parts (childless x) x.own a.joined b.joined

pub pushed_within : PushedWithin
unfolding held_pushed
pushed_within x a b small =
    let small : (join_all (x.own ∷ part_of x a ∷ part_of x b ∷ [])).count ≤ most_held = subst (λ (f : Finds). f.count ≤ most_held) (joined_in_parts x a b) small in
    ap (λ (f : Finds). pushed x f) (join_within x.own (part_of x a) (part_of x b) small ∙ sym (joined_in_parts x a b))
