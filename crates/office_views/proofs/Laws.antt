-- What the count of an area needs, over plain variables.
use mathlib.Core.Path.{◌≡◌}
use mathlib.Core.List.{List}
use Prim.Native.Nat.{ℕ, ◌≤◌}
use native.Mathlib.Omega.{arith}
use Rattle.rules.specs.Count.{rest_of, unclaimed}
use Rattle.rules.specs.Limits.{max_until}
use Rattle.rules.specs.Table.{sum_by}
use Rattle.rules.proofs.Counting.{at_most}
use Rattle.forms.specs.Table.{used_nodes}
use Rattle.forms.proofs.Reading.{unclaimed_used}
use Rattle.layout.specs.Areas.{decoded}
use Rattle.office_forms.specs.Codes.{formed_code}
use Rattle.office_forms.proofs.Held.{held, ruled}

module _ (bs : List ℕ) (e : formed_code bs ≡ 0) where
  pub unclaimed_here : sum_by rest_of (used_nodes (decoded bs)) ≡ unclaimed (decoded bs)
  unclaimed_here = let h = held bs e in unclaimed_used (decoded bs) h.slots h.formed

  pub rest_small : unclaimed (decoded bs) ≤ max_until
  rest_small = let w = ruled bs e in omega (arith, at_most (decoded bs) w, w.limits.until_limit)
