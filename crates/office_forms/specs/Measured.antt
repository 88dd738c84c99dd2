-- An area whose own numbers are within their limits and that is long enough for its nodes.
use Rattle.std.specs.Prelude.{ℕ, ◌%◌, ◌≤◌, ◌≡◌, List, length}
use Rattle.rules.specs.Limits.{max_nodes}
use Rattle.forms.specs.declared.head.Head.{Head}
use Rattle.layout.specs.Sizes.{area_size}
use Rattle.layout.specs.Areas.{decoded}

pub record Measured (bs : List ℕ) (h : Head) : Type 0 where
  pub start_is : (decoded bs).start ≡ h.start
  pub until_is : (decoded bs).until ≡ h.until
  pub teams_is : (decoded bs).teams ≡ h.teams
  pub room_is : (decoded bs).room ≡ h.room
  pub used_is : (decoded bs).used ≡ h.used
  pub odd : h.used % 2 ≡ 1
  pub fits : h.used ≤ h.room
  pub small : h.room ≤ max_nodes
  pub long : area_size h.room ≤ length bs
