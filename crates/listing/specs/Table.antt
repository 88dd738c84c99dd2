-- What the code of a run counts on.
use Rattle.std.specs.Prelude.{◌≡◌, ℕ, ◌+◌, ◌-◌, ◌≤◌, ◌<◌, true, List, ℤ, pos, length, get_or}
use Rattle.numbers.specs.Fields.{nat_of, within}
use Rattle.rules.specs.declared.Opening.{Opening}
use Rattle.rules.specs.declared.Change.{Change}
use Rattle.rules.specs.declared.Change.TheVariants.{Keep, Own, Advance, Mark, Split, Report, Push}
use Rattle.rules.specs.Limits.{opens, max_program}

-- an opening within its limits, a program or none, and so many numbers at the front of an area, each of them a team's
pub record Runnable (o : Opening) (program count : ℕ) (schedule : List ℤ) : Type 0 where
  pub opened : opens o ≡ true
  pub known : program ≤ max_program
  pub inside : count ≤ length schedule
  pub teams : (i : ℕ) → i < count → within (get_or schedule i (pos 0)) 1 (nat_of o.teams) ≡ true

-- the STOLEN count after a change of a step; no step reports or pushes
abbrev pub stolen_after : ℕ → Change → ℕ
stolen_after stolen Keep = stolen
stolen_after stolen (Own team) = stolen
stolen_after stolen (Advance p) = stolen
stolen_after stolen (Mark p) = stolen + 1
stolen_after stolen (Split p) = stolen - 1
stolen_after stolen (Report f) = stolen
stolen_after stolen Push = stolen
