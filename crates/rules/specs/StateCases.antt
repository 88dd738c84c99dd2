-- The states as cases, each with the number that an answer has for it.
use Rattle.std.specs.Prelude.{◌≡◌, ◌<◌, ℕ, Result, MatchResult, ◌⊎◌}
use Rattle.rules.specs.declared.state.State.{State}
use Rattle.rules.specs.declared.state.State.TheVariants as state
use Rattle.rules.specs.declared.state.UnknownState.{UnknownState}
use Rattle.rules.specs.States.{AVAILABLE, OWNED, COMPLETED, STOLEN, EXPANDED}

abbrev pub number_of : State → ℕ
number_of state.Available = AVAILABLE
number_of state.Owned = OWNED
number_of state.Completed = COMPLETED
number_of state.Stolen = STOLEN
number_of state.Expanded = EXPANDED

-- the state with this number, or an error with a number that no state has
abbrev pub Reads : ℕ → Result State UnknownState → Type 0
Reads n r = MatchResult r (λ s. n ≡ number_of s) (λ e. (e.0 ≡ n) × ((n ≡ 0) ⊎ (EXPANDED < n)))
