-- The table of moves as a number for each state and request: the rule of the moves where both are 1 to 5, and else 0.
use Rattle.std.specs.Prelude.{ℕ, cond, ◌&&◌, leb}
use Rattle.rules.specs.Moves.{last_state, last_mover, leads, as_number}

unfoldable pub states_after : ℕ → ℕ → ℕ
states_after state kind = cond (leb 1 state && leb state last_state && leb 1 kind && leb kind last_mover) (as_number (leads state kind)) 0
