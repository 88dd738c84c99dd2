-- The team numbers of a text, as they stand in an area.
use mathlib.Core.Path.{◌≡◌}
use mathlib.Core.Bool.{true}
use mathlib.Core.List.{List, [], ◌∷◌, ◌++◌, map}
use Prim.Native.Nat.{ℕ, zero, suc, ◌≤◌, ◌<◌, min}
use native.Mathlib.Omega.{arith}
use lib.IntN.{ℤ, pos}
use lib.ListN.{length, get_or}
use Rattle.numbers.specs.Progress.{signed}
use Rattle.numbers.specs.Fields.{within}
use Rattle.numbers.proofs.Laws.{within_made}
use Rattle.text_rules.specs.Demands.{AllTeams, none, more}

-- each number at the front of an area is a team's
pub front_teams : (teams : ℕ) (ns : List ℕ) (rest : List ℤ) → teams ≤ 2147483647 → AllTeams teams ns
    → (i : ℕ) → i < length ns → within (get_or (map signed ns ++ rest) i (pos 0)) 1 teams ≡ true
front_teams teams [] rest h none i less = absurd (omega arith)
front_teams teams (n ∷ ns) rest h (more low high all) zero less = within_made (min n 2147483647) 1 teams (omega arith) (omega arith)
front_teams teams (n ∷ ns) rest h (more low high all) (suc i) less = front_teams teams ns rest h all i (omega arith)
