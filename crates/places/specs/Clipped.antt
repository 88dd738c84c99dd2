-- The code's numbers are 32 bits wide, and a definition's have no end. What the code of a step computes it computes of numbers that it has
-- clipped to document 01's limits, so its answer is told for any record, answer and view. Within the limits, which the public calls test,
-- clipping changes nothing (`UnclippedAsks`, `UnclippedMoves`).
use Rattle.std.specs.Prelude.{◌≡◌, ℕ, ◌≤◌, min}
use Rattle.numbers.specs.Fields.{nat_of}
use Rattle.numbers.specs.Progress.{signed}
use Rattle.rules.specs.declared.Request.{Request}
use Rattle.rules.specs.declared.Answer.{Answer}
use Rattle.rules.specs.Asks.{plain}
use Rattle.rules.specs.Limits.{max_teams, max_cap}
use Rattle.steps.specs.declared.Team.{Team}
use Rattle.steps.specs.Records.{max_node, placed}
use Rattle.steps.specs.Turn.{asks, moves}

-- a record with its node, and an answer with its left child
abbrev pub clipped_team : Team → Team
clipped_team r = placed r r.place (min r.node max_node)

abbrev pub clipped_answer : Answer → Answer
clipped_answer a =
    record {
      code = a.code;
      state = a.state;
      «from» = a.«from»;
      to = a.to;
      owner = a.owner;
      left = min a.left max_node;
    }

-- a request as signed fields hold it; its position is signed as it comes
abbrev pub clipped_request : Request → Request
clipped_request q =
    plain (signed (nat_of q.kind)) (signed (nat_of q.team)) (signed (nat_of q.node)) q.position (signed (nat_of q.amount))

-- ---- what the code of a place says

unfoldable pub clipped_asks : ℕ → Team → Request
clipped_asks t r = clipped_request (asks t r)

unfoldable pub clipped_moves : ℕ → ℕ → Team → Answer → Team
clipped_moves t cap r a = moves t cap (clipped_team r) (clipped_answer a)

-- ---- and within the limits it is what the definitions say

-- a team's number, and its record
pub record Limited (number : ℕ) (r : Team) : Type 0 where
  pub number_high : number ≤ max_teams
  pub node_high : r.node ≤ max_node
  pub size_high : r.size ≤ max_cap

abbrev pub UnclippedAsks : Type 0
UnclippedAsks = (number : ℕ) (r : Team) → Limited number r → clipped_asks number r ≡ asks number r

abbrev pub UnclippedMoves : Type 0
UnclippedMoves =
    (number cap : ℕ) (r : Team) (a : Answer) → r.node ≤ max_node → a.left ≤ max_node
    → clipped_moves number cap r a ≡ moves number cap r a
