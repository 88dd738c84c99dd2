-- "The open line comes first; then, in step order, a batch line for each granted advance and a split line for each granted expand, nothing
-- for any other step; the left line ends it."
use Rattle.std.specs.Prelude.{ℕ, Bool, cond, not, ◌&&◌, List, [], ◌∷◌, ◌++◌, eqb, ℤ, pos, replicate}
use Rattle.rules.specs.declared.Opening.{Opening}
use Rattle.rules.specs.declared.Answer.{Answer}
use Rattle.rules.specs.declared.Ledger.{Ledger}
use Rattle.rules.specs.Asks.{ADVANCE, EXPAND}
use Rattle.rules.specs.Limits.{max_teams}
use Rattle.rules.specs.Count.{unclaimed}
use Rattle.steps.specs.declared.Stepped.{Stepped}
use Rattle.steps.specs.declared.Team.{Team}
use Rattle.steps.specs.Records.{program_of, fresh_team}
use Rattle.steps.specs.Step.{lent_step}
use Rattle.steps.specs.Run.{Run, begun, step_team, run_teams, stopped_teams}
use Rattle.line_rules.specs.Line.{Line, open_line, open_with_line, batch_line, split_line, left_line}

-- "Fields: the header's numbers; batch team node from to; split node left middle; unclaimed count and stopped teams."

-- "the open line prints it": the program's number, where the header has one
abbrev pub is_named : ℕ → Bool
is_named program = not (eqb program 0)

abbrev pub open_by : (start until teams cap nodes : ℤ) → ℕ → Line
open_by start until teams cap nodes program =
    cond
    (is_named program)
    (open_with_line start until teams cap nodes (pos program))
    (open_line start until teams cap nodes)

abbrev pub head_line : Opening → ℕ → Line
head_line o program = open_by o.start o.until o.teams o.cap o.nodes program

-- a request of that kind, which was granted
abbrev pub grants : ℕ → ℕ → Answer → Bool
grants wanted kind a = eqb kind wanted && eqb a.code 0

-- the line of a step of a team, by the kind and node of its request and by the answer, or none
unfoldable pub note_of : ℤ → ℕ → ℕ → Answer → List Line
note_of team kind node a =
    cond (grants ADVANCE kind a) (batch_line team (pos node) (pos a.«from») (pos a.to) ∷ [])
    (cond (grants EXPAND kind a) (split_line (pos node) (pos a.left) (pos a.«from») ∷ [])
    [])

abbrev pub step_line : ℤ → Stepped → List Line
step_line team s = note_of team s.kind s.node s.answer

-- ---- the run: a new ledger, and a fresh record for each team there can be, all of one program

abbrev pub run_from : ℤ → Run → List ℤ → Run
run_from cap u schedule = run_teams cap u schedule

unfoldable pub notes : ℤ → Run → List ℤ → List Line
notes cap u [] = []
notes cap u (team ∷ later) =
    step_line team (lent_step u.ledger team cap u.records) ++ notes cap (step_team cap u team) later

abbrev pub last_line : Run → Line
last_line u = left_line (pos (unclaimed u.ledger)) (pos (stopped_teams u))

abbrev pub run_with : Ledger → List Team → Run
run_with l rs = record { ledger = l; records = rs }

abbrev pub start_of : Opening → ℕ → Run
start_of o program = begun o (replicate max_teams (fresh_team (program_of program)))

abbrev pub end_of : Opening → ℕ → List ℤ → Run
end_of o program schedule = run_from o.cap (start_of o program) schedule

unfoldable pub run_lines : Opening → ℕ → List ℤ → List Line
run_lines o program schedule =
    head_line o program ∷ (notes o.cap (start_of o program) schedule ++ (last_line (end_of o program schedule) ∷ []))
