-- What a listing says was granted, and what its run asked: so that all that is proved of requests holds of what is printed.
use Rattle.std.specs.Prelude.{cond, List, [], ◌∷◌, ◌++◌, ℤ}
use Rattle.numbers.specs.Fields.{nat_of}
use Rattle.rules.specs.declared.Request.{Request}
use Rattle.laws.specs.Listing.{Batch}
use Rattle.steps.specs.Records.{is_stopped}
use Rattle.steps.specs.Step.{record_of}
use Rattle.steps.specs.Turn.{asks}
use Rattle.steps.specs.Run.{Run, step_team}
use Rattle.line_rules.specs.Line.{Line, open_line, open_with_line, batch_line, split_line, left_line, refused_line}

-- the batch that a line tells of
abbrev pub claim_in : Line → List Batch
claim_in (open_line start until teams cap nodes) = []
claim_in (open_with_line start until teams cap nodes program) = []
claim_in (batch_line team node from to) = record { team = nat_of team; node = nat_of node; «from» = nat_of from; to = nat_of to } ∷ []
claim_in (split_line node left middle) = []
claim_in (left_line count stopped) = []
claim_in (refused_line code line) = []

-- all of them, the newest first
unfoldable pub claims_in : List Line → List Batch
claims_in [] = []
claims_in (l ∷ ls) = claims_in ls ++ claim_in l

-- the request that a step of a team makes, or none
abbrev pub asks_in : Run → ℤ → List Request
asks_in u team =
    cond (is_stopped (record_of u.records team).place) [] (asks (nat_of team) (record_of u.records team) ∷ [])

-- the requests of a run, in their order
unfoldable pub asked : ℤ → Run → List ℤ → List Request
asked cap u [] = []
asked cap u (team ∷ later) = asks_in u team ++ asked cap (step_team cap u team) later
