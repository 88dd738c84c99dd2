-- The worked examples, computed; a run to its end, so that what is said of runs in which every team has stopped is said of some; and a step
-- that lends too few records.
use mathlib.Core.Path.{◌≡◌, refl}
use mathlib.Core.List.{List, [], ◌∷◌}
use lib.IntN.{ℤ, pos}
use Rattle.rules.specs.declared.Opening.{Opening}
use Rattle.rules.specs.Joining.{same_finds}
use Rattle.rules.specs.Limits.{opens}
use Rattle.rules.specs.Opening.{opened}
use Rattle.rules.specs.Refusals.{own_code, advance_code, kind_code, refusal}
use Rattle.rules.specs.Requests.{owning, batch_end, advancing, looking, granted, decided, view, changed, answered, requested}
use Rattle.rules.specs.States.{state_of, stolen_of}
use Rattle.rules.specs.Table.{at, put, next_pair, grown, sum_by, stolen_in}
use Rattle.rules.specs.WellFormed.{up_to, alone_rule, child_rule, node_rule, left_is, pair_rule, unused_rule, stage_rule, well_formed}
use Rattle.steps.specs.Records.{fresh_team}
use Rattle.steps.specs.declared.Program.TheVariants.{Scan, Greatest}
use Rattle.steps.specs.Places.{search_by, seek_moves, mark_moves, take_moves, work_moves, claim_moves, split_moves, chosen, greatest_seek, greatest_mark}
use Rattle.steps.specs.Examples.{RightRequests, RightMoves, RightSearches, RightPrograms, RightOrder, RightLimits}
use Rattle.steps.specs.Run.{begun, step_team, run_steps, run_teams, stopped_to, stopped_teams}
use Rattle.steps.specs.Step.{step_from, lent_code, step_unless, lent_step, records_after}

pub right_requests : RightRequests
right_requests = refl

pub right_moves : RightMoves
unfolding search_by seek_moves mark_moves take_moves work_moves claim_moves split_moves
right_moves = refl

pub right_searches : RightSearches
unfolding search_by greatest_seek greatest_mark chosen take_moves work_moves split_moves
right_searches = refl

pub right_programs : RightPrograms
right_programs = refl

pub right_order : RightOrder
right_order l number cap rs r = (refl, refl)

pub right_limits : RightLimits
right_limits = (refl, refl, refl)

-- one sheet, one team
abbrev small : Opening
small = record { start = pos 0; until = pos 1; teams = pos 1; cap = pos 1; nodes = pos 1 }

-- seek, take, work, claim, work, seek twice: then there is no node, and the team stops
abbrev seven : List ℤ
seven = pos 1 ∷ pos 1 ∷ pos 1 ∷ pos 1 ∷ pos 1 ∷ pos 1 ∷ pos 1 ∷ []

ends : stopped_teams (run_teams (pos 1) (begun small (fresh_team Scan ∷ [])) seven) ≡ 1
unfolding run_steps step_team lent_step records_after lent_code step_unless step_from search_by requested answered changed view decided granted looking owning advancing batch_end refusal kind_code own_code advance_code state_of stolen_of at put next_pair grown sum_by stolen_in up_to alone_rule child_rule node_rule left_is pair_rule unused_rule stage_rule same_finds well_formed opens opened seek_moves take_moves work_moves claim_moves stopped_to
ends = refl

-- by program 2: two looks, take, work, claim, work, two looks
abbrev eight : List ℤ
eight = pos 1 ∷ seven

greatest_ends : stopped_teams (run_teams (pos 1) (begun small (fresh_team Greatest ∷ [])) eight) ≡ 1
unfolding run_steps step_team lent_step records_after lent_code step_unless step_from search_by requested answered changed view decided granted looking owning advancing batch_end refusal kind_code own_code advance_code state_of stolen_of at put next_pair grown sum_by stolen_in up_to alone_rule child_rule node_rule left_is pair_rule unused_rule stage_rule same_finds well_formed opens opened greatest_seek chosen take_moves work_moves claim_moves stopped_to
greatest_ends = refl

too_few : lent_code (begun small []).ledger (pos 1) (pos 1) [] ≡ 18
unfolding lent_code state_of stolen_of at sum_by stolen_in up_to alone_rule child_rule node_rule left_is pair_rule unused_rule stage_rule same_finds well_formed opens opened
too_few = refl
