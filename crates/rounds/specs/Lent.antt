-- The parts of a step over lent records: where the team's record stands, and the refusal where it stands nowhere.
use Rattle.std.specs.Prelude.{ℕ, cond, not, List, [], ◌∷◌, Result, Ok, Err, ℤ}
use Rattle.numbers.specs.Fields.{within}
use Rattle.rules.specs.declared.Ledger.{Ledger}
use Rattle.rules.specs.declared.refusal.Refusal.{Refusal}
use Rattle.rules.specs.Requests.{refused}
use Rattle.rules.specs.Tests.{Test, ◌when◌}
use Rattle.steps.specs.declared.Team.{Team}
use Rattle.steps.specs.declared.Round.{Round}
use Rattle.steps.specs.Step.{slot_of, too_few, round_of, lent_step, records_after}
use Rattle.rounds.specs.declared.Table.{Table}

-- the slot of a team's record among n lent ones: n where 3 or 18 holds
unfoldable pub slot_in : Ledger → ℤ → ℕ → ℕ
slot_in l number n = cond (within number 1 l.teams) (cond (too_few l n) n (slot_of number)) n

-- what a slot that was sought stands for: n where it was refused
abbrev pub slot_or : ℕ → Result ℕ Refusal → ℕ
slot_or n (Ok at) = at
slot_or n (Err _) = n

-- 3 and 18: the tests that need no look at the table
abbrev pub slot_tests : Ledger → ℤ → ℕ → List Test
slot_tests l number n = (3 when not (within number 1 l.teams)) ∷ (18 when too_few l n) ∷ []

-- a step that is refused by this code
abbrev pub refused_by : ℕ → Ledger → Round
refused_by code l = record { ledger = l; kind = 0; node = 0; answer = refused code }

-- ---- the whole step

unfoldable pub lent_round : Ledger → ℤ → ℤ → List Team → Round
lent_round l number cap rs = round_of (lent_step l number cap rs)

unfoldable pub lent_records : Ledger → ℤ → ℤ → List Team → List Team
lent_records l number cap rs = records_after l number cap rs

unfoldable pub table_step : Ledger → ℤ → ℤ → List Team → Table
table_step l number cap rs = record { round = lent_round l number cap rs; records = lent_records l number cap rs }
