-- The first test passes for a kind that was read.
use Rattle.std.proofs.Common.{arith}
use Rattle.std.proofs.lemmas.Grind.{common_steps}
use Rattle.rules.specs.Refusals.{refusal}
use Rattle.refusals.proofs.Known.{within_kinds}
use Rattle.refusals.proofs.judge.Goals as goal

pub returns-then-not-in_range-clause-code : goal.returns-then-not-in_range-clause-code
unfolding refusal
returns-then-not-in_range-clause-code c = grind (arith, common_steps, within_kinds _ _ c.in-Ok.ensures)

pub returns-then-not-in_range-2-clause-code : goal.returns-then-not-in_range-2-clause-code
unfolding refusal
returns-then-not-in_range-2-clause-code c = grind (arith, common_steps, within_kinds _ _ c.in-Ok.ensures)

pub returns-in_err-kind_tests-clause-code : goal.returns-in_err-kind_tests-clause-code
unfolding refusal
returns-in_err-kind_tests-clause-code c = grind (arith, common_steps, within_kinds _ _ c.in-Ok.ensures)

pub returns-clause-code : goal.returns-clause-code
unfolding refusal
returns-clause-code c = grind (arith, common_steps, within_kinds _ _ c.in-Ok.ensures)
