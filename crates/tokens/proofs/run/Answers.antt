-- The byte at the place goes on with the run, or the run ends there.
use Rattle.std.proofs.Common.{◌≡◌, sym, ◌∙◌, true, get_or}
use native.Mathlib.Omega.{arith}
use Rattle.std.proofs.lemmas.List.Sums.{prefix_len-drop_no}
use Rattle.text_rules.specs.Bytes.{is_numeral}
use Rattle.tokens.proofs.Running.{runs_small, runs_large, runs_out, runs_through}
use Rattle.tokens.proofs.run.Goals as goal
use Rattle.tokens.proofs.run.Goals.{then-value-from, else-value-from}

pub loop-i-preserved : goal.loop-i-preserved
loop-i-preserved c =
    let l = c.loop-i in
    let digit : is_numeral (get_or c.args.bytes.now l.i 0) ≡ true = sym c.is_ascii_digit.ensures.value ∙ c.if-not-is_ascii_digit.false in
    elim c.if-value-from.branch [
      | then-value-from w ↦ rw (w.value-is, w.from-then-value-from.ensures) (runs_small c.args.bytes.now l.i l.value l.invariant c.loop-i-test.true digit (omega (arith, w.if-value-from.true, c.from.ensures)))
      | else-value-from w ↦ rw w.value-is (runs_large c.args.bytes.now l.i l.value l.invariant c.loop-i-test.true digit (omega (arith, w.if-value-from.false, c.from.ensures)))
    ]

pub returns-then-not-is_ascii_digit : goal.returns-then-not-is_ascii_digit
returns-then-not-is_ascii_digit c =
    let l = c.loop-i in
    runs_out c.args.bytes.now l.i l.value l.invariant
    (prefix_len-drop_no is_numeral c.args.bytes.now l.i 0 c.loop-i-test.true (sym c.is_ascii_digit.ensures.value ∙ c.if-not-is_ascii_digit.true))

pub returns : goal.returns
returns c =
    let l = c.loop-i in
    runs_through c.args.bytes.now l.i l.value l.invariant c.loop-i-test.false
