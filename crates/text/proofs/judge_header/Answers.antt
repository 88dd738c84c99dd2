-- The passes give what the definitions speak of, and the tests are theirs.
use Rattle.std.proofs.Common.{◌≡◌, length, sym, ◌∙◌, rules, w32}
use mir.Val.{to_z, of_z}
use Rattle.std.proofs.lemmas.Result.{err_from_is_err_and}
use Rattle.numbers.specs.Fields.{nat_of}
use Rattle.text_rules.specs.Marks.{marks}
use Rattle.text.proofs.Judging.{long_verdict, faulty_row, faulty_body, other_count, outside, found_heading}
use Rattle.text.proofs.judge_header.Goals as goal

pub returns-then-text-gt-BYTES : goal.returns-then-text-gt-BYTES
returns-then-text-gt-BYTES c =
    rw c.refused.ensures (long_verdict (length c.args.text.now) (marks c.args.text.now) c.if-text-gt-BYTES.true)

pub returns-in_err-row : goal.returns-in_err-row
returns-in_err-row c =
    let p = err_from_is_err_and c.from_residual-in_err-row.result c.from_residual-in_err-row.ensures.1 in
    rw (p.1, p.2) (faulty_row c.args.text.now c.if-text-gt-BYTES.false _ c.in_ok-head.ensures _ c.in_err-row.ensures)

pub returns-in_err-tally : goal.returns-in_err-tally
returns-in_err-tally c =
    let p = err_from_is_err_and c.from_residual-in_err-tally.result c.from_residual-in_err-tally.ensures.1 in
    rw (p.1, p.2) (faulty_body c.args.text.now c.if-text-gt-BYTES.false _ c.in_ok-head.ensures _ c.in_ok-row.ensures _ c.in_err-tally.ensures)

pub returns-then-not-is_header : goal.returns-then-not-is_header
returns-then-not-is_header c =
    rw c.refused-then-not-is_header.ensures
    (other_count c.args.text.now c.if-text-gt-BYTES.false _ c.in_ok-head.ensures _ c.in_ok-row.ensures _ _ _ _ c.in_ok-tally.ensures (sym c.if-not-is_header.ensures))

pub returns-then-not-is_good : goal.returns-then-not-is_good
returns-then-not-is_good c =
    rw c.refused-then-not-is_good.ensures
    (outside c.args.text.now c.if-text-gt-BYTES.false _ c.in_ok-head.ensures _ c.in_ok-row.ensures _ _ _ _ c.in_ok-tally.ensures _ _ c.opening-opening.ensures c.program-program.ensures (sym c.if-not-is_header.ensures) (sym c.if-not-is_good.ensures))

pub returns : goal.returns
returns c =
    let held : to_z w32 (of_z w32 c.opening-opening.result.teams) ≡ c.opening-opening.result.teams = search rules in
    let teams : c.natural.result ≡ nat_of c.opening-opening.result.teams = c.natural.ensures ∙ rw held in
    found_heading c.args.text.now c.if-text-gt-BYTES.false _ c.in_ok-head.ensures _ c.in_ok-row.ensures _ _ _ _ c.in_ok-tally.ensures _ _ _ c.opening-opening.ensures c.program-program.ensures teams (sym c.if-not-is_header.ensures) (sym c.if-not-is_good.ensures)
