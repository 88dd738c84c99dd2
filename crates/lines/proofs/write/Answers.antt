-- The numbers are tested, and the line is added at the start of the area.
use Rattle.std.proofs.Common.{◌∙◌, map}
use Rattle.std.proofs.lemmas.Result.{err_from_is_err_and}
use Rattle.line_rules.specs.Line.{number}
use Rattle.lines.proofs.Added.{told_negative, answers}
use Rattle.lines.proofs.Ending.{any_signed, line_signed}
use Rattle.lines.proofs.write.Goals as goal

pub returns-in_err-numbers : goal.returns-in_err-numbers
returns-in_err-numbers N c =
    let s = c.args in
    let zs = s.numbers.now in
    let n = c.in_err-numbers.ensures in
    let p = err_from_is_err_and c.from_residual.result c.from_residual.ensures.1 in
    let e = told_negative s.word.now (map number zs) s.area.now (any_signed zs ∙ n.0) (rw (p.1, p.2, n.1)) in
    record { value = e.answered; area_after = e.left }

pub returns : goal.returns
returns N c =
    let s = c.args in
    let zs = s.numbers.now in
    let n = c.in_ok-numbers.ensures in
    let value = rw (n.1, line_signed s.word.now zs) at c.add.ensures.value in
    let area = rw (n.1, line_signed s.word.now zs) at c.add.ensures.area_after in
    let e = answers s.word.now (map number zs) s.area.now (any_signed zs ∙ n.0) value area c.ok_or.ensures.value in
    record { value = e.answered; area_after = e.left }
