-- The numbers are tested, and the left line is added at the start of the area.
use Rattle.std.proofs.lemmas.Result.{err_from_is_err_and}
use Rattle.numbers.proofs.Signed.{held}
use Rattle.line_rules.specs.Line.{left_line, word_of, parts_of, whole, spaced, any_negative}
use Rattle.lines.proofs.Added.{told_negative, answers}
use Rattle.lines.proofs.left_line.Goals as goal

pub returns-in_err-count : goal.returns-in_err-count
unfolding any_negative
returns-in_err-count c =
    let s = c.args in
    let l = left_line s.count s.stopped in
    let n = c.in_err-count.ensures in
    let some = rw (held _ c.ranges.count, held _ c.ranges.stopped) at n.0 in
    let p = err_from_is_err_and c.from_residual.result c.from_residual.ensures.1 in
    let e = told_negative (word_of l) (parts_of l) s.area.now some (rw (p.1, p.2, n.1)) in
    record { value = e.answered; area_after = e.left }

pub returns : goal.returns
unfolding any_negative whole spaced
returns c =
    let s = c.args in
    let l = left_line s.count s.stopped in
    let n = c.in_ok-count.ensures in
    let none = rw (held _ c.ranges.count, held _ c.ranges.stopped) at n.0 in
    let value = rw (n.1, held _ c.ranges.count, held _ c.ranges.stopped) at c.left.ensures.value in
    let area = rw (n.1, held _ c.ranges.count, held _ c.ranges.stopped) at c.left.ensures.area_after in
    let e = answers (word_of l) (parts_of l) s.area.now none value area c.ok_or.ensures.value in
    record { value = e.answered; area_after = e.left }
