-- The header's judgement and the tally decide; only a granted text is written into the area.
use Rattle.std.proofs.lemmas.Result.{err_from_is_err_and}
use Rattle.text.proofs.Judging.{judged_refused, granted_answer, granted_area, refused_answer, refused_area, refused_schedule}
use Rattle.text.proofs.read_schedule.Goals as goal

pub returns-in_err-header-clause-value : goal.returns-in_err-header-clause-value
returns-in_err-header-clause-value c =
    let p = err_from_is_err_and c.from_residual.result c.from_residual.ensures.1 in
    rw (p.1, p.2) (refused_answer c.args.text.now _ _ (refused_schedule c.args.text.now _ _ c.in_err-header.ensures))

pub returns-in_err-header-clause-area_after : goal.returns-in_err-header-clause-area_after
returns-in_err-header-clause-area_after c = refused_area c.args.text.now c.args.area.now _ (refused_schedule c.args.text.now _ _ c.in_err-header.ensures)

pub returns-in_err-count-clause-value : goal.returns-in_err-count-clause-value
returns-in_err-count-clause-value c =
    let p = err_from_is_err_and c.from_residual-in_err-count.result c.from_residual-in_err-count.ensures.1 in
    rw (p.1, p.2) (refused_answer c.args.text.now _ _ (judged_refused c.args.text.now _ _ _ _ c.in_ok-header.ensures _ c.in_err-count.ensures))

pub returns-in_err-count-clause-area_after : goal.returns-in_err-count-clause-area_after
returns-in_err-count-clause-area_after c =
    refused_area c.args.text.now c.args.area.now _ (judged_refused c.args.text.now _ _ _ _ c.in_ok-header.ensures _ c.in_err-count.ensures)

pub returns-clause-value : goal.returns-clause-value
returns-clause-value c = granted_answer c.args.text.now _ _ _ _ c.in_ok-header.ensures _ c.in_ok-count.ensures

pub returns-clause-area_after : goal.returns-clause-area_after
returns-clause-area_after c =
    rw c.copy_from_slice.ensures.after (granted_area c.args.text.now c.args.area.now _ _ _ c.in_ok-header.ensures _ c.in_ok-count.ensures)
