use Rattle.std.proofs.lemmas.Result.{err_from_is_err_and}
use Rattle.text.proofs.Judging.{refused_header, granted_header}
use Rattle.text.proofs.read_header.Goals as goal

pub returns-in_err-heading : goal.returns-in_err-heading
returns-in_err-heading c =
    let p = err_from_is_err_and c.from_residual.result c.from_residual.ensures.1 in
    rw (p.1, p.2) (refused_header c.args.text.now _ c.in_err-heading.ensures)

pub returns : goal.returns
returns c = granted_header c.args.text.now _ _ _ c.in_ok-heading.ensures
