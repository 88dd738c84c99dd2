use Rattle.std.proofs.Common.{refl, length}
use borrow.Author.Rules.{part_to_end}
use Rattle.text_rules.specs.Answers.{rest_of}
use Rattle.text.proofs.Judging.{refused_rest}
use Rattle.text.proofs.rest.Goals as goal

pub returns-in-Ok : goal.returns-in-Ok
unfolding rest_of
returns-in-Ok c =
    let end = c.in-Ok.ensures.end in
    record { block = refl; offset = rw end; bytes = rw (← end) (part_to_end c.args.text.now c.in-Ok.heading.end) }

pub returns-in-Err : goal.returns-in-Err
unfolding rest_of
returns-in-Err c =
    let end = refused_rest c.args.text.now _ c.in-Err.ensures in
    record { block = refl; offset = rw end; bytes = rw (← end) (part_to_end c.args.text.now (length c.args.text.now)) }
