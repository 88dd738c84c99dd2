-- The code and the line are as wide as a line's numbers, and the line goes no further than the largest signed number.
use Rattle.lines.proofs.Added.{added-put}
use Rattle.listing.proofs.Reading.{signed_code}
use Rattle.listing.proofs.notes.refusal.Goals as goal

pub returns : goal.returns
returns c =
    let a = rw (c.from.ensures, c.from-2.ensures, c.code.ensures, c.min-line.ensures, ← signed_code c.args.e.refusal) at c.add_refused.ensures in
    added-put c.requires a.value a.area_after
