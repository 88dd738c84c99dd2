-- The header's numbers are the fields of the opening.
use Rattle.std.proofs.Common.{rules}
use Rattle.numbers.proofs.Signed.{told}
use Rattle.lines.proofs.Added.{added-put}
use Rattle.listing.proofs.Writing.{head_five, head_six}
use Rattle.listing.proofs.notes.head.Goals as goal

pub returns-in-None : goal.returns-in-None
returns-in-None c =
    let o = c.args.header.opening in
    let e = head_five o _ c.in-None.is in
    let a = rw (c.wide-start.ensures, c.wide-until.ensures, c.wide-teams.ensures, c.wide-cap.ensures, c.wide-nodes.ensures, told o.start (search rules), told o.until (search rules), told o.teams (search rules), told o.cap (search rules), told o.nodes (search rules)) at c.add_open.ensures in
    rw e at (added-put (rw (← e) at c.requires) a.value a.area_after)

pub returns-in-Some : goal.returns-in-Some
returns-in-Some c =
    let o = c.args.header.opening in
    let e = head_six o _ _ c.in-Some.is c.args.header.named in
    let a = rw (c.wide-start.ensures, c.wide-until.ensures, c.wide-teams.ensures, c.wide-cap.ensures, c.wide-nodes.ensures, c.from.ensures, told o.start (search rules), told o.until (search rules), told o.teams (search rules), told o.cap (search rules), told o.nodes (search rules)) at c.add_open_with.ensures in
    rw e at (added-put (rw (← e) at c.requires) a.value a.area_after)
