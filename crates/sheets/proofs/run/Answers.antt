-- What was read is the input's front, and its listing is written.
use Rattle.std.proofs.Common.{rules}
use Rattle.std.proofs.lemmas.Result.{on_ok_weaker}
use Rattle.std.specs.Io.KnownBytes.{Appends}
use Rattle.listing_rules.specs.Listing.{listing_of}
use Rattle.sheets.proofs.Bytes.{of_input, at_ok, still_ok}
use Rattle.sheets.proofs.run.Goals as goal

pub returns-clause-lists : goal.returns-clause-lists
returns-clause-lists g c =
    let r = c.read_all.result in
    let later = c.map_err.result in
    let m = c.map_err.ensures in
    let read = c.read_all.ensures in
    let n = c.in_ok-n.n in
    let within = at_ok r later _ _ n m.cases m.variant c.in_ok-n.was read.bound in
    let bytes = at_ok r later _ _ n m.cases m.variant c.in_ok-n.was read.bytes in
    let end = at_ok r later _ _ n m.cases m.variant c.in_ok-n.was read.end in
    still_ok c.play.result c.map_err-2.result _ c.map_err-2.ensures.variant
    (on_ok_weaker c.play.result
    (of_input _ _ c.read_all.new.area n 65536 (λ l. Appends (g.W.Write.contents c.args.output.now) (g.W.Write.contents c.play.new.output) (listing_of l))
    (search rules) within.0 bytes end)
    c.play.ensures)
