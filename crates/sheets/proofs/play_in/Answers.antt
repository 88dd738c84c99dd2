-- In areas that are enough the listing is whole.
use Rattle.std.proofs.Common.{arith}
use Rattle.sheets.proofs.Areas.{repeat_length}
use Rattle.sheets.proofs.Bytes.{appended, listed}
use Rattle.sheets.proofs.play_in.Goals as goal

pub whole_as_slice-print_listing-2 : goal.whole_as_slice-print_listing-2
whole_as_slice-print_listing-2 g c = omega (arith, c.requires.fits)

pub returns : goal.returns
returns g c =
    appended c.print_listing.result (g.W.Write.contents c.args.output.now) (g.W.Write.contents c.print_listing.new.output) _ _
    (listed _ _ _ c.args.text.now _ (repeat_length _ _ _) (repeat_length _ _ _) c.requires)
    c.print_listing.ensures
