-- A granted request stores within the table.
use Rattle.std.proofs.Common.{rules}
use Rattle.nodes.proofs.Laws.{natural_held}
use Rattle.ledger.proofs.Slots.{request_stores}
use Rattle.ledger.proofs.request.Goals as goal

pub change-requires : goal.change-requires
change-requires c =
    request_stores c.args.l c.args.r
    (record { sized = search rules; formed = cc c.if-not-well_formed.ensures })
    (natural_held c.args.r.node _ (search rules) c.natural-n.ensures)
    c.view_of.ensures
    c.decide-o.ensures
