-- The root has the whole range, and every other slot is unused.
use Rattle.std.proofs.Common.{rules, ◌∙◌}
use Rattle.nodes.proofs.Laws.{natural_held}
use Rattle.nodes.proofs.Makers.{fresh_within}
use Rattle.ledger.proofs.Laws.{opened_made, start_small}
use Rattle.ledger.proofs.opens.opened_by.Goals as goal

pub returns : goal.returns
returns c =
    let o = c.args.o in
    let a = natural_held o.start _ (search rules) c.natural-start.ensures in
    let small = rw a at (start_small o c.requires) in
    opened_made o _ _ _ _ _ _ a (natural_held o.until _ (search rules) c.natural-until.ensures) (natural_held o.teams _ (search rules) c.natural-teams.ensures) (natural_held o.nodes _ (search rules) c.natural-room.ensures) (c.fresh_node.ensures ∙ fresh_within _ _ small) c.blank_table-nodes.ensures
