-- The counts are those of the ledger and the records as they stand.
use Rattle.std.proofs.Common.{◌≡◌, ◌∙◌, arith, rules, length}
use Rattle.rules.specs.Limits.{max_teams}
use Rattle.listing_rules.proofs.Stopped.{stopped_count}
use Rattle.lines.proofs.Added.{added-put}
use Rattle.listing.proofs.Reading.{unclaimed_is}
use Rattle.listing.proofs.run.last.Goals as goal

pub returns : goal.returns
returns c =
    let all : length c.args.teams.now ≡ max_teams = search rules in
    let k = c.unwrap_or-unclaimed.ensures ∙ unclaimed_is c.count.result c.args.book.now c.count.ensures c.requires.1 in
    let s = c.stopped_in-stopped.ensures ∙ stopped_count c.args.teams.now c.args.book.now.teams (omega (arith, c.requires.2)) in
    let a = rw (k, s) at c.add_left.ensures in
    added-put c.requires.0 a.value a.area_after
