-- Whether there is room is tested first: with room the listing is written, and without it nothing is.
use Rattle.std.proofs.Common.{sym, ◌∙◌}
use Rattle.listing_rules.specs.Lent.{answer_to, out_after, schedule_after}
use Rattle.listing.proofs.list.Goals as goal

pub returns-then-not-has_room : goal.returns-then-not-has_room
unfolding answer_to out_after schedule_after
returns-then-not-has_room c =
    let e = sym c.has_room.ensures ∙ c.if-not-has_room.true in
    record { value = rw e; out_after = rw e; schedule_after = rw e }

pub returns : goal.returns
unfolding answer_to out_after schedule_after
returns c =
    let e = sym c.has_room.ensures ∙ c.if-not-has_room.false in
    record { value = rw (e, c.write.ensures.value); out_after = rw e c.write.ensures.out_after; schedule_after = rw e c.write.ensures.schedule_after }
