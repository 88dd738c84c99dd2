-- Where a change of node n stores, and what: slots of the ledger's own room, and numbers within the limits. The code tests none of it.
use Rattle.std.specs.Prelude.{ℕ, ◌+◌, ◌≤◌, ◌≡◌}
use Rattle.rules.specs.declared.Ledger.{Ledger}
use Rattle.rules.specs.declared.Finds.{Finds}
use Rattle.rules.specs.declared.Change.{Change}
use Rattle.rules.specs.declared.Change.TheVariants.{Keep, Own, Advance, Mark, Split, Report, Push}
use Rattle.rules.specs.Limits.{max_until}
use Rattle.rules.specs.Nodes.{middle, joined_of}
use Rattle.rules.specs.Table.{at}
use Rattle.finds.specs.Held.{most_held}
use Rattle.nodes.specs.Makers.{held_pushed}

-- node n stands in a slot of the room
abbrev pub Roomed : Ledger → ℕ → Type 0
Roomed l n = (1 ≤ n) × (n ≤ l.room)

abbrev pub Inside : Ledger → ℕ → Change → Type 0
Inside l n Keep = Unit {0}
Inside l n (Own team) = Roomed l n
Inside l n (Advance p) = Roomed l n × (p ≤ max_until)
Inside l n (Mark p) = Roomed l n × (p ≤ max_until)
Inside l n (Split c) = Roomed l n × Roomed l c × Roomed l (c + 1) × (l.used + 1 ≡ c) × (middle (at l n) ≤ max_until)
Inside l n (Report f) = Roomed l n
Inside l n Push = Roomed l n × ((joined_of (at l n) (at l (at l n).left) (at l ((at l n).left + 1))).count ≤ most_held)

-- the joined result that a push gives node n
abbrev pub push_gives : Ledger → ℕ → Finds
push_gives l n = (held_pushed (at l n) (at l (at l n).left) (at l ((at l n).left + 1))).joined
