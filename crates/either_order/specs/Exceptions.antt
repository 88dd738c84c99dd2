-- The exceptions: two requests on different nodes whose order matters. A later kind whose order matters is one more of them.
use Rattle.std.specs.Prelude.{ℕ, ◌+◌, ◌*◌, Bool, ◌&&◌, ◌||◌, ltb}
use Rattle.rules.specs.declared.Ledger.{Ledger}
use Rattle.rules.specs.declared.Request.{Request}
use Rattle.rules.specs.Asks.{MARK, EXPAND, PUSH}
use Rattle.rules.specs.Table.{stolen_in}
use Rattle.either_order.specs.Sight.{is_of}

abbrev pub both_are : ℕ → Request → Request → Bool
both_are kind r s = is_of kind r && is_of kind s

abbrev pub either_is : ℕ → Request → Request → Bool
either_is kind r s = is_of kind r || is_of kind s

-- "both are expands": each takes the next pair, so who comes first gets the lower numbers
unfoldable pub both_split : Request → Request → Bool
both_split r s = both_are EXPAND r s

-- "either is a push": it looks at its node's children
unfoldable pub either_pushes : Request → Request → Bool
either_pushes r s = either_is PUSH r s

-- the exceptions that the kinds alone decide
unfoldable pub kinds_matter : Request → Request → Bool
kinds_matter r s = both_split r s || either_pushes r s

-- "room for fewer than two more pairs": nodes − used − 2 × (STOLEN nodes) < 4
unfoldable pub tight : Ledger → Bool
tight l = ltb l.room (l.used + 2 * stolen_in l + 4)

-- "both are marks" and there is not room for both: who comes first has it
unfoldable pub both_need_room : Ledger → Request → Request → Bool
both_need_room l r s = both_are MARK r s && tight l

unfoldable pub order_matters : Ledger → Request → Request → Bool
order_matters l r s = kinds_matter r s || both_need_room l r s
