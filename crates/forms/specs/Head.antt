-- The five numbers of a ledger, of which the rules over a ledger's numbers tell.
use Rattle.std.specs.Prelude.{[]}
use Rattle.rules.specs.declared.Ledger.{Ledger}
use Rattle.forms.specs.declared.head.Head.{Head}

-- a ledger with these numbers: the rules over its numbers look at nothing else
abbrev pub headed : Head → Ledger
headed h = record { start = h.start; until = h.until; teams = h.teams; room = h.room; used = h.used; nodes = [] }

-- the numbers of a ledger
abbrev pub head_of : Ledger → Head
head_of l = record { start = l.start; until = l.until; teams = l.teams; room = l.room; used = l.used }
