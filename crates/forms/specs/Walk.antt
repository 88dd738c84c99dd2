-- What a walk over a table finds, and the rules that it tests by parts.
use Rattle.std.specs.Prelude.{ℕ, ◌+◌, ◌/◌, ◌%◌, Bool, cond, not, ◌&&◌, ◌||◌, List, Option, Some, None, eqb, get_or}
use Rattle.rules.specs.declared.Node.{Node}
use Rattle.rules.specs.declared.Ledger.{Ledger}
use Rattle.rules.specs.Table.{at, stolen_in}
use Rattle.rules.specs.WellFormed.{child_rule, stage_rule, well_formed}

-- the rules of node n, which is x, that look at its children
abbrev pub family_rule : Ledger → ℕ → ℕ → Node → Bool
family_rule l used n x =
    let a = at l x.left in
    let b = at l (x.left + 1) in
    child_rule n used x a b && stage_rule x a b

-- the rule of pairs by a list of counts, in which an even number n stands at n / 2
abbrev pub even_once : List ℕ → ℕ → Bool
even_once seen n = not (eqb (n % 2) 0) || eqb (get_or seen (n / 2) 0) 1

-- the count of STOLEN nodes of a well-formed ledger; of any other, none
abbrev pub formed_stolen : Ledger → Option ℕ
formed_stolen l = cond (well_formed l) (Some (stolen_in l)) None
