-- "37 [..] comes before code 1": what an area is refused with before any request is looked at, 0 where it is not.
use Rattle.std.specs.Prelude.{ℕ, List, [], ◌∷◌, cond, not, eqb}
use Rattle.rules.specs.Table.{stolen_in}
use Rattle.rules.specs.Tests.{◌when◌, first}
use Rattle.rules.specs.WellFormed.{well_formed}
use Rattle.layout.specs.Areas.{decoded, too_short}

unfoldable pub formed_code : List ℕ → ℕ
formed_code bs = first ((37 when too_short bs) ∷ (1 when not (well_formed (decoded bs))) ∷ []) 0

-- the same with the count of STOLEN nodes, 0 where it is refused
pub record Judged : Type 0 where
  pub code : ℕ
  pub stolen : ℕ

unfoldable pub judged_of : List ℕ → Judged
judged_of bs = record { code = formed_code bs; stolen = cond (eqb (formed_code bs) 0) (stolen_in (decoded bs)) 0 }
