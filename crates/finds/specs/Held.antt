-- The joined result as 32 bits hold it: a count past them is no count of a ledger, and the largest stands in for it. Within them it is the
-- rules' joined result.
use Rattle.std.specs.Prelude.{ℕ, ◌≤◌, min, ◌≡◌, [], ◌∷◌}
use Rattle.rules.specs.declared.Finds.{Finds}
use Rattle.rules.specs.Joining.{finds, none, join_all}

-- the largest number of 32 bits
abbrev pub most_held : ℕ
most_held = 4294967295

unfoldable pub held_join : Finds → Finds → Finds → Finds
held_join own left right =
    let f = join_all (own ∷ left ∷ right ∷ []) in
    finds (min f.count most_held) f.first f.last

abbrev pub JoinWithin : Type 0
JoinWithin =
    (own left right : Finds) → (join_all (own ∷ left ∷ right ∷ [])).count ≤ most_held
    → held_join own left right ≡ join_all (own ∷ left ∷ right ∷ [])

-- Nothing joined twice to a result is the result by itself.
abbrev pub NoneAfter : Type 0
NoneAfter = (own : Finds) → join_all (own ∷ none ∷ none ∷ []) ≡ join_all (own ∷ [])
