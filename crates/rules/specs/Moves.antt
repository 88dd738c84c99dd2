-- "Moves are a fixed table of five states by five requests: own takes 1 to 2; advance takes 2 to 2 or 3; mark takes 2 to 4;
-- expand takes 4 to 5; the other twenty-one entries are 'no move'."
use Rattle.std.specs.Prelude.{ℕ, ◌+◌, ◌^◌, Bool, false, cond, ◌&&◌, ◌||◌, List, [], ◌∷◌, eqb}
use Rattle.rules.specs.Asks.{OWN, ADVANCE, MARK, EXPAND, LOOK}
use Rattle.rules.specs.States.{AVAILABLE, OWNED, COMPLETED, STOLEN, EXPANDED}

-- the table's states and its kinds of requests are 1 to 5
abbrev pub last_state : ℕ
last_state = EXPANDED

abbrev pub last_mover : ℕ
last_mover = LOOK

-- a request of a kind takes a node from a state to a state
pub record Move : Type 0 where
  pub kind : ℕ
  pub before : ℕ
  pub after : ℕ

abbrev pub takes : ℕ → ℕ → ℕ → Move
takes kind s t = record { kind = kind; before = s; after = t }

-- the table, without the entries that have no move
abbrev pub table : List Move
table =
    takes OWN AVAILABLE OWNED
    ∷ takes ADVANCE OWNED OWNED
    ∷ takes ADVANCE OWNED COMPLETED
    ∷ takes MARK OWNED STOLEN
    ∷ takes EXPAND STOLEN EXPANDED
    ∷ []

-- where the moves of an entry lead
unfoldable pub entry_in : List Move → ℕ → ℕ → List ℕ
entry_in [] state kind = []
entry_in (m ∷ ms) state kind =
    cond (eqb m.before state && eqb m.kind kind) (m.after ∷ entry_in ms state kind) (entry_in ms state kind)

-- the states to which a request of a kind may take a node that is in a state
unfoldable pub leads : ℕ → ℕ → List ℕ
leads state kind = entry_in table state kind

-- the state is one of those
unfoldable pub is_in : ℕ → List ℕ → Bool
is_in s [] = false
is_in s (t ∷ ts) = eqb s t || is_in s ts

-- a set of states as a number: 2 to the power of each
unfoldable pub as_number : List ℕ → ℕ
as_number [] = 0
as_number (s ∷ ss) = 2 ^ s + as_number ss
