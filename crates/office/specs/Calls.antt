-- "It must call the ledger directly on bytes that it keeps: opening, the requests and the unclaimed count."
use Rattle.std.specs.Prelude.{ℕ, ◌-◌, Bool, cond, not, ◌||◌, List, [], ◌∷◌, ◌++◌, ltb, eqb, ℤ, pos, negsuc, length, drop}
use Rattle.numbers.specs.Fields.{nat_of}
use Rattle.rules.specs.declared.Opening.{Opening}
use Rattle.rules.specs.declared.Request.{Request}
use Rattle.rules.specs.Count.{unclaimed}
use Rattle.rules.specs.Limits.{opens}
use Rattle.rules.specs.Opening.{ledger_of}
use Rattle.rules.specs.Requests.{requested}
use Rattle.rules.specs.Tests.{◌when◌, first}
use Rattle.layout.specs.Sizes.{answer_size, area_size}
use Rattle.layout.specs.Numbers.{written}
use Rattle.layout.specs.Areas.{decoded, encoded, over, too_short}
use Rattle.office_forms.specs.Codes.{formed_code}
use Rattle.office_views.specs.Answers.{answer_bytes}

-- ---- a request on the area bs, with an answer area of n bytes

-- "37, an area shorter than [..], or an answer area under 24, comes before code 1"
abbrev pub short_areas : List ℕ → ℕ → Bool
short_areas bs n = too_short bs || ltb n answer_size

-- "A request returns its code"
unfoldable pub code_of : List ℕ → ℕ → Request → ℕ
code_of bs n r = first ((37 when short_areas bs n) ∷ []) (requested (decoded bs) r).answer.code

-- "a request on bytes is the request on records"; where 37 or 1 is given, "all areas stay"
unfoldable pub area_after : List ℕ → ℕ → Request → List ℕ
area_after bs n r = cond (short_areas bs n || not (eqb (formed_code bs) 0)) bs (over bs (requested (decoded bs) r).ledger)

-- "at 0 and 16 its answer's six numbers go to a lent area of 24 bytes"
abbrev pub telling : ℕ → Bool
telling code = eqb code 0 || eqb code 16

-- "Refused, all areas stay, save the answer area at 16"
unfoldable pub answer_after : List ℕ → List ℕ → Request → List ℕ
answer_after bs out r =
    cond (telling (code_of bs (length out) r)) (written out 0 (answer_bytes (requested (decoded bs) r).answer)) out

-- ---- the count

-- "The count is returned, refused as minus the code."
unfoldable pub count_of : List ℕ → ℤ
count_of bs = cond (eqb (formed_code bs) 0) (pos (unclaimed (decoded bs))) (negsuc (formed_code bs - 1))

-- ---- opening

abbrev pub opening_of : ℤ → ℤ → ℤ → ℤ → ℤ → Opening
opening_of start until teams cap nodes = record { start = start; until = until; teams = teams; cap = cap; nodes = nodes }

-- "in opening [37] comes after 20, by the nodes number given"
unfoldable pub open_code : List ℕ → Opening → ℕ
open_code bs o = first ((20 when not (opens o)) ∷ (37 when ltb (length bs) (area_size (nat_of o.nodes))) ∷ []) 0

-- a new ledger, and the bytes after its last node as they were
unfoldable pub open_area : List ℕ → Opening → List ℕ
open_area bs o = cond (eqb (open_code bs o) 0) (encoded (ledger_of o) ++ drop (area_size (nat_of o.nodes)) bs) bs
