-- Demand 3, every sheet exactly once, as a statement over the listing. `proofs/Sheets.antt` proves it.
use Rattle.std.specs.Prelude.{◌≡◌, List, ℕ}
use Rattle.numbers.specs.Fields.{nat_of}
use Rattle.rules.specs.declared.Ledger.{Ledger}
use Rattle.rules.specs.declared.Opening.{Opening}
use Rattle.rules.specs.declared.Request.{Request}
use Rattle.laws.specs.Listing.{sheets, reached, Batch, batches, Lists, ListsOnly}
use Rattle.rules.specs.Opening.{opening}

-- A node has one listing.
abbrev pub OneListing : Type 0
OneListing =
    (l : Ledger) (bs : List Batch) (n : ℕ) (xs ys : List ℕ) → Lists l bs n xs → Lists l bs n ys → xs ≡ ys

-- After any list of requests on a new ledger, refused ones included, the root lists the ledger's range: every sheet once, ascending.
abbrev pub EverySheetOnce : Type 0
EverySheetOnce =
    (o : Opening) (rs : List Request) → (opening o).code ≡ 0
    → ListsOnly (reached o rs) (batches (opening o).ledger rs) 1 (sheets (nat_of o.start) (nat_of o.until))
