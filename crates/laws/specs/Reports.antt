-- W3: what a pushed root holds, and that what is reported is final. `proofs/Reports.antt` proves it.
use Rattle.std.specs.Prelude.{ℕ, ◌+◌, ◌≤◌, ◌≡◌, ◌≢◌, cond, List, [], ◌∷◌, eqb}
use Rattle.rules.specs.declared.Ledger.{Ledger}
use Rattle.rules.specs.declared.Node.{Node}
use Rattle.rules.specs.declared.Opening.{Opening}
use Rattle.rules.specs.declared.Request.{Request}
use Rattle.rules.specs.Count.{unclaimed}
use Rattle.rules.specs.Joining.{join_all}
use Rattle.rules.specs.Nodes.{UNREPORTED, PUSHED}
use Rattle.rules.specs.Opening.{opening}
use Rattle.rules.specs.Table.{InUse, at}
use Rattle.rules.specs.WellFormed.{Sound}
use Rattle.laws.specs.Listing.{after_all, reached}
use Rattle.laws.specs.Story.{Entry, given, found, whole, told_all, reports_in, entries}

-- how many of the entries are reports of node n
unfoldable pub times_found : ℕ → List Entry → ℕ
times_found n [] = 0
times_found n (given b ∷ es) = times_found n es
times_found n (found q ∷ es) = cond (eqb q.node n) 1 0 + times_found n es

-- the root of what the requests rs make of the new ledger l holds the reports of that run
pub record HoldsReports (l : Ledger) (rs : List Request) : Type 0 where
  -- all of them, joined in the order of demand 3: own, left, right
  pub joined : (at (after_all l rs) 1).joined ≡ join_all (reports_in (told_all l (whole 1 []) rs))
  -- every node that has sheets was reported exactly once
  pub each : (n : ℕ) → InUse (after_all l rs) n → (at (after_all l rs) n).start ≢ (at (after_all l rs) n).until
      → times_found n (entries l rs) ≡ 1
  -- and nothing is unclaimed
  pub claimed : unclaimed (after_all l rs) ≡ 0

-- "Show that a pushed root holds each report once, joined in the order of demand 3." That the story has each granted report once is
-- `StoryHasAll`.
abbrev pub PushedRootHoldsEveryReport : Type 0
PushedRootHoldsEveryReport =
    (o : Opening) (rs : List Request) → (opening o).code ≡ 0 → (at (reached o rs) 1).stage ≡ PUSHED
    → HoldsReports (opening o).ledger rs

-- what is reported of a node x is so of y
pub record ReportStays (x y : Node) : Type 0 where
  pub stage : x.stage ≤ y.stage
  pub own : x.stage ≢ UNREPORTED → y.own ≡ x.own
  pub pushed : x.stage ≡ PUSHED → (y.stage ≡ PUSHED) × (y.joined ≡ x.joined)

-- A report is never lost or changed, and a pushed node keeps its stage and both results, whatever follows.
abbrev pub ReportsAreFinal : Type 0
ReportsAreFinal = (l : Ledger) (rs : List Request) (n : ℕ) → Sound l → InUse l n → ReportStays (at l n) (at (after_all l rs) n)
