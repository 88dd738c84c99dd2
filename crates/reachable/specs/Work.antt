-- What is asked of one node n until it is the node x, in the order in which it is asked: its owner works on it, another team steals the rest,
-- somebody splits it, its owner reports, somebody pushes.
use Rattle.std.specs.Prelude.{ℕ, Bool, cond, not, ◌&&◌, ◌||◌, List, [], ◌∷◌, eqb, pos}
use Rattle.rules.specs.declared.Node.{Node}
use Rattle.rules.specs.declared.Request.{Request}
use Rattle.rules.specs.Asks.{own, mark, expand, report, push}
use Rattle.rules.specs.Nodes.{UNREPORTED, marked, unowned, childless, position_of}
use Rattle.rules.specs.States.{is_pushed}
use Rattle.reachable.specs.Batches.{batch_count, claims}

-- the owner takes the node, and claims its sheets up to the position
unfoldable pub works : ℕ → Node → List Request
works n x =
    cond
    (unowned x)
    []
    (own x.owner n ∷ claims (batch_count x.start (position_of x)) x.owner n x.start (position_of x))

-- a team other than t: a ledger with a marked node has two
unfoldable pub other_than : ℕ → ℕ
other_than t = cond (eqb t 1) 2 1

-- another team steals what is left
unfoldable pub steals : ℕ → Node → List Request
steals n x = mark (other_than x.owner) n (pos (position_of x)) ∷ []

-- any team may split, and any may push
abbrev pub any_team : ℕ
any_team = 1

abbrev pub splits : ℕ → List Request
splits n = expand any_team n ∷ []

-- ---- what is asked of a node only where x shows it

abbrev pub is_empty : Node → Bool
is_empty x = eqb x.start x.until

-- a report stands, and somebody made it: of an empty node nobody reports
unfoldable pub has_report : Node → Bool
has_report x = not (eqb x.stage UNREPORTED || is_empty x)

-- somebody pushed it: an empty node is made pushed
unfoldable pub was_pushed : Node → Bool
was_pushed x = is_pushed x && not (is_empty x)

unfoldable pub works_leaf : ℕ → Node → List Request
works_leaf n x = cond (childless x) (works n x) []

unfoldable pub steals_leaf : ℕ → Node → List Request
steals_leaf n x = cond (marked x && childless x) (steals n x) []

unfoldable pub reports : ℕ → Node → List Request
reports n x = cond (has_report x) (report x.owner n x.own.count x.own.first x.own.last ∷ []) []

unfoldable pub pushes : ℕ → Node → List Request
pushes n x = cond (was_pushed x) (push any_team n ∷ []) []
