-- A step as its code takes it, for any record at all: what is asked and where the answer sends the team are clipped as the places clip them.
-- Within the limits it is the definitions' step: `UnclippedTurn`, and the contract of `step`.
use Rattle.std.specs.Prelude.{◌≡◌, ℕ, ◌≤◌, cond, eqb}
use Rattle.numbers.specs.Fields.{nat_of}
use Rattle.rules.specs.declared.Ledger.{Ledger}
use Rattle.rules.specs.declared.Request.{Request}
use Rattle.rules.specs.declared.Answer.{Answer}
use Rattle.rules.specs.declared.View.{View}
use Rattle.rules.specs.declared.Change.{Change}
use Rattle.rules.specs.declared.Change.TheVariants.{Keep}
use Rattle.rules.specs.Requests.{node_in, decided, requested}
use Rattle.steps.specs.declared.Team.{Team}
use Rattle.steps.specs.declared.Turned.{Turned}
use Rattle.steps.specs.declared.Stepped.{Stepped}
use Rattle.steps.specs.Records.{max_node, is_stopped}
use Rattle.steps.specs.Step.{unmoved}
use Rattle.steps.specs.Turn.{still, turned}
use Rattle.places.specs.Clipped.{clipped_asks, clipped_moves, Limited}

-- the request was made, and is answered so
unfoldable pub heard : ℕ → ℕ → Team → Request → Answer → Change → Turned
heard t cap r q a c =
    record { team = clipped_moves t cap r a; kind = nat_of q.kind; node = node_in q; answer = a; change = c }

abbrev pub with_ledger : Ledger → Turned → Stepped
with_ledger l u = record { ledger = l; team = u.team; kind = u.kind; node = u.node; answer = u.answer }

-- a turn, by the view of the node that the request names
unfoldable pub clipped_turn : ℕ → ℕ → Team → View → Turned
clipped_turn t cap r v =
    let q = clipped_asks t r in
    let o = decided v q in
    cond (is_stopped r.place) (still r) (heard t cap r q o.answer o.change)

-- The request itself tests the ledger: 1 is the code of no other refusal, and then the step is refused.
unfoldable pub clipped_step : ℕ → ℕ → Ledger → Team → Stepped
clipped_step t cap l r =
    let q = clipped_asks t r in
    let d = requested l q in
    cond (eqb d.answer.code 1) (unmoved 1 l r) (with_ledger d.ledger (heard t cap r q d.answer Keep))

-- ---- within the limits

-- those of a team's number and record, and of what the team looks at in a well-formed ledger
pub record Ready (number : ℕ) (r : Team) (v : View) : Type 0 where
  pub limited : Limited number r
  pub left_high : v.node.left ≤ max_node
  pub pair_high : v.pair ≤ max_node

abbrev pub UnclippedTurn : Type 0
UnclippedTurn =
    (number cap : ℕ) (r : Team) (v : View) → Ready number r v → clipped_turn number cap r v ≡ turned number cap r v
