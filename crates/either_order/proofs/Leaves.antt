-- What a request leaves of the ledger's numbers: teams and room stay, only an expand adds nodes, and only a mark needs more room.
use mathlib.Core.Path.{◌≡◌, refl, ◌∙◌, sym}
use mathlib.Core.Logic.{◌≢◌}
use Prim.Native.Nat.{ℕ, ◌+◌, ◌*◌, ◌≤◌}
use native.Mathlib.Omega.{arith}
use lib.IntN.{pos, negsuc}
use Rattle.numbers.specs.Fields.{nat_of}
use Rattle.rules.specs.declared.Answered.{Answered}
use Rattle.rules.specs.declared.Ledger.{Ledger}
use Rattle.rules.specs.declared.Node.{Node}
use Rattle.rules.specs.declared.Request.{Request}
use Rattle.rules.specs.Asks.{MARK, EXPAND}
use Rattle.rules.specs.Nodes.{owned, moved, reported, pushed, position_of}
use Rattle.rules.specs.Requests.{batch_end, finds_in, node_in, requested}
use Rattle.rules.specs.States.{stolen_of}
use Rattle.rules.specs.Table.{InUse, at, put, grown, stolen_in}
use Rattle.rules.proofs.Expand.{next, load_next}
use Rattle.rules.proofs.Granted.{in_use, Answers, refuses, owns, advances, marks, expands, looks, reports, pushes, answers}
use Rattle.rules.proofs.Keeps.{requested_wf}
use Rattle.rules.proofs.Record.{WF, in_table}
use Rattle.rules.proofs.States.{Stolen, unmarked_none, at_most_one, owned_same, reported_same, pushed_same}
use Rattle.rules.proofs.Sums.{sum_by-put}

-- the slots in use, with those kept for the STOLEN nodes
unfoldable pub load : Ledger → ℕ
load l = l.used + 2 * stolen_in l

pub record Leaves (kind : ℕ) (l next : Ledger) : Type 0 where
  pub teams : next.teams ≡ l.teams
  pub room : next.room ≡ l.room
  pub more : l.used ≤ next.used
  pub used : kind ≢ EXPAND → next.used ≡ l.used
  pub loaded : kind ≢ MARK → load next ≡ load l
  pub loaded_most : load next ≤ load l + 2

leaves_all : (kind : ℕ) (l : Ledger) → Leaves kind l l
leaves_all kind l =
    record { teams = refl; room = refl; more = omega arith; used = λ ne. refl; loaded = λ ne. refl; loaded_most = omega arith }

leaves_stored : (kind : ℕ) (l : Ledger) → WF l → (n : ℕ) → InUse l n → (y : Node) → (kind ≢ MARK → stolen_of y ≡ stolen_of (at l n))
    → Leaves kind l (put l n y)
unfolding put load stolen_in
leaves_stored kind l w n u y same =
    let sum = sum_by-put stolen_of l n y u.low (in_table l w n u) in
    let most = at_most_one y in
    unfold put load stolen_in in (record {
      teams = refl;
      room = refl;
      more = omega arith;
      used = λ ne. refl;
      loaded = λ ne. let e = same ne in omega arith;
      loaded_most = omega arith;
    })

leaves_split : (l : Ledger) (w : WF l) (n : ℕ) (u : InUse l n) (s : Stolen (at l n)) → Leaves EXPAND l (next l w n u s)
leaves_split l w n u s =
    let even = load_next l w n u s in
    unfold put grown load in (record {
      teams = refl;
      room = refl;
      more = omega arith;
      used = λ ne. absurd (ne refl);
      loaded = λ ne. even;
      loaded_most = omega arith;
    })

leaves : {l : Ledger} {r : Request} {k : ℕ} {a : Answered} → WF l → Answers l r k a → Leaves k l a.ledger
leaves {l} {k = k} w (refuses ne) = leaves_all k l
leaves {l} {r} w (owns q f) =
    leaves_stored _ l w (node_in r) (in_use l r q) (owned (at l (node_in r)) (nat_of r.team)) (λ ne. owned_same (at l (node_in r)) (nat_of r.team))
leaves {l} {r} w (advances q f) =
    leaves_stored _ l w (node_in r) (in_use l r q) (moved (at l (node_in r)) (pos (batch_end (at l (node_in r)) r))) (λ ne.
    unmarked_none (moved (at l (node_in r)) (pos (batch_end (at l (node_in r)) r))) refl ∙ sym (unmarked_none (at l (node_in r)) f.here.plain))
leaves {l} {r} w (marks q f) =
    leaves_stored _ l w (node_in r) (in_use l r q) (moved (at l (node_in r)) (negsuc (position_of (at l (node_in r))))) (λ ne. absurd (ne refl))
leaves {l} {r} w (expands q f) = leaves_split l w (node_in r) (in_use l r q) f
leaves {l} w (looks q) = leaves_all _ l
leaves {l} {r} w (reports q f) =
    leaves_stored _ l w (node_in r) (in_use l r q) (reported (at l (node_in r)) (finds_in r)) (λ ne. reported_same (at l (node_in r)) (finds_in r))
leaves {l} {r} w (pushes q f) =
    leaves_stored _ l w (node_in r) (in_use l r q) (pushed (at l (node_in r)) _) (λ ne. pushed_same (at l (node_in r)) _)

pub leaves_of : (l : Ledger) (r : Request) → WF l → Leaves (nat_of r.kind) l (requested l r).ledger
leaves_of l r w = rw (requested_wf l r w) (leaves w (answers l r))
