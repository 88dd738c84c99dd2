-- The report of a node: what it needs of its children, that of a new node, and that no request finds a pushed node to change.
use Prim.Native.Nat.{ℕ, ◌+◌, ◌<◌}
use mathlib.Core.Path.{◌≡◌, refl, sym, ap, ◌∙◌}
use mathlib.Core.Logic.{◌≢◌}
use mathlib.Core.Bool.{true, false, true≢false}
use native.Mathlib.Omega.{arith}
use native.Mathlib.Decide.{ℕ_discrete}
use borrow.Author.Tests.{eq-eqb, ne_eqb}
use Rattle.numbers.proofs.Laws.{is_nat_made}
use Rattle.rules.specs.declared.Node.{Node}
use Rattle.rules.specs.Joining.{join, join_all, reportable, passing}
use Rattle.rules.specs.Nodes.{UNREPORTED, PREPARED, PUSHED, fresh, marked, joined_of}
use Rattle.rules.specs.States.{completed, ended, unready}
use Rattle.rules.proofs.Facts.{facts}
use Rattle.rules.proofs.Record.{Staged, Pushed, Empty, GoodNode}
use Rattle.rules.proofs.States.{going_on}

-- ---- other nodes in the children's place

-- a childless node's report does not see them
pub childless-join : (x a b c d : Node) → x.left ≡ 0 → joined_of x a b ≡ joined_of x c d
unfolding joined_of
childless-join x a b c d e = rw e

pub childless_ready : (x a b c d : Node) → x.left ≡ 0 → unready x a b ≡ unready x c d
unfolding unready
childless_ready x a b c d e = rw e

module _ (x a b c d : Node) (s : Staged x a b) (same : 0 < x.left → x.stage ≡ PUSHED → (c ≡ a) × (d ≡ b)) where
  pub staged_kept : Staged x c d
  staged_kept =
      record {
        limit = s.limit;
        unreported = s.unreported;
        prepared = s.prepared;
        pushed = λ p. go p (ℕ_discrete x.left 0);
        empty = s.empty;
      }
    where
      go : x.stage ≡ PUSHED → Dec (x.left ≡ 0) → Pushed x c d
      go p (yes z) =
          let k = s.pushed p in
          record {
            own = k.own;
            joined = k.joined ∙ childless-join x a b c d z;
            ready = childless_ready x c d a b z ∙ k.ready;
          }
      go p (no ne) = let e = same (omega arith) p in rw (e.0, e.1) (s.pushed p)

-- ---- the children of a pushed node are pushed

ready_kids : (x a b : Node) → completed x ≡ false → 0 < x.left → unready x a b ≡ false → (a.stage ≡ PUSHED) × (b.stage ≡ PUSHED)
unfolding unready
ready_kids x a b going some e =
    let f = ne_eqb x.left 0 (omega arith) in
    let g = rw (going, f) at e in
    simp facts at g

pub kids_pushed : {node : ℕ → Node} {teams used n : ℕ} {x : Node} → GoodNode node teams used n x → 0 < x.left → x.stage ≡ PUSHED
    → ((node x.left).stage ≡ PUSHED) × ((node (x.left + 1)).stage ≡ PUSHED)
kids_pushed {node} {x = x} g some p =
    ready_kids x (node x.left) (node (x.left + 1)) (going_on x (g.pair some).mark) some (g.staged.pushed p).ready

-- ---- a new node

module _ (a b : ℕ) (c d : Node) where
  fresh_pushed : a ≡ b → Pushed (fresh a b) c d
  unfolding reportable joined_of join_all join unready
  fresh_pushed e = record { own = refl; joined = refl; ready = rw (e, is_nat_made b) }

  fresh_empty : a ≡ b → Empty (fresh a b)
  fresh_empty e = record { stage = rw (eq-eqb a b e); own = refl; joined = refl }

  pub staged_fresh : Staged (fresh a b) c d
  staged_fresh = go (ℕ_discrete a b)
    where
      go : Dec (a ≡ b) → Staged (fresh a b) c d
      go (yes e) =
          record {
            limit = rw (eq-eqb a b e) (omega arith);
            unreported = λ s. (refl, refl);
            prepared = λ s. let z : ◌≡◌ {A = ℕ} PUSHED PREPARED = rw (eq-eqb a b e) at s in absurd (omega arith);
            pushed = λ s. fresh_pushed e;
            empty = fresh_empty;
          }
      go (no ne) =
          record {
            limit = rw (ne_eqb a b ne) (omega arith);
            unreported = λ s. (refl, refl);
            prepared = λ s. let z : ◌≡◌ {A = ℕ} UNREPORTED PREPARED = rw (ne_eqb a b ne) at s in absurd (omega arith);
            pushed = λ s. let z : ◌≡◌ {A = ℕ} UNREPORTED PUSHED = rw (ne_eqb a b ne) at s in absurd (omega arith);
            empty = λ e. absurd (ne e);
          }

-- ---- what a request finds is not pushed, and keeps its report

-- a node that goes on has no children unless it is marked, and so is not pushed
pub unpushed : (x a b : Node) → Staged x a b → completed x ≡ false → x.left ≡ 0 → x.stage ≢ PUSHED
unfolding unready
unpushed x a b s going leaf p = true≢false (rw (going, leaf) at (s.pushed p).ready)

-- a node y with the report of x
pub record SameReport (x y : Node) : Type 0 where
  pub start : y.start ≡ x.start
  pub until : y.until ≡ x.until
  pub own : y.own ≡ x.own
  pub joined : y.joined ≡ x.joined
  pub stage : y.stage ≡ x.stage

pub staged_moved : (x y a b c d : Node) → Staged x a b → x.stage ≢ PUSHED → SameReport x y
    → (x.stage ≡ PREPARED → ended y ≡ true)
    → Staged y c d
staged_moved x y a b c d s ne h over =
    record {
      limit = rw h.stage s.limit;
      unreported = λ z. let k = s.unreported (sym h.stage ∙ z) in (h.own ∙ k.0, h.joined ∙ k.1);
      prepared =
          λ z.
          let p = sym h.stage ∙ z in
          let k = s.prepared p in
          record { over = over p; own = ap passing h.own ∙ k.own; joined = h.joined ∙ k.joined };
      pushed = λ z. absurd (ne (sym h.stage ∙ z));
      empty =
          λ e.
          let k = s.empty (sym h.start ∙ e ∙ h.until) in
          record { stage = h.stage ∙ k.stage; own = h.own ∙ k.own; joined = h.joined ∙ k.joined };
    }

-- a node that has not ended is not prepared either
pub unprepared : (x a b : Node) → Staged x a b → completed x ≡ false → marked x ≡ false → x.stage ≢ PREPARED
unfolding ended
unprepared x a b s going plain p = true≢false (sym (rw (going, plain) at (s.prepared p).over))
