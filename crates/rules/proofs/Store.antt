-- A change of one node that keeps a ledger well formed.
use mathlib.Core.Path.{◌≡◌, ◌∙◌}
use mathlib.Core.Logic.{◌≢◌}
use Prim.Native.Nat.{ℕ, ◌+◌, ◌*◌, ◌≤◌, ◌<◌}
use native.Mathlib.Omega.{arith}
use native.Mathlib.Decide.{ℕ_discrete}
use lib.ListN.{length}
use Rattle.rules.specs.declared.Node.{Node}
use Rattle.rules.specs.declared.Ledger.{Ledger}
use Rattle.rules.specs.Nodes.{PUSHED, middle}
use Rattle.rules.specs.States.{stolen_of}
use Rattle.rules.specs.Table.{InUse, at, put, stolen_in}
use Rattle.rules.specs.WellFormed.{left_is}
use Rattle.rules.proofs.Nodes.{at_same, at_other, put_was, put-length}
use Rattle.rules.proofs.Sums.{sum_by-put}
use Rattle.rules.proofs.Record.{WF, GoodNode, Alone, Spans, Pair, Staged, in_table, root_used}
use Rattle.rules.proofs.Stages.{staged_kept, kids_pushed}

-- the same range and children, and under children the same progress
pub record Swap (x y : Node) : Type 0 where
  pub start : y.start ≡ x.start
  pub until : y.until ≡ x.until
  pub left : y.left ≡ x.left
  pub still : 0 < x.left → y.progress ≡ x.progress

pub stolen_put : (l : Ledger) (n : ℕ) (y : Node) → 1 ≤ n → n ≤ length l.nodes
    → stolen_in (put l n y) + stolen_of (at l n) ≡ stolen_in l + stolen_of y
unfolding stolen_in
stolen_put l n y p q = sum_by-put stolen_of l n y p q

-- the nodes next, of which so many are in use, have another node n than l, of the same range
pub record Stored (l : Ledger) (n : ℕ) (next : ℕ → Node) (used : ℕ) : Type 0 where
  pub more : l.used ≤ used
  pub unpushed : (at l n).stage ≢ PUSHED
  pub start : (next n).start ≡ (at l n).start
  pub until : (next n).until ≡ (at l n).until
  pub other : (m : ℕ) → InUse l m → m ≢ n → next m ≡ at l m

module _ {l : Ledger} {n : ℕ} {next : ℕ → Node} {used : ℕ} (t : Stored l n next used) where
  -- each node keeps its range
  pub spans_kept : {m a b : ℕ} → InUse l m → Spans (at l m) a b → Spans (next m) a b
  spans_kept {m} {a} {b} v s = go (ℕ_discrete m n)
    where
      go : Dec (m ≡ n) → Spans (next m) a b
      go (yes e) = let k = rw e at s in rw e (record { start = t.start ∙ k.start; until = t.until ∙ k.until })
      go (no ne) = rw (t.other m v ne) s

  pushed_kept : {m : ℕ} → InUse l m → (at l m).stage ≡ PUSHED → next m ≡ at l m
  pushed_kept {m} v p = t.other m v (λ e. t.unpushed (rw e at p))

  -- and what was a good node is one: its children have their ranges, and where it is pushed so are they, and stay
  pub good_kept : {m : ℕ} {z : Node} → GoodNode (at l) l.teams l.used m z → GoodNode next l.teams used m z
  good_kept {m} {z} g =
      record {
        alone = g.alone;
        pair =
            λ some.
            let p = g.pair some in
            record {
              mark = p.mark;
              even = p.even;
              later = p.later;
              inside = omega arith;
              left = spans_kept (left_in some) p.left;
              right = spans_kept (right_in some) p.right;
            };
        staged =
            staged_kept z _ _ _ _ g.staged (λ some p.
            let k = kids_pushed g some p in
            (pushed_kept (left_in some) k.0, pushed_kept (right_in some) k.1));
      }
    where
      left_in : 0 < z.left → InUse l z.left
      left_in some = record { low = some; high = omega (arith, (g.pair some).inside) }

      right_in : 0 < z.left → InUse l (z.left + 1)
      right_in some = record { low = omega arith; high = omega (arith, (g.pair some).inside) }

module _ (l : Ledger) (w : WF l) (n : ℕ) (y : Node) (u : InUse l n) (sw : Swap (at l n) y)
    (alone_y : Alone l.teams y) (unpushed : (at l n).stage ≢ PUSHED) (staged_y : Staged y (at l y.left) (at l (y.left + 1)))
    (spare : l.used + 2 * (stolen_in l + stolen_of y) ≤ l.room + 2 * stolen_of (at l n)) where
  fits : n ≤ length l.nodes
  fits = in_table l w n u

  same : at (put l n y) n ≡ y
  same = at_same l n y u.low fits

  stored : Stored l n (at (put l n y)) l.used
  stored =
      record {
        more = omega arith;
        unpushed = unpushed;
        start = rw same sw.start;
        until = rw same sw.until;
        other = λ m v. at_other l n y u.low m v.low;
      }

  pair_y : 0 < y.left → Pair (at l) l.used n y
  unfolding middle
  pair_y h =
      let k : 0 < (at l n).left = omega (arith, sw) in
      let p = (w.node n u).pair k in
      let e = sw.still k in
      record {
        mark = rw e p.mark;
        even = rw sw.left p.even;
        later = rw sw.left p.later;
        inside = rw sw.left p.inside;
        left = rw (sw.left, e, sw.until) p.left;
        right = rw (sw.left, e, sw.until) p.right;
      }

  good_next : (m : ℕ) → InUse l m → Dec (m ≡ n) → GoodNode (at (put l n y)) l.teams l.used m (at (put l n y) m)
  good_next m v (yes e) = rw (e, same) (good_kept stored (record { alone = alone_y; pair = pair_y; staged = staged_y }))
  good_next m v (no ne) = rw (stored.other m v ne) (good_kept stored (w.node m v))

  same_left : (c : ℕ) → left_is c y ≡ left_is c (at l n)
  unfolding left_is
  same_left c = rw sw.left

  pub wf_store : WF (put l n y)
  unfolding put
  wf_store =
      record {
        limits = w.limits;
        slots = put-length l n y ∙ w.slots;
        odd = w.odd;
        root = spans_kept stored (root_used l w) w.root;
        node = λ m v. good_next m (put_was l n y v) (ℕ_discrete m n);
        parent = λ c v e. omega (arith, sum_by-put (left_is c) l n y u.low fits, same_left c, w.parent c (put_was l n y v) e);
        loaded = omega (arith, stolen_put l n y u.low fits);
        blank = λ m p. at_other l n y u.low m (omega arith) (omega (arith, u.high)) ∙ w.blank m p;
      }
