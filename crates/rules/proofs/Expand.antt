-- A split of a STOLEN node, slot by slot, and that it keeps a ledger well formed.
use mathlib.Core.Path.{◌≡◌, refl, ap, ◌∙◌}
use mathlib.Core.Logic.{◌≢◌}
use mathlib.Core.Bool.{true, false}
use Prim.Native.Nat.{ℕ, ◌+◌, ◌*◌, ◌%◌, ◌≤◌, ◌<◌, max}
use native.Mathlib.Omega.{arith}
use native.Mathlib.Decide.{ℕ_discrete, dec_le}
use lib.ListN.{length}
use Rattle.rules.specs.declared.Node.{Node}
use Rattle.rules.specs.declared.Ledger.{Ledger}
use Rattle.rules.specs.Nodes.{PUSHED, blank, fresh, parted, middle, left_part, right_part}
use Rattle.rules.specs.States.{ended, stolen_of}
use Rattle.rules.specs.Table.{InUse, at, put, next_pair, grown, sum_by, stolen_in}
use Rattle.rules.specs.WellFormed.{left_is}
use Rattle.rules.proofs.Granted.{after}
use Rattle.rules.proofs.Nodes.{at_next}
use Rattle.rules.proofs.Parents.{no_left, is_left}
use Rattle.rules.proofs.Record.{WF, GoodNode, Alone, Pair, Staged, in_table, left_used, root_used}
use Rattle.rules.proofs.Spare.{spare, left_blank, right_blank, not_left, not_right, pair_fits}
use Rattle.rules.proofs.Split.{split_here, split_left, split_right, split_other, split-length, split_sum}
use Rattle.rules.proofs.Stages.{staged_fresh, unpushed, staged_moved}
use Rattle.rules.proofs.States.{Stolen, going_on, stolen_one, parent_none, fresh_none, blank_none}
use Rattle.rules.proofs.Store.{Stored, spans_kept, good_kept}
use Rattle.rules.proofs.Sums.{sum_by-zero}

-- a new node is good, wherever it stands
pub good_fresh : {node : ℕ → Node} {teams used n : ℕ} (a b : ℕ) → a ≤ b → GoodNode node teams used n (fresh a b)
good_fresh a b h =
    record {
      alone =
          record {
            low = omega arith;
            high = h;
            some_left = λ (e : false ≡ true). let z : ◌≡◌ {A = ℕ} 0 1 = cc in omega arith;
            owner = omega arith;
            unowned = λ e. refl;
            empty = λ e. refl;
            lone = λ e. refl;
          };
      pair = λ some. absurd (omega arith);
      staged = staged_fresh a b _ _;
    }

-- a node in use after a split of n into the pair c: n itself, one of the two, or another that was in use
pub data Among (l : Ledger) (n c m : ℕ) : Type 0 where
  parent : m ≡ n → Among l n c m
  left : m ≡ c → Among l n c m
  right : m ≡ c + 1 → Among l n c m
  other : InUse l m → m ≢ n → m ≢ c → m ≢ c + 1 → Among l n c m

-- the ledger next has at node n the node y, at the pair c the nodes a and b, and else what l has
pub record Slots (l next : Ledger) (n c : ℕ) (y a b : Node) : Type 0 where
  pub here : at next n ≡ y
  pub left : at next c ≡ a
  pub right : at next (c + 1) ≡ b
  pub other : (m : ℕ) → 1 ≤ m → m ≢ n → m ≢ c → m ≢ c + 1 → at next m ≡ at l m
  -- what was in use still is, and so are both
  pub kept : (m : ℕ) → InUse l m → InUse next m
  pub left_used : InUse next c
  pub right_used : InUse next (c + 1)
  pub among : (m : ℕ) → InUse next m → Among l n c m

module _ (l : Ledger) (w : WF l) (n : ℕ) (u : InUse l n) (s : Stolen (at l n)) where
  abbrev c : ℕ
  c = next_pair l

  abbrev x : Node
  x = at l n

  abbrev y : Node
  y = parted x c

  -- the ledger after the split
  abbrev pub next : Ledger
  next = after l n y c (left_part x) (right_part x)

  some : 1 ≤ c
  some = omega (arith, (spare l w).past)

  far : n ≢ c
  far = not_left l w n u

  far' : n ≢ c + 1
  far' = not_right l w n u

  fits : n ≤ length l.nodes
  fits = in_table l w n u

  room : c + 1 ≤ length l.nodes
  room = pair_fits l w n u s

  in_next : (m : ℕ) → 1 ≤ m → m ≤ max l.used (c + 1) → InUse next m
  unfolding put grown
  in_next m p q = record { low = p; high = q }

  among_next : (m : ℕ) → InUse next m → Dec (m ≡ n) → Dec (m ≡ c) → Dec (m ≡ c + 1) → Among l n c m
  unfolding put grown
  among_next m v (yes e) d₁ d₂ = parent e
  among_next m v (no ne) (yes e) d₂ = left e
  among_next m v (no ne) (no n₁) (yes e) = right e
  among_next m v (no ne) (no n₁) (no n₂) = other (record { low = v.low; high = omega (arith, v.high, (spare l w).next) }) ne n₁ n₂

  pub split_slots : Slots l next n c y (left_part x) (right_part x)
  split_slots =
      record {
        here = split_here l n c y (left_part x) (right_part x) u.low fits some room far far';
        left = split_left l n c y (left_part x) (right_part x) u.low fits some room far far';
        right = split_right l n c y (left_part x) (right_part x) u.low fits some room far far';
        other = split_other l n c y (left_part x) (right_part x) u.low fits some room far far';
        kept = λ m v. in_next m v.low (omega (arith, v.high));
        left_used = in_next c some (omega arith);
        right_used = in_next (c + 1) (omega arith) (omega arith);
        among = λ m v. among_next m v (ℕ_discrete m n) (ℕ_discrete m c) (ℕ_discrete m (c + 1));
      }

  pub stays : (m : ℕ) → InUse l m → m ≢ n → at next m ≡ at l m
  stays m v ne = split_slots.other m v.low ne (not_left l w m v) (not_right l w m v)

  pub sums : (f : Node → ℕ) → f blank ≡ 0 → sum_by f next.nodes + f x ≡ sum_by f l.nodes + (f y + (f (left_part x) + f (right_part x)))
  sums f z =
      omega
      (arith, split_sum l n c y (left_part x) (right_part x) u.low fits some room far far' f, ap f (left_blank l w), ap f (right_blank l w))

  abbrev used' : ℕ
  used' = max l.used (c + 1)

  good_x : GoodNode (at l) l.teams l.used n x
  good_x = w.node n u

  -- the node is not pushed
  unpushed_x : x.stage ≢ PUSHED
  unpushed_x = unpushed x _ _ good_x.staged (going_on x s.mark) s.leaf

  stored : Stored l n (at next) used'
  stored =
      record {
        more = omega arith;
        unpushed = unpushed_x;
        start = rw split_slots.here;
        until = rw split_slots.here;
        other = stays;
      }

  -- and after the split it is a good node, with its children
  alone_y : Alone l.teams y
  alone_y = let a = good_x.alone in search

  pair_y : Pair (at next) used' n y
  unfolding left_part right_part middle
  pair_y =
      record {
        mark = s.mark;
        even = (spare l w).even;
        later = omega (arith, u.high, (spare l w).past);
        inside = omega arith;
        left = rw split_slots.left (record { start = refl; until = refl });
        right = rw split_slots.right (record { start = refl; until = refl });
      }

  staged_y : (a b : Node) → Staged y a b
  unfolding ended
  staged_y a b =
      staged_moved x y _ _ a b good_x.staged unpushed_x (record { start = refl; until = refl; own = refl; joined = refl; stage = refl }) (λ p.
      (good_x.staged.prepared p).over)

  good_next : (m : ℕ) → Among l n c m → GoodNode (at next) l.teams used' m (at next m)
  unfolding left_part right_part middle
  good_next m (parent e) = rw (e, split_slots.here) (record { alone = alone_y; pair = λ h. pair_y; staged = staged_y _ _ })
  good_next m (left e) = rw (e, split_slots.left) (good_fresh _ _ (omega arith))
  good_next m (right e) = rw (e, split_slots.right) (good_fresh _ _ (omega (arith, good_x.alone.high)))
  good_next m (other v ne n₁ n₂) = rw (stays m v ne) (good_kept stored (w.node m v))

  -- nobody has the new pair yet
  left_below : (m : ℕ) → 1 ≤ m → (at l m).left ≢ c
  left_below m p = go (ℕ_discrete (at l m).left 0) (dec_le m l.used)
    where
      go : Dec ((at l m).left ≡ 0) → Dec (m ≤ l.used) → (at l m).left ≢ c
      go (yes e) d = omega (arith, some)
      go (no ne) (yes h) = not_left l w (at l m).left (left_used l w m (record { low = p; high = h }) (omega arith))
      go (no ne) (no k) = absurd (ne (rw (w.blank m (omega arith))))

  none_yet : sum_by (left_is c) l.nodes ≡ 0
  none_yet =
      sum_by-zero
      (left_is c)
      l.nodes
      blank
      (λ i h. no_left c _ (rw at_next at (left_below (i + 1) (omega arith))))

  -- each pair has one parent: only the split node's left child is another than before
  left_sums : (d : ℕ) → 0 < d → sum_by (left_is d) next.nodes ≡ sum_by (left_is d) l.nodes + left_is d y
  unfolding left_part right_part
  left_sums d p =
      let was = no_left d x (omega (arith, s.leaf)) in
      let a = no_left d (left_part x) (omega arith) in
      let b = no_left d (right_part x) (omega arith) in
      omega (arith, sums (left_is d) (no_left d blank (omega arith)))

  parent_next : (d : ℕ) → 1 ≤ d → d ≤ used' → d % 2 ≡ 0 → Dec (d ≡ c) → sum_by (left_is d) next.nodes ≡ 1
  parent_next d p q e (yes f) = rw f (omega (arith, left_sums c some, none_yet, is_left c y refl))
  parent_next d p q e (no f) =
      let v : InUse l d = record { low = p; high = omega (arith, (spare l w).next, (spare l w).even) } in
      omega (arith, left_sums d p, w.parent d v e, no_left d y (omega arith))

  -- one STOLEN node less makes up for the pair
  pub load_next : used' + 2 * stolen_in next ≡ l.used + 2 * stolen_in l
  unfolding stolen_in left_part right_part
  load_next =
      let was = stolen_one x s in
      let is = parent_none y some in
      let a = fresh_none (left_part x).start (left_part x).until in
      let b = fresh_none (right_part x).start (right_part x).until in
      omega (arith, sums stolen_of blank_none, (spare l w).next, (spare l w).past)

  pub wf_split : WF next
  unfolding put grown
  wf_split =
      record {
        limits = w.limits;
        slots = split-length l n c y (left_part x) (right_part x) u.low fits some room far far' ∙ w.slots;
        odd = omega (arith, w.odd, (spare l w).even, (spare l w).past);
        root = spans_kept stored (root_used l w) w.root;
        node = λ m v. good_next m (split_slots.among m v);
        parent = λ d v e. parent_next d v.low v.high e (ℕ_discrete d c);
        loaded = omega (arith, load_next, w.loaded);
        blank =
            λ m p.
            split_slots.other m (omega arith) (omega (arith, u.high)) (omega arith) (omega arith) ∙ w.blank m (omega arith);
      }
