-- Well formed, as a record of plain facts, and that the two are the same.
use Prim.Native.Nat.{ℕ, ◌+◌, ◌*◌, ◌%◌, ◌<◌, ◌≤◌, zero-le}
use mathlib.Core.Path.{◌≡◌, refl, sym, ◌∙◌}
use mathlib.Core.Logic.Iff
use mathlib.Core.Logic.{◌↔◌}
use mathlib.Core.Bool.{Bool, true, false, true≢false}
use native.Mathlib.Omega.{arith}
use native.Mathlib.Decide.{dec_le, dec_lt}
use lib.Dec.{lit≤}
use lib.IntN.{pos}
use lib.ListN.{length}
use Rattle.rules.specs.declared.Finds.{Finds}
use Rattle.rules.specs.declared.Node.{Node}
use Rattle.rules.specs.declared.Ledger.{Ledger}
use Rattle.rules.specs.Limits.{opens, max_until, max_teams, max_nodes}
use Rattle.rules.specs.Joining.{none, passing, same_finds}
use Rattle.rules.specs.Nodes.{UNREPORTED, PREPARED, PUSHED, make_node, blank, marked, position_of, middle, joined_of}
use Rattle.rules.specs.States.{ended, unready}
use Rattle.rules.specs.Table.{InUse, at, sum_by, stolen_in}
use Rattle.rules.specs.WellFormed.{well_formed, up_to, Sized, Sound, node_rule, alone_rule, child_rule, stage_rule, pair_rule, unused_rule, is_blank, left_is}
use Rattle.rules.proofs.Facts.{facts, both, either, leb_f, up_to_t}
use Rattle.rules.proofs.Joining.{same_finds_lem}
use Rattle.rules.proofs.Nodes.{at_out}

-- what is asked of a node by itself
pub record Alone (teams : ℕ) (x : Node) : Type 0 where
  pub low : x.start ≤ position_of x
  pub high : position_of x ≤ x.until
  pub some_left : marked x ≡ true → position_of x + 1 ≤ x.until
  pub owner : x.owner ≤ teams
  pub unowned : x.owner ≡ 0 → x.progress ≡ pos x.start
  pub empty : x.start ≡ x.until → x.owner ≡ 0
  pub lone : teams ≡ 1 → marked x ≡ false

alone_t : (teams : ℕ) (x : Node) → alone_rule teams x ≡ true ↔ Alone teams x
unfolding alone_rule
alone_t teams x = ((λ e. let h = simp facts at e in search), (λ h. simp facts (search)))

-- the node x has the range from a to b
pub record Spans (x : Node) (a b : ℕ) : Type 0 where
  pub start : x.start ≡ a
  pub until : x.until ≡ b

-- node n, which is x, has children: two nodes in use, of greater numbers
pub record Pair (node : ℕ → Node) (used n : ℕ) (x : Node) : Type 0 where
  pub mark : marked x ≡ true
  pub even : x.left % 2 ≡ 0
  pub later : n < x.left
  pub inside : x.left < used
  pub left : Spans (node x.left) (position_of x) (middle x)
  pub right : Spans (node (x.left + 1)) (middle x) x.until

child_t : (node : ℕ → Node) (used n : ℕ) (x : Node)
    → child_rule n used x (node x.left) (node (x.left + 1)) ≡ true ↔ (0 < x.left → Pair node used n x)
unfolding child_rule
child_t node used n x =
    ((λ e some. let h = (simp facts at e) (omega arith) in search), (λ h. simp facts (λ some. let p = h (omega arith) in search)))

-- ---- results

finds_t : (f g : Finds) → same_finds f g ≡ true ↔ (f ≡ g)
unfolding same_finds
finds_t f g =
    ((λ e. let h = simp facts at e in same_finds_lem _ _ _ _ _ _ h.0.0 h.0.1 h.1), (λ e. rw e (simp facts ((refl, refl), refl))))

-- ---- a node's report

pub record Prepared (x : Node) : Type 0 where
  pub over : ended x ≡ true
  pub own : passing x.own ≡ true
  pub joined : x.joined ≡ none

pub record Pushed (x a b : Node) : Type 0 where
  pub own : passing x.own ≡ true
  pub joined : x.joined ≡ joined_of x a b
  pub ready : unready x a b ≡ false

pub record Empty (x : Node) : Type 0 where
  pub stage : x.stage ≡ PUSHED
  pub own : x.own ≡ none
  pub joined : x.joined ≡ none

-- what is asked of the report of a node x with the children a and b
pub record Staged (x a b : Node) : Type 0 where
  pub limit : x.stage ≤ PUSHED
  pub unreported : x.stage ≡ UNREPORTED → (x.own ≡ none) × (x.joined ≡ none)
  pub prepared : x.stage ≡ PREPARED → Prepared x
  pub pushed : x.stage ≡ PUSHED → Pushed x a b
  pub empty : x.start ≡ x.until → Empty x

stage_t : (x a b : Node) → stage_rule x a b ≡ true ↔ Staged x a b
unfolding stage_rule
stage_t x a b = (out, back)
  where
    out : stage_rule x a b ≡ true → Staged x a b
    out e =
        let h = simp (facts, finds_t) at e in
        record {
          limit = h.0.0.0.0;
          unreported = h.0.0.0.1;
          prepared = λ s. let k = h.0.0.1 s in search;
          pushed = λ s. let k = h.0.1 s in search;
          empty = λ s. let k = h.1 s in search;
        }

    back : Staged x a b → stage_rule x a b ≡ true
    back h =
        simp
        (facts, finds_t)
        ((((h.limit, h.unreported), λ s. let k = h.prepared s in search), λ s. let k = h.pushed s in search), λ s. let k = h.empty s in search)

blank_out : (x : Node) → is_blank x ≡ true → make_node x.start x.until x.progress x.owner x.left x.own x.joined x.stage ≡ blank
blank_out x e = let h = simp (facts, finds_t) at e in cc

blank_t : (x : Node) → is_blank x ≡ true ↔ (x ≡ blank)
unfolding same_finds
blank_t x = (blank_out x, λ e. rw e)

-- "opening limits hold"
pub record Limited (start until teams room : ℕ) : Type 0 where
  pub ordered : start ≤ until
  pub until_limit : until ≤ max_until
  pub teams_low : 1 ≤ teams
  pub teams_high : teams ≤ max_teams
  pub room_low : 1 ≤ room
  pub room_high : room ≤ max_nodes

-- what is asked of node n, which is x, and of the nodes that it names as its children
pub record GoodNode (node : ℕ → Node) (teams used n : ℕ) (x : Node) : Type 0 where
  pub alone : Alone teams x
  pub pair : 0 < x.left → Pair node used n x
  pub staged : Staged x (node x.left) (node (x.left + 1))

pub record WF (l : Ledger) : Type 0 where
  pub limits : Limited l.start l.until l.teams l.room
  pub slots : Sized l
  pub odd : l.used % 2 ≡ 1
  pub root : Spans (at l 1) l.start l.until
  pub node : (n : ℕ) → InUse l n → GoodNode (at l) l.teams l.used n (at l n)
  pub parent : (c : ℕ) → InUse l c → c % 2 ≡ 0 → sum_by (left_is c) l.nodes ≡ 1
  pub loaded : l.used + 2 * stolen_in l ≤ l.room
  pub blank : (n : ℕ) → l.used < n → at l n ≡ blank

module _ (l : Ledger) where
  node_t : (n : ℕ) → node_rule l n ≡ true ↔ GoodNode (at l) l.teams l.used n (at l n)
  unfolding node_rule
  node_t n =
      let child = child_t (at l) l.used n (at l n) in
      ((λ e. let h = simp (both, alone_t, child, stage_t) at e in search), (λ g. simp (both, alone_t, child, stage_t) (search)))

  pair_t : (c : ℕ) → pair_rule l c ≡ true ↔ (c % 2 ≡ 0 → sum_by (left_is c) l.nodes ≡ 1)
  unfolding pair_rule
  pair_t c = simp facts Iff.rfl

  pub unused_t : (n : ℕ) → unused_rule l n ≡ true ↔ (l.used < n → at l n ≡ blank)
  unfolding unused_rule
  unused_t n = simp (either, leb_f, blank_t (at l n)) Iff.rfl

  -- a test of each node in use
  in_use_t : (p : ℕ → Bool) → up_to p l.used ≡ true ↔ ((n : ℕ) → InUse l n → p n ≡ true)
  in_use_t p =
      ((λ e n u. (up_to_t p l.used).0 e n u.low u.high), (λ h. (up_to_t p l.used).1 (λ n a b. h n (record { low = a; high = b }))))

  -- a test of each slot, of which there are no more than those that are tested
  slots_t : Sized l → up_to (unused_rule l) max_nodes ≡ true ↔ ((n : ℕ) → l.used < n → at l n ≡ blank)
  slots_t sized = ((λ e n p. out e n p (dec_le n max_nodes)), (λ h. (up_to_t (unused_rule l) max_nodes).1 (λ n a b. (unused_t n).1 (h n))))
    where
      out : up_to (unused_rule l) max_nodes ≡ true → (n : ℕ) → l.used < n → Dec (n ≤ max_nodes) → at l n ≡ blank
      out e n p (yes h) = (unused_t n).0 ((up_to_t (unused_rule l) max_nodes).0 e n (omega arith) h) p
      out e n p (no h) = at_out l n (omega arith)

pub rules : (l : Ledger) → Sound l → WF l
unfolding well_formed opens
rules l s =
    let h = simp (facts, in_use_t l, node_t l, pair_t l, slots_t l s.sized) at s.formed in
    let limits : Limited l.start l.until l.teams l.room = search in
    search

pub rules_back : (l : Ledger) → WF l → well_formed l ≡ true
unfolding well_formed opens
rules_back l w =
    let k = w.limits in
    let room : l.used ≤ l.room = omega (arith, w.loaded) in
    simp (facts, in_use_t l, node_t l, pair_t l, slots_t l w.slots) (search (zero-le, lit≤))

pub both_sound : {l : Ledger} → Sized l → well_formed l ≡ true → Sound l
both_sound a b = record { sized = a; formed = b }

pub sound : (l : Ledger) → WF l → Sound l
sound l w = record { sized = w.slots; formed = rules_back l w }

-- ---- what follows for every node in use

module _ (l : Ledger) (w : WF l) where
  pub used_high : l.used ≤ max_nodes
  used_high = omega (arith, w.loaded, w.limits.room_high)

  pub root_used : InUse l 1
  root_used = record { low = omega arith; high = omega (arith, w.odd) }

  module _ (n : ℕ) (u : InUse l n) where
    -- its slot is in the table
    pub in_table : n ≤ length l.nodes
    in_table = omega (arith, u.high, used_high, w.slots)

    -- no node has children before its mark
    pub no_children : marked (at l n) ≡ false → (at l n).left ≡ 0
    no_children plain = go (dec_lt 0 (at l n).left)
      where
        go : Dec (0 < (at l n).left) → (at l n).left ≡ 0
        go (yes h) = absurd (true≢false (sym ((w.node n u).pair h).mark ∙ plain))
        go (no h) = omega arith

    -- and its children are in use
    module _ (some : 0 < (at l n).left) where
      pub left_used : InUse l (at l n).left
      left_used = record { low = some; high = omega (arith, ((w.node n u).pair some).inside) }

      pub right_used : InUse l ((at l n).left + 1)
      right_used = record { low = omega arith; high = omega (arith, ((w.node n u).pair some).inside) }
