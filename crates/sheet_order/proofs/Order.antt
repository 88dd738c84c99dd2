-- The pieces of a node, as the code gathers them, and that their sheets are the rules' listing.
use Prim.Native.Nat.{ℕ, zero, suc, ◌+◌, ◌-◌, ◌≤◌, ◌<◌}
use mathlib.Core.Path.{◌≡◌, refl, sym, ap, ◌∙◌}
use mathlib.Core.Logic.{◌≢◌}
use mathlib.Core.Bool.{Bool, true, false, cond}
use mathlib.Core.List.{List, [], ◌∷◌, ◌++◌, append_assoc, append-nil, map}
use native.Mathlib.Numerals.{add-one}
use native.Mathlib.Omega.{arith}
use native.Mathlib.Decide.{dec_le}
use lib.Dec.{eqb}
use lib.ListN.{length, get_or, take, length-append, length-take}
use lib.Seq.{get_or-take}
use borrow.Author.Tests.{eqb-false, eq-eqb, ne_eqb}
use Rattle.rules.specs.declared.Ledger.{Ledger}
use Rattle.rules.specs.Limits.{max_nodes}
use Rattle.laws.specs.Listed.{listed}
use Rattle.laws.specs.Listing.{sheets, granted_from}
use Rattle.rules.specs.Nodes.{position_of, childless}
use Rattle.rules.specs.Table.{at}
use Rattle.sheet_order.specs.declared.Piece.{Piece}
use Rattle.sheet_order.specs.declared.Pieces.{Pieces}
use Rattle.std.specs.Prelude.{Some, None}
use Rattle.sheet_order.specs.Row.{most, no_piece, with_piece, with_all, kept}
use Rattle.rules.proofs.Record.{WF, rules, used_high, left_used, right_used}
use Rattle.rules.proofs.Rooted.{rooted}
use Rattle.rules.proofs.Tree.{Tree, leaf, fork}
use Rattle.rules.proofs.TreeSum.{sum_tree, size, size_some, rooted_size}
use Rattle.sheet_order.specs.Order.{Readable, granted_to, as_batch, sheets_of, from_node, unclaimed_piece, pieces}
use Rattle.sheet_order.proofs.Row.{with_all_both, with_all_one, with_all_none, kept_is, kept_none}

-- ---- gathering

module _ (g : Pieces) (ps : List Piece) (n : ℕ) where
  pub granted_none : g ≡ with_all g (from_node (granted_to ps 0) n)
  unfolding granted_to from_node with_all
  granted_none = refl

  pub granted_more : (i : ℕ) {h k : Pieces}
      → h ≡ with_all g (from_node (granted_to ps i) n)
      → k ≡ with_all h (cond (eqb (get_or ps i no_piece).node n) (get_or ps i no_piece ∷ []) [])
      → k ≡ with_all g (from_node (granted_to ps (i + 1)) n)
  unfolding granted_to from_node
  granted_more i e f = rw (add-one i, with_all_both, ← e) f

-- what found no room among the first i grants finds none among all k
pub granted_full : (g : Pieces) (ps : List Piece) (n i k : ℕ) → i ≤ k
    → None ≡ kept (with_all g (from_node (granted_to ps i) n))
    → None ≡ kept (with_all g (from_node (granted_to ps k) n))
unfolding granted_to from_node
granted_full g ps n i zero h e = let z : i ≡ 0 = omega arith in rw z at e
granted_full g ps n i (suc k) h e = go (dec_le i k) (λ m. granted_full g ps n i k m e)
  where
    go : Dec (i ≤ k)
        → (i ≤ k → None ≡ kept (with_all g (from_node (granted_to ps k) n)))
        → None ≡ kept (with_all g (from_node (granted_to ps (suc k)) n))
    go (yes m) rest = rw with_all_both (kept_none _ _ (rest m))
    go (no m) rest = let z : i ≡ suc k = omega arith in rw z at e

-- one grant p more, of a loop over the first k grants
module _ (g : Pieces) (ps : List Piece) (n k i : ℕ) (inside : i < length (take k ps)) {row : Pieces} (so_far : row ≡ with_all g (from_node (granted_to ps i) n)) where
  abbrev p : Piece
  p = get_or (take k ps) i no_piece

  p_is : p ≡ get_or ps i no_piece
  p_is = get_or-take k ps i no_piece (omega (arith, length-take k ps))

  granted_next : p.node ≡ n → with_piece row p ≡ with_all g (from_node (granted_to ps (i + 1)) n)
  granted_next e =
      granted_more g ps n i so_far (rw (← p_is, eq-eqb p.node n e) (sym (with_all_one row p)))

  pub granted_noted : {next : Pieces}
      → p.node ≡ n
      → Some next ≡ kept (with_piece row p)
      → (next ≡ with_all g (from_node (granted_to ps (i + 1)) n)) × (next.count ≤ most)
  granted_noted e f = let h = kept_is (with_piece row p) f in (h.0 ∙ granted_next e, h.1)

  pub granted_passed : (p.node ≡ n → ⊥) → row ≡ with_all g (from_node (granted_to ps (i + 1)) n)
  granted_passed e = granted_more g ps n i so_far (rw (← p_is, ne_eqb p.node n e) (sym (with_all_none row)))

  pub granted_past : p.node ≡ n → None ≡ kept (with_piece row p) → None ≡ kept (with_all g (from_node (granted_to ps k) n))
  granted_past e f =
      granted_full g ps n (i + 1) k (omega (arith, length-take k ps)) (f ∙ ap kept (granted_next e))

pub node_none : (g : Pieces) (depth : ℕ) (l : Ledger) (ps : List Piece) (n : ℕ) → depth ≡ 0 → g ≡ with_all g (pieces depth l ps n)
unfolding pieces with_all
node_none g depth l ps n e = rw e

module _ (g own : Pieces) (l : Ledger) (ps : List Piece) (n : ℕ) (e : own ≡ with_all g (from_node ps n)) (depth : ℕ) (some : 0 < depth) where
  pub node_ends : childless (at l n) ≡ true → with_piece own (unclaimed_piece n (at l n)) ≡ with_all g (pieces depth l ps n)
  unfolding pieces
  node_ends c =
      let d : depth ≡ suc (depth - 1) = omega arith in
      rw (d, c, with_all_both, ← e, with_all_one)

  -- the left child's pieces, and then the right one's
  pub node_parts : {then all : Pieces}
      → childless (at l n) ≡ false
      → then ≡ with_all own (pieces (depth - 1) l ps (at l n).left)
      → all ≡ with_all then (pieces (depth - 1) l ps ((at l n).left + 1))
      → all ≡ with_all g (pieces depth l ps n)
  unfolding pieces
  node_parts c a b =
      let d : depth ≡ suc (depth - 1) = omega arith in
      rw (d, c, with_all_both, ← e, with_all_both, ← a) b

  pub left_full : childless (at l n) ≡ false
      → None ≡ kept (with_all own (pieces (depth - 1) l ps (at l n).left))
      → None ≡ kept (with_all g (pieces depth l ps n))
  left_full c f =
      kept_none _ (pieces (depth - 1) l ps ((at l n).left + 1)) f ∙ ap kept (node_parts c refl refl)

pub own_full : (g : Pieces) (depth : ℕ) (l : Ledger) (ps : List Piece) (n : ℕ)
    → 0 < depth
    → None ≡ kept (with_all g (from_node ps n))
    → None ≡ kept (with_all g (pieces depth l ps n))
unfolding pieces
own_full g depth l ps n some f =
    let deep : depth ≡ suc (depth - 1) = omega arith in
    rw (deep, with_all_both) (kept_none _ _ f)

-- ---- going down

-- a parent's children are nodes in use
pub children : (l : Ledger) (g : Pieces) (n : ℕ)
    → Readable l g n
    → childless (at l n) ≡ false
    → Readable l g (at l n).left × Readable l g ((at l n).left + 1)
children l g n r c =
    let w = rules l r.sound in
    let some : 0 < (at l n).left = omega (arith, eqb-false (at l n).left 0 c) in (
      record { sound = r.sound; grants = r.grants; used = left_used l w n r.used some },
      record { sound = r.sound; grants = r.grants; used = right_used l w n r.used some },
    )

-- and so are numbers of slots
pub slot_small : (l : Ledger) (g : Pieces) (n : ℕ) → Readable l g n → n ≤ max_nodes
slot_small l g n r = omega (arith, used_high l (rules l r.sound), r.used.high)

-- as deep as the tree is large, a node has pieces
some_below : (l : Ledger) (ps : List Piece) (depth : ℕ) {n : ℕ} (t : Tree l n) → size t ≤ depth → 0 < length (pieces depth l ps n)
unfolding pieces size sum_tree
some_below l ps zero t h = absurd (omega (arith, size_some t))
some_below l ps (suc depth) (leaf {n = n} u e) h = rw (eq-eqb (at l n).left 0 e, length-append) (omega arith)
some_below l ps (suc depth) (fork {n = n} u some e x y) h =
    let ne : (at l n).left ≢ 0 = omega arith in
    let b : 0 < length (pieces depth l ps (at l n).left) = rw e (some_below l ps depth x (omega arith)) in
    simp (ne_eqb (at l n).left 0 ne, length-append) (omega arith)

-- and as deep as there are nodes, so has the root
pub some_piece : (l : Ledger) (ps : List Piece) → WF l → 0 < length (pieces l.used l ps 1)
some_piece l ps w = let r = rooted l w in some_below l ps l.used r.tree (rooted_size l r)

-- ---- its sheets

sheets_both : (ps qs : List Piece) → sheets_of (ps ++ qs) ≡ sheets_of ps ++ sheets_of qs
unfolding sheets_of
sheets_both [] qs = refl
sheets_both (p ∷ ps) qs = rw (sheets_both ps qs, append_assoc)

sheets_one : (t : Bool) (p : Piece) → sheets_of (cond t (p ∷ []) []) ≡ cond t (sheets p.from p.to) []
unfolding sheets_of
sheets_one true p = rw append-nil
sheets_one false p = refl

sheets_granted : (ps : List Piece) (n : ℕ) → sheets_of (from_node ps n) ≡ granted_from (map as_batch ps) n
unfolding sheets_of from_node granted_from
sheets_granted [] n = refl
sheets_granted (p ∷ ps) n = rw (sheets_both (from_node ps n), sheets_granted ps n, sheets_one)

pub sheets-listed : (depth : ℕ) (l : Ledger) (ps : List Piece) (n : ℕ)
    → sheets_of (pieces depth l ps n) ≡ listed depth l (map as_batch ps) n
unfolding sheets_of pieces listed
sheets-listed zero l ps n = refl
sheets-listed (suc depth) l ps n =
    rw
    (sheets_both (from_node ps n), sheets_granted ps n)
    (ap
    (λ (xs : List ℕ). granted_from (map as_batch ps) n ++ xs)
    (go (childless (at l n)) (pieces depth l ps (at l n).left) (pieces depth l ps ((at l n).left + 1)) (sheets-listed depth l ps (at l n).left) (sheets-listed depth l ps ((at l n).left + 1))))
  where
    go : (t : Bool) (us vs : List Piece) {xs ys : List ℕ}
        → sheets_of us ≡ xs
        → sheets_of vs ≡ ys
        → sheets_of (cond t (unclaimed_piece n (at l n) ∷ []) (us ++ vs)) ≡ cond t (sheets (position_of (at l n)) (at l n).until) (xs ++ ys)
    go true us vs p q = rw append-nil
    go false us vs p q = rw (sheets_both us vs, p, q)
