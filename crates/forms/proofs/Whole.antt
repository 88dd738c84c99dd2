-- The rules of a table, from one walk over the nodes in use and one over the unused slots; over plain variables.
use mathlib.Core.Path.{◌≡◌, refl, sym, ap, ap₂, subst, ◌∙◌}
use mathlib.Core.Bool.{false≢true, Bool, true, false, cond, ◌&&◌, and-false, false-and, and_assoc}
use mathlib.Core.List.{List}
use Prim.Native.Nat.{ℕ, ◌+◌, ◌*◌, ◌/◌, ◌%◌, ◌≤◌, ◌<◌, min}
use native.Mathlib.Decide.{ℕ_discrete, dec_le}
use native.Mathlib.Omega.{arith}
use lib.Dec.{leb}
use lib.ListN.{length, get_or, take}
use borrow.Author.Tests.{eq-eqb, ne_eqb, le-ltb, lt-leb}
use Rattle.std.specs.Prelude.{Option, Some, None}
use Rattle.rules.specs.declared.Node.{Node}
use Rattle.rules.specs.declared.Ledger.{Ledger}
use Rattle.rules.specs.Limits.{max_nodes, opens}
use Rattle.rules.specs.Nodes.{blank, joined_of}
use Rattle.rules.specs.States.{stolen_of, unready}
use Rattle.rules.specs.Table.{at, sum_by, stolen_in}
use Rattle.rules.specs.WellFormed.{up_to, left_is, numbers_rule, root_range, alone_rule, child_rule, stage_rule, node_rule, pair_rule, room_rule, unused_rule, is_blank, well_formed}
use Rattle.rules.proofs.Facts.{facts, up_to_t}
use Rattle.rules.proofs.Nodes.{at_out}
use Rattle.rules.proofs.Record.{unused_t}
use Rattle.forms.specs.declared.head.Head.{Head}
use Rattle.forms.specs.Head.{head_of}
use Rattle.forms.specs.Walk.{family_rule, even_once, formed_stolen}
use Rattle.forms.proofs.UpTo.{up_to_true, up_to_false, up_to_same}
use Rattle.forms.proofs.Pairs.{Counted, once, left_not, blank_stolen}
use Rattle.forms.proofs.Reading.{sum_in_use}

-- past the slots of a table there are unused ones alone
pub past_table : (l : Ledger) (n : ℕ) {k : ℕ} → k ≡ length l.nodes → k < n → at l n ≡ blank
past_table l n e h = at_out l n (omega arith)

-- ---- children that are not there

-- a childless node's report does not see the children
childless_stage : (x a b c d : Node) → x.left ≡ 0 → stage_rule x a b ≡ stage_rule x c d
unfolding stage_rule joined_of unready
childless_stage x a b c d e = rw (eq-eqb x.left 0 e)

pub no_family : (l : Ledger) (used n : ℕ) (x : Node) (t : Bool) → x.left ≡ 0 → t ≡ stage_rule x x x → t ≡ family_rule l used n x
unfolding child_rule
no_family l used n x t e h = rw (eq-eqb x.left 0 e) (h ∙ childless_stage x x x _ _ e)

pub far_family : (l : Ledger) (used n : ℕ) (x : Node) → (x.left ≡ 0 → ⊥) → used ≤ x.left → false ≡ family_rule l used n x
unfolding child_rule
far_family l used n x e h = rw (ne_eqb x.left 0 e, le-ltb x.left used h) (simp (and-false, false-and))

-- ---- the numbers

-- what the rules of a ledger's numbers tell
pub record Limited (l : Ledger) : Type 0 where
  pub odd : l.used % 2 ≡ 1
  pub fits : l.used ≤ l.room
  pub low : 1 ≤ l.room
  pub high : l.room ≤ max_nodes

pub limited : (l : Ledger) → numbers_rule l ≡ true → Limited l
unfolding opens
limited l e =
    let h = simp facts at e in
    record { odd = omega (arith, h); fits = omega (arith, h); low = omega (arith, h); high = omega (arith, h) }

pub bad_numbers : (l : Ledger) → false ≡ numbers_rule l → None ≡ formed_stolen l
unfolding well_formed
bad_numbers l e = rw (← e)

module _ (l : Ledger) where
  -- node i + 1 passes, or does not
  pub node_here : (i : ℕ) {d : Head} → d ≡ head_of l → {x : Node} {a f : Bool} → x ≡ at l (i + 1) → a ≡ alone_rule d.teams x → f ≡ family_rule l d.used (i + 1) x
      → (a && f) ≡ node_rule l (i + 1)
  unfolding node_rule
  node_here i e {x} {a} {f} ex ea ef =
      let alone : a ≡ alone_rule l.teams x = ea ∙ ap (λ (h : Head). alone_rule h.teams x) e in
      let family : f ≡ family_rule l l.used (i + 1) x = ef ∙ ap (λ (h : Head). family_rule l h.used (i + 1) x) e in
      let c = child_rule (i + 1) l.used x (at l x.left) (at l (x.left + 1)) in
      let s = stage_rule x (at l x.left) (at l (x.left + 1)) in
      rw (← ex) (ap₂ ◌&&◌ alone family ∙ sym (and_assoc (alone_rule l.teams x) c s))

  -- ---- unused slots

  -- the slots in use are no unused ones
  pub blank_none : {k : ℕ} → k ≡ l.used → true ≡ up_to (unused_rule l) k
  blank_none {k} e = sym ((up_to_t (unused_rule l) k).1 (λ n p q. (unused_t l n).1 (λ h. absurd (omega arith))))

  pub blank_here : (i : ℕ) → l.used ≤ i → {u : Bool} → u ≡ is_blank (at l (i + 1)) → u ≡ unused_rule l (i + 1)
  unfolding unused_rule
  blank_here i low eu =
      let past : leb (i + 1) l.used ≡ false = lt-leb (i + 1) l.used (omega arith) in
      eu ∙ rw past

  -- and those past the table's own are: the first k have passed
  pub blank_all : (s k : ℕ) → ((n : ℕ) → s < n → at l n ≡ blank) → s ≤ k → true ≡ up_to (unused_rule l) k → true ≡ up_to (unused_rule l) max_nodes
  blank_all s k rest h e = up_to_true (unused_rule l) max_nodes (λ n low high. go n low (dec_le n k))
    where
      go : (n : ℕ) → 1 ≤ n → Dec (n ≤ k) → unused_rule l n ≡ true
      go n low (yes q) = (up_to_t (unused_rule l) k).0 (sym e) n low q
      go n low (no q) = (unused_t l n).1 (λ u. rest n (omega arith))

  -- so what the first k slots gave is what all give
  pub blank_end : (s k : ℕ) → ((n : ℕ) → s < n → at l n ≡ blank) → s ≤ k → (b : Bool) → (b ≡ false → k ≤ max_nodes) → b ≡ up_to (unused_rule l) k → b ≡ up_to (unused_rule l) max_nodes
  blank_end s k rest h true small e = blank_all s k rest h e
  blank_end s k rest h false small e = go (up_to (unused_rule l) max_nodes) refl
    where
      go : (t : Bool) → up_to (unused_rule l) max_nodes ≡ t → false ≡ t
      go false f = refl
      go true f =
          let front : up_to (unused_rule l) k ≡ true =
          (up_to_t (unused_rule l) k).1 (λ n low high. (up_to_t (unused_rule l) max_nodes).0 f n low (omega (arith, high, small refl))) in
          absurd (false≢true (e ∙ front))

  -- ---- where a test fails, nothing was counted

  pub no_root : false ≡ root_range l → None ≡ formed_stolen l
  unfolding well_formed
  no_root e = rw (← e) (simp and-false)

  pub no_blanks : false ≡ up_to (unused_rule l) max_nodes → None ≡ formed_stolen l
  unfolding well_formed
  no_blanks e = rw (← e) (simp and-false)

  pub no_node : (i : ℕ) → i < l.used → false ≡ node_rule l (i + 1) → None ≡ formed_stolen l
  unfolding well_formed
  no_node i h e = rw (← up_to_false (node_rule l) l.used (i + 1) (omega arith) (omega arith) (sym e)) (simp (and-false, false-and))

  -- ---- all slots have passed

  module _ (blanks : true ≡ up_to (unused_rule l) max_nodes) (rest : (n : ℕ) → max_nodes < n → at l n ≡ blank) where
    unused : (n : ℕ) → l.used < n → at l n ≡ blank
    unused n h = go (dec_le n max_nodes)
      where
        go : Dec (n ≤ max_nodes) → at l n ≡ blank
        go (yes k) = (unused_t l n).0 ((up_to_t (unused_rule l) max_nodes).0 (sym blanks) n (omega arith) k) h
        go (no k) = rest n (omega arith)

    sum_used : (f : Node → ℕ) → f blank ≡ 0 → sum_by f l.nodes ≡ sum_by f (take l.used l.nodes)
    sum_used f z = sym (sum_in_use l unused f z)

    stolen_used : stolen_in l ≡ sum_by stolen_of (take l.used l.nodes)
    unfolding stolen_in
    stolen_used = sum_used stolen_of blank_stolen

    module _ (n : Limited l) (seen : List ℕ) (stolen : ℕ) (b : Counted l.nodes l.used seen stolen) where
      pair_all : (n : ℕ) → 1 ≤ n → n ≤ l.used → even_once seen n ≡ pair_rule l n
      unfolding pair_rule
      pair_all k low high = go (ℕ_discrete (k % 2) 0)
        where
          go : Dec (k % 2 ≡ 0) → even_once seen k ≡ pair_rule l k
          go (no o) = let e : k % 2 ≡ 1 = omega arith in rw e
          go (yes o) =
              let two : 2 * (k / 2) ≡ k = omega arith in
              let count : get_or seen (k / 2) 0 ≡ min (sum_by (left_is k) (take l.used l.nodes)) 2 =
              b.each (k / 2) (omega arith) (omega (arith, n.fits, n.high))
              ∙ ap (λ (j : ℕ). min (sum_by (left_is j) (take l.used l.nodes)) 2) two in
              rw
              (o, count, sum_used (left_is k) (left_not k blank (λ h. omega arith)))
              (once (sum_by (left_is k) (take l.used l.nodes)))

      stolen_is : stolen ≡ stolen_in l
      stolen_is = b.sum ∙ sym stolen_used

      pub walked_whole : numbers_rule l ≡ true → true ≡ root_range l → true ≡ up_to (node_rule l) l.used → {fits pairs : Bool}
          → fits ≡ leb (l.used + 2 * stolen) l.room
          → pairs ≡ up_to (even_once seen) l.used
          → cond (fits && pairs) (Some stolen) None ≡ formed_stolen l
      unfolding well_formed
      walked_whole numbers root nodes {fits} {pairs} ef ep =
          let room : fits ≡ room_rule l = ef ∙ ap (λ (k : ℕ). leb (l.used + 2 * k) l.room) stolen_is in
          let all : pairs ≡ up_to (pair_rule l) l.used = ep ∙ up_to_same (even_once seen) (pair_rule l) l.used pair_all in
          rw (numbers, ← root, ← nodes, ← blanks, ← room, ← all, ← stolen_is) (shape fits pairs (Some stolen))
        where
          shape : (f p : Bool) (r : Option ℕ) → cond (f && p) r None ≡ cond (true && (true && true && p && f && true)) r None
          shape true true r = refl
          shape true false r = refl
          shape false true r = refl
          shape false false r = refl

-- the same by the numbers that were read, once i has come to the used count
pub walked_by : (l : Ledger) {d : Head} → d ≡ head_of l → numbers_rule l ≡ true → true ≡ root_range l → true ≡ up_to (unused_rule l) max_nodes
    → ((n : ℕ) → max_nodes < n → at l n ≡ blank)
    → {seen : List ℕ} {stolen i : ℕ} → i ≡ d.used
    → true ≡ up_to (node_rule l) i
    → Counted l.nodes i seen stolen
    → {fits pairs : Bool} → fits ≡ leb (d.used + 2 * stolen) d.room
    → pairs ≡ up_to (even_once seen) d.used
    → cond (fits && pairs) (Some stolen) None ≡ formed_stolen l
walked_by l e numbers root blanks rest {seen} {stolen} {i} ei nodes b ef ep =
    let u : i ≡ l.used = ei ∙ ap (λ (h : Head). h.used) e in
    walked_whole l blanks rest (limited l numbers) seen stolen (subst (λ (k : ℕ). Counted l.nodes k seen stolen) u b) numbers root
    (subst (λ (k : ℕ). true ≡ up_to (node_rule l) k) u nodes)
    (ef ∙ ap (λ (h : Head). leb (h.used + 2 * stolen) h.room) e)
    (ep ∙ ap (λ (h : Head). up_to (even_once seen) h.used) e)
