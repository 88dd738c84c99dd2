-- Reading a table slot by slot.
use mathlib.Core.Path.{◌≡◌, refl, sym, ap, ◌∙◌}
use Prim.Native.Nat.{ℕ, ◌+◌, ◌-◌, ◌<◌}
use native.Mathlib.Decide.{dec_lt}
use native.Mathlib.Omega.{arith}
use mathlib.Core.Bool.{true}
use lib.ListN.{length, take, drop, take-append-drop}
use lib.Seq.{get_or-drop}
use Rattle.std.proofs.lemmas.List.{take_all}
use Rattle.rules.specs.declared.Node.{Node}
use Rattle.rules.specs.declared.Ledger.{Ledger}
use Rattle.rules.specs.Count.{rest_of, unclaimed}
use Rattle.rules.specs.Nodes.{blank}
use Rattle.rules.specs.Table.{at, sum_by}
use Rattle.rules.specs.WellFormed.{Sized, well_formed}
use Rattle.rules.proofs.Record.{rules}
use Rattle.rules.proofs.Nodes.{at_next, at_out}
use Rattle.rules.proofs.Sums.{sum_by_next, sum_by_append, sum_by-zero}

-- node 0 is read where node 1 stands, as in the rules
pub node_at : (l : Ledger) (n slot : ℕ) → slot ≡ n - 1 → at l (slot + 1) ≡ at l n
unfolding at
node_at l n slot e = let s : slot + 1 - 1 ≡ n - 1 = omega arith in rw s

-- one slot more in a sum to which unused ones add nothing: past the table there are none but those
pub sum_more : (f : Node → ℕ) → f blank ≡ 0 → (l : Ledger) (i : ℕ) → sum_by f (take i l.nodes) + f (at l (i + 1)) ≡ sum_by f (take (i + 1) l.nodes)
sum_more f z l i = go (dec_lt i (length l.nodes))
  where
    go : Dec (i < length l.nodes) → sum_by f (take i l.nodes) + f (at l (i + 1)) ≡ sum_by f (take (i + 1) l.nodes)
    go (yes h) = omega (arith, sum_by_next f l.nodes i blank h, ap f (at_next l i))
    go (no h) =
        rw
        (take_all i l.nodes (omega arith), take_all (i + 1) l.nodes (omega arith), at_out l (i + 1) (omega arith), z)
        (omega arith)

-- an unused slot adds nothing to the unclaimed count
pub blank_rest : ◌≡◌ {A = ℕ} (rest_of blank) 0
unfolding rest_of
blank_rest = refl

-- ---- a sum over all slots is that over those in use, where the others are unused

pub sum_in_use : (l : Ledger) → ((n : ℕ) → l.used < n → at l n ≡ blank) → (f : Node → ℕ) → f blank ≡ 0 → sum_by f (take l.used l.nodes) ≡ sum_by f l.nodes
sum_in_use l unused f z =
    let ns = l.nodes in
    let rest : sum_by f (drop l.used ns) ≡ 0 =
    sum_by-zero f (drop l.used ns) blank
    (λ i h. rw (get_or-drop l.used ns i blank, ← at_next l (l.used + i), unused (l.used + i + 1) (omega arith)) z) in
    sym
    (ap (sum_by f) (sym (take-append-drop l.used ns)) ∙ (sum_by_append f (take l.used ns) (drop l.used ns) ∙ rw rest (omega arith)))

-- the unclaimed count is that of the nodes in use
pub unclaimed_used : (l : Ledger) → Sized l → well_formed l ≡ true → sum_by rest_of (take l.used l.nodes) ≡ unclaimed l
unfolding unclaimed
unclaimed_used l s e = let w = rules l (record { sized = s; formed = e }) in sum_in_use l w.blank rest_of blank_rest
