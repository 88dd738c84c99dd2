-- What the ledger's code needs of the definitions, over plain variables.
use mathlib.Core.Path.{◌≡◌, refl, ap}
use mathlib.Core.Bool.{true}
use mathlib.Core.List.{List, ◌∷◌}
use Prim.Native.Nat.{ℕ, suc, ◌≤◌}
use native.Mathlib.Omega.{arith}
use lib.ListN.{set, replicate}
use Rattle.numbers.specs.Fields.{nat_of}
use Rattle.rules.specs.declared.Node.{Node}
use Rattle.rules.specs.declared.Opening.{Opening}
use Rattle.rules.specs.Limits.{max_until, max_nodes, slots_after, opens}
use Rattle.rules.proofs.Opens.{opens_facts}
use Rattle.rules.specs.Nodes.{blank, fresh}
use Rattle.rules.specs.Opening.{opened, ledger_of}

-- an opening within its limits starts within them
pub start_small : (o : Opening) → opens o ≡ true → nat_of o.start ≤ max_until
start_small o e = let f = opens_facts o e in omega (arith, f.start.high, f.until.high)

-- a table of unused slots, with its first stored
first_stored : (n k : ℕ) (x b : Node) → n ≡ suc k → set (replicate n b) 0 x ≡ x ∷ replicate k b
first_stored n k x b e = rw e

pub opened_made : (o : Opening) (a b t m : ℕ) (root : Node) (ns : List Node)
    → nat_of o.start ≡ a
    → nat_of o.until ≡ b
    → nat_of o.teams ≡ t
    → nat_of o.nodes ≡ m
    → root ≡ fresh a b
    → ns ≡ replicate max_nodes blank
    → record { start = a; until = b; teams = t; room = m; used = 1; nodes = set ns 0 root } ≡ ledger_of o
unfolding opened
opened_made o a b t m root ns p q r s e f =
    rw
    (p, q, r, s, e, f)
    (ap
    (λ (xs : List Node). record { start = a; until = b; teams = t; room = m; used = 1; nodes = xs })
    (first_stored max_nodes (slots_after 1) (fresh a b) blank refl))
