-- What a node in use becomes, whatever is requested: its range stays, its position never falls, and an owner and a mark stay for good.
use mathlib.Core.Path.{◌≡◌, refl, ◌∙◌}
use mathlib.Core.Logic.{◌≢◌}
use mathlib.Core.Bool.{true}
use mathlib.Core.List.{List, [], ◌∷◌}
use Prim.Native.Nat.{ℕ, ◌≤◌}
use native.Mathlib.Omega.{arith}
use native.Mathlib.Decide.{ℕ_discrete}
use Rattle.rules.specs.declared.Node.{Node}
use Rattle.rules.specs.declared.Ledger.{Ledger}
use Rattle.rules.specs.declared.Request.{Request}
use Rattle.laws.specs.Listing.{after_all}
use Rattle.rules.specs.Nodes.{marked, position_of}
use Rattle.rules.specs.Requests.{requested}
use Rattle.rules.specs.Table.{InUse, at}
use Rattle.rules.proofs.Effects.{Becomes, same, stored, forked, becomes_of}
use Rattle.rules.proofs.Keeps.{wf_answered, requested_wf}
use Rattle.rules.proofs.Moves.{others}
use Rattle.rules.proofs.Nodes.{at_same, put_used}
use Rattle.rules.proofs.Record.{WF, in_table}
use Rattle.rules.proofs.Expand.{split_slots}

pub record Onward (x y : Node) : Type 0 where
  pub start : y.start ≡ x.start
  pub until : y.until ≡ x.until
  pub forward : position_of x ≤ position_of y
  pub owner : x.owner ≢ 0 → y.owner ≡ x.owner
  pub stands : marked x ≡ true → y.progress ≡ x.progress

pub stay : (x : Node) → Onward x x
stay x = record { start = refl; until = refl; forward = omega arith; owner = λ o. refl; stands = λ m. refl }

pub onward_twice : {x y z : Node} → Onward x y → Onward y z → Onward x z
onward_twice {x} {y} {z} a b =
    record {
      start = b.start ∙ a.start;
      until = b.until ∙ a.until;
      forward = omega arith;
      owner = λ o. b.owner (rw (a.owner o) o) ∙ a.owner o;
      stands = λ m. b.stands (rw (a.stands m) m) ∙ a.stands m;
    }

-- a ledger that comes after another
pub record Later (l k : Ledger) : Type 0 where
  pub wf : WF k
  pub used : (n : ℕ) → InUse l n → InUse k n
  pub each : (n : ℕ) → InUse l n → Onward (at l n) (at k n)

-- the node that is asked for
here_onward : {l : Ledger} {n : ℕ} {k : Ledger} → WF l → Becomes l n k → Onward (at l n) (at k n)
here_onward {l} {n = n} w same = stay (at l n)
here_onward {l} {n = n} w (stored y u h) =
    rw
    (at_same l n y u.low (in_table l w n u))
    (record { start = h.start; until = h.until; forward = h.forward (w.node n u).alone.high; owner = h.owner; stands = h.stands })
here_onward {l} {n = n} w (forked u f) =
    rw
    (split_slots l w n u f).here
    (record { start = refl; until = refl; forward = omega arith; owner = λ o. refl; stands = λ m. refl })

still_used : {l : Ledger} {n : ℕ} {k : Ledger} → WF l → Becomes l n k → (m : ℕ) → InUse l m → InUse k m
still_used w same m u = u
still_used {l} {n = n} w (stored y v h) m u = put_used l n y u
still_used {l} {n = n} w (forked v f) m u = (split_slots l w n v f).kept m u

becomes_later : {l k : Ledger} {n : ℕ} → WF l → WF k → Becomes l n k → Later l k
becomes_later {l} {k} {n} w good s = record { wf = good; used = still_used w s; each = λ m u. go m u (ℕ_discrete m n) }
  where
    go : (m : ℕ) → InUse l m → Dec (m ≡ n) → Onward (at l m) (at k m)
    go m u (yes e) = rw e (here_onward w s)
    go m u (no ne) = rw (others w s m u ne) (stay (at l m))

pub requested-later : (l : Ledger) (r : Request) → WF l → Later l (requested l r).ledger
requested-later l r w = rw (requested_wf l r w) (becomes_later w (wf_answered l r w) (becomes_of l r w))

later_twice : (l k j : Ledger) → Later l k → Later k j → Later l j
later_twice l k j a b =
    record {
      wf = b.wf;
      used = λ n u. b.used n (a.used n u);
      each = λ n u. onward_twice (a.each n u) (b.each n (a.used n u));
    }

pub run_later : (l : Ledger) (rs : List Request) → WF l → Later l (after_all l rs)
unfolding after_all
run_later l [] w = record { wf = w; used = λ n u. u; each = λ n u. stay (at l n) }
run_later l (r ∷ rs) w =
    let a = requested-later l r w in
    later_twice l (requested l r).ledger (after_all (requested l r).ledger rs) a (run_later (requested l r).ledger rs a.wf)
