-- Joining is associative and nothing joined is nothing, so what is joined can be joined part by part.
use Prim.Native.Nat.{ℕ, ◌+◌}
use mathlib.Core.Path.{◌≡◌, refl, sym, ap, ◌∙◌}
use mathlib.Core.Bool.{cond}
use mathlib.Core.List.{List, [], ◌∷◌, ◌++◌, append-nil}
use native.Mathlib.Omega.{arith}
use native.Mathlib.Decide.{ℕ_discrete}
use lib.Dec.{eqb}
use borrow.Author.Tests.{eq-eqb, ne_eqb}
use Rattle.rules.specs.declared.Finds.{Finds}
use Rattle.rules.specs.Joining.{none, first_of, last_of, join, join_all}

pub same_finds_lem : (c d a b e f : ℕ) → c ≡ d → a ≡ b → e ≡ f
    → ◌≡◌ {A = Finds} (record { count = c; first = a; last = e }) (record { count = d; first = b; last = f })
same_finds_lem c d a b e f p q r = cc

-- a label of two counts, the near part's before the far one's, and else what comes after both
two_labels : (m n a b after : ℕ)
    → cond (eqb (m + n) 0) after (cond (eqb m 0) (cond (eqb n 0) 0 b) a) ≡ cond (eqb m 0) (cond (eqb n 0) after b) a
two_labels m n a b after = go (ℕ_discrete m 0) (ℕ_discrete n 0)
  where
    go : Dec (m ≡ 0) → Dec (n ≡ 0)
        → cond (eqb (m + n) 0) after (cond (eqb m 0) (cond (eqb n 0) 0 b) a) ≡ cond (eqb m 0) (cond (eqb n 0) after b) a
    go (yes e) (yes f) = rw (e, f)
    go (yes e) (no f) = rw (ne_eqb (m + n) 0 (omega arith), eq-eqb m 0 e, ne_eqb n 0 f)
    go (no e) d = rw (ne_eqb (m + n) 0 (omega arith), ne_eqb m 0 e)

pub first-join : (a b : Finds) (after : ℕ) → first_of (join a b) after ≡ first_of a (first_of b after)
unfolding join
first-join a b after = two_labels a.count b.count a.first b.first after

pub last_join : (a b : Finds) (before : ℕ) → last_of (join a b) before ≡ last_of b (last_of a before)
unfolding join
last_join a b before =
    let e : a.count + b.count ≡ b.count + a.count = omega arith in
    rw e (two_labels b.count a.count b.last a.last before)

pub join_assoc : (a b c : Finds) → join (join a b) c ≡ join a (join b c)
unfolding join
join_assoc a b c =
    same_finds_lem
    _
    _
    _
    _
    _
    _
    (omega arith)
    (first-join a b (first_of c 0) ∙ ap (λ (k : ℕ). first_of a k) (sym (first-join b c 0)))
    (ap (λ (k : ℕ). last_of c k) (last_join a b 0) ∙ sym (last_join b c (last_of a 0)))

-- nothing before a join changes nothing
none_before : (a b : Finds) → join none (join a b) ≡ join a b
unfolding join
none_before a b = same_finds_lem _ _ _ _ _ _ (omega arith) (first-join a b 0) (last_join a b 0)

none_before_all : (fs : List Finds) → join none (join_all fs) ≡ join_all fs
unfolding join_all
none_before_all [] = unfold join in refl
none_before_all (f ∷ fs) = none_before f (join_all fs)

pub join_append : (fs gs : List Finds) → join_all (fs ++ gs) ≡ join (join_all fs) (join_all gs)
unfolding join_all
join_append [] gs = sym (none_before_all gs)
join_append (f ∷ fs) gs = ap (λ (k : Finds). join f k) (join_append fs gs) ∙ sym (join_assoc f (join_all fs) (join_all gs))

-- and nothing after what is joined changes nothing
pub none_after_all : (fs : List Finds) → join (join_all fs) none ≡ join_all fs
unfolding join_all
none_after_all fs = sym (join_append fs []) ∙ ap join_all (append-nil fs)
