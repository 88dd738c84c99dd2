-- Pairs, counted by their halves: two in the list of counts stands for two or more.
use mathlib.Core.Path.{◌≡◌, refl, sym, ap, ◌∙◌}
use mathlib.Core.Bool.{Bool, true, false}
use mathlib.Core.List.{List}
use Prim.Native.Nat.{ℕ, zero, suc, ◌+◌, ◌-◌, ◌*◌, ◌/◌, ◌%◌, ◌≤◌, ◌<◌, min}
use native.Mathlib.Decide.{ℕ_discrete, dec_le}
use native.Mathlib.Omega.{arith}
use lib.Dec.{eqb}
use lib.ListN.{length, get_or, set, replicate, take, drop, length-set, length-drop}
use lib.Seq.{get_or-set_same, get_or-set_other, get_or-take, get_or-drop, length-take-le}
use borrow.Author.Tests.{eq-eqb, ne_eqb}
use Rattle.std.specs.Bool.{MatchBool}
use Rattle.std.specs.List.{AllWithin, HoldsAt}
use Rattle.std.proofs.Common.{◌≢◌}
use Rattle.rules.specs.declared.Node.{Node}
use Rattle.rules.specs.declared.Ledger.{Ledger}
use Rattle.rules.specs.Limits.{max_nodes}
use Rattle.rules.specs.Nodes.{blank}
use Rattle.rules.specs.States.{stolen_of, state_of}
use Rattle.rules.specs.Table.{at, sum_by}
use Rattle.rules.specs.WellFormed.{up_to, left_is}
use Rattle.rules.proofs.States.{at_most_one}
use Rattle.forms.specs.Walk.{even_once}
use Rattle.forms.proofs.Reading.{sum_more}
use Rattle.forms.proofs.UpTo.{up_to_true, up_to_false}

-- ---- the test of the counts

-- the counts from the first half on, up to the last: an even number fails at its half, and of an odd one nothing is asked
pub pairs_all : (seen xs : List ℕ) (used half : ℕ) {t : Bool} → half ≡ used / 2 → half < length seen → xs ≡ take half (drop 1 seen)
    → MatchBool t (AllWithin (λ x. x ≡ 1) xs 0 (length xs)) ((k : ℕ) × (k < length xs) × HoldsAt (λ x. x ≢ 1) xs k)
    → t ≡ up_to (even_once seen) used
pairs_all seen xs used half {t} eh inside exs m = go t m
  where
    size : length xs ≡ half
    size = rw exs (length-take-le half (drop 1 seen) (omega (arith, length-drop 1 seen)))

    count : (k : ℕ) → k < half → get_or xs k 0 ≡ get_or seen (k + 1) 0
    count k h =
        let s : 1 + k ≡ k + 1 = omega arith in
        rw exs (get_or-take half (drop 1 seen) k 0 h ∙ (get_or-drop 1 seen k 0 ∙ ap (λ (j : ℕ). get_or seen j 0) s))

    go : (t : Bool) → MatchBool t (AllWithin (λ x. x ≡ 1) xs 0 (length xs)) ((k : ℕ) × (k < length xs) × HoldsAt (λ x. x ≢ 1) xs k)
        → t ≡ up_to (even_once seen) used
    go true m = up_to_true (even_once seen) used (λ n low high. one n low high (ℕ_discrete (n % 2) 0))
      where
        one : (n : ℕ) → 1 ≤ n → n ≤ used → Dec (n % 2 ≡ 0) → even_once seen n ≡ true
        one n low high (no o) = rw (ne_eqb (n % 2) 0 o)
        one n low high (yes o) =
            let k = n / 2 - 1 in
            let s : k + 1 ≡ n / 2 = omega arith in
            let h : k < half = omega arith in
            let e : get_or seen (n / 2) 0 ≡ 1 = ap (λ (j : ℕ). get_or seen j 0) (sym s) ∙ (sym (count k h) ∙ m k 0 (omega arith) (omega (arith, size))) in
            rw (o, e)
    go false (k, inside, fails) =
        let h : k < half = omega (arith, size) in
        let n = 2 * (k + 1) in
        let is-even : n % 2 ≡ 0 = omega arith in
        let s : n / 2 ≡ k + 1 = omega arith in
        let e : eqb (get_or seen (k + 1) 0) 1 ≡ false = ne_eqb (get_or seen (k + 1) 0) 1 (λ z. fails 0 (count k h ∙ z)) in
        up_to_false (even_once seen) used n (omega arith) (omega arith) (rw (is-even, s, e))

pub once : (s : ℕ) → eqb (min s 2) 1 ≡ eqb s 1
once s = go (ℕ_discrete s 1)
  where
    go : Dec (s ≡ 1) → eqb (min s 2) 1 ≡ eqb s 1
    go (yes e) = rw e
    go (no n) = ne_eqb (min s 2) 1 (λ h. n (omega arith)) ∙ sym (ne_eqb s 1 n)

-- ---- counting

left_is_lem : (c : ℕ) (x : Node) → x.left ≡ c → left_is c x ≡ 1
unfolding left_is
left_is_lem c x q = rw (eq-eqb x.left c q)

pub left_not : (c : ℕ) (x : Node) → (x.left ≡ c → ⊥) → left_is c x ≡ 0
unfolding left_is
left_not c x q = rw (ne_eqb x.left c q)

pub zeros : (n e : ℕ) → ◌≡◌ {A = ℕ} (get_or (replicate n 0) e 0) 0
zeros zero e = refl
zeros (suc n) zero = refl
zeros (suc n) (suc e) = zeros n e

-- what has been counted over the first i slots
pub record Counted (ns : List Node) (i : ℕ) (seen : List ℕ) (stolen : ℕ) : Type 0 where
  pub long : length seen ≡ max_nodes / 2 + 1
  pub low : stolen ≤ i
  pub sum : stolen ≡ sum_by stolen_of (take i ns)
  pub each : (c : ℕ) → 1 ≤ c → c ≤ max_nodes / 2 → get_or seen c 0 ≡ min (sum_by (left_is (2 * c)) (take i ns)) 2

pub counted_none : (ns : List Node) (z : List ℕ) → length z ≡ max_nodes / 2 + 1 → ((c : ℕ) → get_or z c 0 ≡ 0) → Counted ns 0 z 0
unfolding sum_by
counted_none ns z h k = record { long = h; low = omega arith; sum = refl; each = λ c p q. k c }

-- the place e at which a left child's number is counted
pub record Placed (left e : ℕ) : Type 0 where
  pub inside : e ≤ max_nodes / 2
  pub even : left ≤ max_nodes → left % 2 ≡ 0 → e ≡ left / 2
  pub large : max_nodes < left → e ≡ 0
  pub odd : left % 2 ≡ 1 → e ≡ 0

-- a number that is not counted at its half is counted with 0
elsewhere : (left e c : ℕ) → Placed left e → 1 ≤ c → c ≡ e → (left ≡ 2 * c → ⊥) → ⊥
elsewhere left e c p low q r = go (dec_le left max_nodes) (ℕ_discrete (left % 2) 0)
  where
    go : Dec (left ≤ max_nodes) → Dec (left % 2 ≡ 0) → ⊥
    go (no m) d = omega (arith, p.large (omega arith))
    go (yes m) (yes d) = r (omega (arith, p.even m d))
    go (yes m) (no d) = omega (arith, p.odd (omega arith))

pub blank_stolen : ◌≡◌ {A = ℕ} (stolen_of blank) 0
unfolding stolen_of state_of
blank_stolen = refl

module _ (l : Ledger) (i : ℕ) (seen : List ℕ) (stolen : ℕ) (b : Counted l.nodes i seen stolen) {x : Node} (ex : x ≡ at l (i + 1)) where
  abbrev ns : List Node
  ns = l.nodes

  more : (f : Node → ℕ) → f blank ≡ 0 → sum_by f (take (i + 1) ns) ≡ sum_by f (take i ns) + f x
  more f z = sym (sum_more f z l i) ∙ ap (λ (y : Node). sum_by f (take i ns) + f y) (sym ex)

  lefts : (c : ℕ) → 1 ≤ c → sum_by (left_is (2 * c)) (take (i + 1) ns) ≡ sum_by (left_is (2 * c)) (take i ns) + left_is (2 * c) x
  lefts c low = more (left_is (2 * c)) (left_not (2 * c) blank (λ h. omega arith))

  pub counted_more : (e k next : ℕ) → Placed x.left e → k ≡ stolen_of x → next ≡ min (get_or seen e 0 + 1) 2
      → Counted l.nodes (i + 1) (set seen e next) (stolen + k)
  counted_more e k next p s n =
      record {
        long = length-set seen e next ∙ b.long;
        low = omega (arith, b.low, at_most_one x);
        sum = omega (arith, b.sum, more stolen_of blank_stolen);
        each = λ c low high. go c low high (ℕ_discrete c e) (ℕ_discrete x.left (2 * c));
      }
    where
      go : (c : ℕ) → 1 ≤ c → c ≤ max_nodes / 2 → Dec (c ≡ e) → Dec (x.left ≡ 2 * c)
          → get_or (set seen e next) c 0 ≡ min (sum_by (left_is (2 * c)) (take (i + 1) ns)) 2
      go c low high (yes q) (yes r) =
          rw
          (q, get_or-set_same seen e next 0 (omega (arith, b.long)))
          (omega (arith, b.each e (omega arith) (omega arith), lefts e (omega arith), left_is_lem (2 * e) x (omega arith)))
      go c low high (yes q) (no r) = absurd (elsewhere x.left e c p low q r)
      go c low high (no q) (yes r) = absurd (q (omega (arith, p.even (omega arith) (omega arith))))
      go c low high (no q) (no r) =
          rw
          (get_or-set_other seen e c next 0 q)
          (omega (arith, b.each c low high, lefts c low, left_not (2 * c) x r))
