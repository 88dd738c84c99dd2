-- What the tests of well formed need of the definitions, over plain variables.
use mathlib.Core.Path.{◌≡◌, sym, ◌∙◌}
use mathlib.Core.Bool.{Bool, false, cond, ◌&&◌, and-true, true-and, and_assoc}
use mathlib.Core.List.{List, map}
use Prim.Native.Nat.{ℕ, ◌%◌, ◌<◌}
use native.Mathlib.Decide.{dec_lt}
use native.Mathlib.Omega.{arith}
use lib.Dec.{eqb, leb, ltb}
use lib.ListN.{length, length-map}
use borrow.Author.Tests.{eq-eqb, ne_eqb, le-leb, lt-leb, lt-ltb, le-ltb}
use Rattle.std.specs.declared.cmp.Ordering.{Ordering}
use Rattle.std.specs.declared.cmp.Ordering.TheVariants.{Less, Equal, Greater}
use Rattle.std.specs.declared.option.Option.{Option}
use Rattle.std.specs.declared.option.Option.TheVariants.{Some}
use Rattle.std.specs.declared.ops.RangeInclusive.{RangeInclusive}
use Rattle.std.specs.Ordering.{partial_le}
use Rattle.std.specs.Range.{range_inclusive_start, range_inclusive_end, range_inclusive_exhausted, range_inclusive_contains}
use Rattle.rules.specs.declared.Ledger.{Ledger}
use Rattle.rules.specs.Limits.{max_until, max_teams, max_nodes, opens}
use Rattle.rules.specs.WellFormed.{numbers_rule}

-- ---- `(low..=high).contains(&x)`

-- the order of unsigned numbers, as `contains` asks it
abbrev order : ℕ → ℕ → Option Ordering
order a b = Some (cond (ltb a b) Less (cond (eqb a b) Equal Greater))

le_by_order : (a b : ℕ) → partial_le order a b ≡ leb a b
le_by_order a b = go (dec_lt a b) (dec_lt b a)
  where
    go : Dec (a < b) → Dec (b < a) → partial_le order a b ≡ leb a b
    go (yes h) d = rw (lt-ltb a b h, le-leb a b (omega arith))
    go (no h) (yes k) = rw (le-ltb a b (omega arith), ne_eqb a b (λ e. omega arith), lt-leb a b k)
    go (no h) (no k) = let e : a ≡ b = omega arith in rw (le-ltb a b (omega arith), eq-eqb a b e, le-leb a b (omega arith))

pub contains_is : (s : RangeInclusive ℕ) (x : ℕ) (r : Bool) {low high : ℕ}
    → range_inclusive_start s ≡ low
    → range_inclusive_end s ≡ high
    → range_inclusive_exhausted s ≡ false
    → r ≡ range_inclusive_contains order s x
    → r ≡ (leb low x && leb x high)
contains_is s x r {low = low} {high = high} a b f e = e ∙ rw (a, b, f, le_by_order low x, le_by_order x high)

-- ---- a ledger's numbers

-- the tests of a ledger's numbers, without those that no unsigned number fails: 0 ≤ start, 0 ≤ until, and the cap of the least run
pub numbers_are : (l : Ledger) {until teams room : Bool}
    → until ≡ (leb l.start l.until && leb l.until max_until)
    → teams ≡ (leb 1 l.teams && leb l.teams max_teams)
    → room ≡ (leb 1 l.room && leb l.room max_nodes)
    → ((((until && teams) && room) && eqb (l.used % 2) 1) && leb l.used l.room) ≡ numbers_rule l
unfolding opens
numbers_are l a b c =
    rw (a, b, c) (rw (le-leb 0 l.start (omega arith), le-leb 0 l.until (omega arith)) (simp (and-true, true-and, and_assoc)))

-- the length of a table, of which owning it tells only through a map
pub length_under : (X Y : Type 0) (f : X → Y) (l : List X) (n : ℕ) → length (map f l) ≡ n → length l ≡ n
length_under X Y f l n p = sym (length-map l f) ∙ p
