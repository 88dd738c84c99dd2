-- The count of stopped teams, one record after the other.
use mathlib.Core.Path.{◌≡◌, refl}
use mathlib.Core.Bool.{Bool, true, false, cond}
use mathlib.Core.List.{List}
use Prim.Native.Nat.{ℕ, zero, suc, ◌+◌, ◌-◌, ◌≤◌, ◌<◌}
use native.Mathlib.Numerals.{add-one}
use native.Mathlib.Omega.{arith}
use lib.IntN.{pos}
use lib.ListN.{length, get_or, take}
use Rattle.std.specs.Prelude.{count_by}
use Rattle.std.proofs.lemmas.List.Sums.{count_by_more_yes, count_by_more_no}
use Rattle.steps.specs.declared.Team.{Team}
use Rattle.steps.specs.Records.{no_team, is_stopped}
use Rattle.steps.specs.Step.{record_of}
use Rattle.steps.specs.Run.{stopped_to}

none_yet : (rs : List Team) → 0 ≡ stopped_to rs 0
unfolding stopped_to
none_yet rs = refl

one_more : (rs : List Team) (i : ℕ) → stopped_to rs (i + 1) ≡ stopped_to rs i + cond (is_stopped (get_or rs i no_team).place) 1 0
unfolding stopped_to
one_more rs i = let e : suc i - 1 ≡ i = omega arith in rw (add-one i, e)

one_at_most : (b : Bool) → cond b 1 0 ≤ 1
one_at_most true = omega arith
one_at_most false = omega arith

pub stopped_few : (rs : List Team) (k : ℕ) → stopped_to rs k ≤ k
unfolding stopped_to
stopped_few rs zero = omega arith
stopped_few rs (suc k) = omega (arith, stopped_few rs k, one_at_most (is_stopped (record_of rs (pos (suc k))).place))

-- counted by a test of each record
pub stopped_count : (rs : List Team) (k : ℕ) → k ≤ length rs → count_by (λ t. is_stopped t.place) (take k rs) ≡ stopped_to rs k
stopped_count rs zero h = none_yet rs
stopped_count rs (suc k) h =
    let before = stopped_count rs k (omega arith) in
    let less : k < length rs = omega arith in
    by before less (is_stopped (get_or rs k no_team).place) refl
  where
    by : count_by (λ t. is_stopped t.place) (take k rs) ≡ stopped_to rs k
        → k < length rs
        → (b : Bool)
        → is_stopped (get_or rs k no_team).place ≡ b
        → count_by (λ t. is_stopped t.place) (take (suc k) rs) ≡ stopped_to rs (suc k)
    by before less true e =
        rw (← add-one k, one_more rs k, e, count_by_more_yes (λ t. is_stopped t.place) rs k no_team less e, before)
    by before less false e =
        rw (← add-one k, one_more rs k, e, count_by_more_no (λ t. is_stopped t.place) rs k no_team less e, before) (omega arith)
