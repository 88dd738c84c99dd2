-- A number written from its last digit to its first, each where it belongs.
use mathlib.Core.Path.{◌≡◌, refl, sym, ap, ◌∙◌}
use mathlib.Core.List.{List, [], ◌∷◌, ◌++◌, append-nil, append_assoc}
use mathlib.Core.Logic.{⊎_elim}
use Prim.Native.Nat.{ℕ, ◌+◌, ◌-◌, ◌/◌, ◌%◌, ◌≤◌, ◌<◌}
use native.Mathlib.Omega.{arith}
use lib.ListN.{length, set, length-append}
use Rattle.line_rules.specs.Decimal.{digit, decimal}
use Rattle.lines.specs.Area.{over, Put}
use Rattle.lines.proofs.Area.{over_nothing, over_front}
use Rattle.line_rules.proofs.Decimal.{decimal_last, decimal_more, one_digit_lem}

-- The digits `first` are still to be written, from `at` up to `place`, and are those of `high` where there are any; behind them the others
-- stand in the area.
pub record Behind (area : List ℕ) (at n place high : ℕ) (now : List ℕ) : Type 0 where
  pub first : List ℕ
  pub others : List ℕ
  pub stands : place ≡ at + length first
  pub whole : first ++ others ≡ decimal n
  pub bytes : now ≡ over area place others
  pub left : at < place → first ≡ decimal high

-- none stands there yet
pub behind_none : (area : List ℕ) (at n place : ℕ) → place ≡ at + length (decimal n) → Behind area at n place n area
behind_none area at n place e =
    record {
      first = decimal n;
      others = [];
      stands = e;
      whole = append-nil (decimal n);
      bytes = sym (over_nothing area place);
      left = λ _. refl;
    }

none_left : (first others : List ℕ) → length first ≡ 0 → others ≡ first ++ others
none_left [] others e = refl
none_left (d ∷ first) others e = absurd (omega arith)

module _ (area : List ℕ) (at n place high : ℕ) (now : List ℕ) (room : at + length (decimal n) ≤ length area) (b : Behind area at n place high now) where
  behind_fits : place + length b.others ≤ length area
  behind_fits = omega (arith, b.stands, ap length b.whole, length-append b.first b.others)

  module _ (some : at < place) where
    -- with one more, the digits `first'` are left
    behind_by : (first' : List ℕ) → b.first ≡ first' ++ (digit (high % 10) ∷ []) → (at < place - 1 → first' ≡ decimal (high / 10))
        → Behind area at n (place - 1) (high / 10) (set now (place - 1) (digit (high % 10)))
    behind_by first' e later =
        let one : length b.first ≡ length first' + 1 = ap length e ∙ length-append first' _ in
        let back : place - 1 + 1 ≡ place = omega arith in
        record {
          first = first';
          others = digit (high % 10) ∷ b.others;
          stands = omega (arith, b.stands);
          whole = sym (append_assoc first' (digit (high % 10) ∷ []) b.others) ∙ ap (λ (s : List ℕ). s ++ b.others) (sym e) ∙ b.whole;
          bytes = ap (λ (k : List ℕ). set k (place - 1) (digit (high % 10))) (b.bytes ∙ ap (λ (k : ℕ). over area k b.others) (sym back)) ∙ over_front area b.others (place - 1) (digit (high % 10)) (rw back behind_fits);
          left = later;
        }

    pub behind_more : Behind area at n (place - 1) (high / 10) (set now (place - 1) (digit (high % 10)))
    behind_more = ⊎_elim
        (λ (h : high < 10).
        let same : high % 10 ≡ high = omega arith in
        let only : b.first ≡ digit high ∷ [] = b.left some ∙ decimal_last high h in
        behind_by [] (rw same only) (λ k. absurd (omega (arith, b.stands, ap length only))))
        (λ (h : 10 ≤ high). behind_by (decimal (high / 10)) (b.left some ∙ decimal_more high h) (λ _. refl))
        (one_digit_lem high)

  -- where none is left, all stand
  pub behind_all : place ≤ at → Put area at (decimal n) (at + length (decimal n)) now
  behind_all done =
      let none : length b.first ≡ 0 = omega (arith, b.stands) in
      let here : place ≡ at = omega (arith, b.stands) in
      record { place = refl; bytes = rw (here, none_left b.first b.others none ∙ b.whole) at b.bytes }
