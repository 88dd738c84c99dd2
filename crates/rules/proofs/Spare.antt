-- The pair that a split takes: it is not in use, and where a node is STOLEN it is within the room.
use mathlib.Core.Path.{◌≡◌}
use mathlib.Core.Logic.{◌≢◌}
use Prim.Native.Nat.{ℕ, ◌+◌, ◌-◌, ◌%◌, ◌≤◌, ◌<◌}
use native.Mathlib.Omega.{arith}
use lib.ListN.{length}
use Rattle.rules.specs.declared.Ledger.{Ledger}
use Rattle.rules.specs.Nodes.{blank}
use Rattle.rules.specs.States.{stolen_of}
use Rattle.rules.specs.Table.{InUse, at, next_pair, stolen_in}
use Rattle.rules.proofs.Record.{WF, in_table}
use Rattle.rules.proofs.States.{Stolen, stolen_one}
use Rattle.rules.proofs.Sums.{sum_by_ge}

-- the pair c, c + 1 comes after the slots in use
pub record Spare (l : Ledger) (c : ℕ) : Type 0 where
  pub even : c % 2 ≡ 0
  pub past : l.used < c
  pub next : c ≤ l.used + 1

module _ (l : Ledger) (w : WF l) where
  pub spare : Spare l (next_pair l)
  unfolding next_pair
  spare = record { even = omega (arith, w.odd); past = omega arith; next = omega arith }

  pub left_blank : at l (next_pair l) ≡ blank
  left_blank = w.blank (next_pair l) spare.past

  pub right_blank : at l (next_pair l + 1) ≡ blank
  right_blank = w.blank (next_pair l + 1) (omega (arith, spare.past))

  -- a number in use is none of the two
  pub not_left : (n : ℕ) → InUse l n → n ≢ next_pair l
  not_left n u = omega (arith, u.high, spare.past)

  pub not_right : (n : ℕ) → InUse l n → n ≢ next_pair l + 1
  not_right n u = omega (arith, u.high, spare.past)

  module _ (n : ℕ) (u : InUse l n) (s : Stolen (at l n)) where
    -- a STOLEN node has a pair to take
    pub pair_room : next_pair l + 1 ≤ l.room
    unfolding stolen_in at
    pair_room =
        omega
        (arith, spare.next, w.loaded, stolen_one (at l n) s, sum_by_ge stolen_of l.nodes (n - 1) blank (omega (arith, u.low, in_table l w n u)))

    -- and its two slots are there
    pub pair_fits : next_pair l + 1 ≤ length l.nodes
    pair_fits = omega (arith, pair_room, w.limits.room_high, w.slots)
