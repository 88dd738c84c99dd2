-- Ledgers that W3's list of rules alone lets in: they pass it, and the rule for empty nodes tells that no list ends in them.
use mathlib.Core.Path.{◌≡◌, refl, sym, ◌∙◌}
use mathlib.Core.Bool.{Bool, true, false, ◌&&◌, true≢false}
use Prim.Native.Nat.{ℕ}
use lib.ListN.{drop, replicate}
use Rattle.rules.specs.declared.Ledger.{Ledger}
use Rattle.rules.specs.Joining.{finds, none, reportable, same_finds, join, join_all}
use Rattle.rules.specs.Limits.{opens, slots_after}
use Rattle.rules.specs.Nodes.{blank, UNREPORTED, PREPARED, PUSHED, joined_of}
use Rattle.rules.specs.States.{state_of, stolen_of, unready, ended}
use Rattle.rules.specs.Table.{at, sum_by, stolen_in}
use Rattle.rules.specs.WellFormed.{Sized, up_to, alone_rule, child_rule, left_is, pair_rule, room_rule, root_range, numbers_rule, unused_rule}
use Rattle.rules.proofs.Examples.{unused}
use Rattle.rules.proofs.Facts.{both, up_to_t}
use Rattle.rules.proofs.Record.{unused_t}
use Rattle.reachable.specs.Earlier.{stages_listed, node_listed, listed_rules, empties_pushed, strengthened}
use Rattle.reachable.specs.Examples.{empty_root, LetIn, EarlierRuleLetInOthers}
use Rattle.reachable.specs.Replay.{Real}
use Rattle.reachable.proofs.Demands.{strengthened_means_real}

not_real : (l : Ledger) → Sized l → empties_pushed l ≡ false → Real l → ⊥
unfolding strengthened
not_real l sized e r =
    let h = (both (empties_pushed l) (listed_rules l)).0 ((strengthened_means_real l sized).1 r) in
    true≢false (sym h.0 ∙ e)

-- every rule of the list but that of the unused slots, which is a lemma: computed, it would read each slot from the start
abbrev in_use : Ledger → Bool
in_use l = numbers_rule l && (root_range l && up_to (node_listed l) l.used && up_to (pair_rule l) l.used && room_rule l)

listed_good : (l : Ledger) (k : ℕ) → drop l.used l.nodes ≡ replicate k blank → in_use l ≡ true → listed_rules l ≡ true
unfolding listed_rules
listed_good l k e t =
    let h = simp both at t in
    simp (both, up_to_t (unused_rule l), unused_t l) (h.0, (h.1, λ n p q. unused l k n e))

let_in : (l : Ledger) (k : ℕ) → drop l.used l.nodes ≡ replicate k blank → Sized l → in_use l ≡ true → empties_pushed l ≡ false → LetIn l
let_in l k rest sized listed e = record { sized = sized; listed = listed_good l k rest listed; unreal = not_real l sized e }

pub earlier_rule_let_in_others : EarlierRuleLetInOthers
unfolding opens at sum_by stolen_in state_of stolen_of up_to alone_rule child_rule left_is pair_rule stages_listed node_listed empties_pushed same_finds reportable joined_of join_all join unready ended
earlier_rule_let_in_others = (
  let_in (empty_root none none UNREPORTED) (slots_after 1) refl refl refl refl,
  (
    let_in (empty_root (finds 4 1 2) none PREPARED) (slots_after 1) refl refl refl refl,
    (let_in (empty_root (finds 4 1 2) (finds 4 1 2) PUSHED) (slots_after 1) refl refl refl refl, tt),
  ),
)
