-- The twelve examples, by computation. That unused slots are all 0 is a lemma: computed, it would read each slot from the start.
use mathlib.Core.Path.{◌≡◌, refl}
use mathlib.Core.Bool.{Bool, true, ◌&&◌}
use Prim.Native.Nat.{ℕ, ◌+◌, ◌-◌, ◌<◌}
use native.Mathlib.Omega.{arith}
use lib.ListN.{take, drop, replicate}
use lib.Seq.{get_or-drop}
use Rattle.rules.specs.Joining.{same_finds, reportable, join_all, join}
use Rattle.rules.specs.declared.Ledger.{Ledger}
use Rattle.rules.specs.Examples.{Example, Right, example_a, example_b, example_c, example_d, example_e, example_f, example_g, example_h, example_i, example_j, example_k, example_l}
use Rattle.rules.specs.Demands.{TwelveExamples}
use Rattle.rules.specs.Limits.{opens, slots_after}
use Rattle.rules.specs.Nodes.{blank, middle, left_part, right_part, joined_of}
use Rattle.rules.specs.States.{state_of, stolen_of, unready}
use Rattle.rules.specs.Table.{at, put, next_pair, grown, sum_by, stolen_in}
use Rattle.rules.specs.WellFormed.{up_to, alone_rule, child_rule, node_rule, left_is, pair_rule, room_rule, root_range, numbers_rule, unused_rule, well_formed, stage_rule}
use Rattle.rules.specs.Refusals.{own_code, advance_code, mark_code, expand_code, kind_code, refusal}
use Rattle.rules.specs.Requests.{owning, batch_end, advancing, marking, expanding, looking, granted, decided, view, changed, answered, requested}
use Rattle.rules.specs.Count.{rest_of, unclaimed, counted}
use Rattle.rules.proofs.Facts.{both, up_to_t}
use Rattle.rules.proofs.Opens.{all_blank}
use Rattle.rules.proofs.Record.{unused_t}

-- every rule but that of the unused slots
abbrev pub in_use : Ledger → Bool
in_use l = numbers_rule l && (root_range l && up_to (node_rule l) l.used && up_to (pair_rule l) l.used && room_rule l)

-- after the nodes in use there are k slots, all 0
pub unused : (l : Ledger) (k n : ℕ) → drop l.used l.nodes ≡ replicate k blank → l.used < n → at l n ≡ blank
unfolding at
unused l k n e h =
    let i : l.used + (n - 1 - l.used) ≡ n - 1 = omega arith in
    rw (← i, ← get_or-drop l.used l.nodes (n - 1 - l.used) blank, e) (all_blank k (n - 1 - l.used))

pub good : (l : Ledger) (k : ℕ) → drop l.used l.nodes ≡ replicate k blank → in_use l ≡ true → well_formed l ≡ true
unfolding well_formed
good l k e t =
    let h = simp both at t in
    simp (both, up_to_t (unused_rule l), unused_t l) (h.0, (h.1, λ n p q. unused l k n e))

right : (x : Example) (k : ℕ) → drop x.ledger.used x.ledger.nodes ≡ replicate k blank → in_use x.ledger ≡ true
    → unclaimed x.ledger ≡ x.rest
    → (answered x.ledger x.asked).answer ≡ x.answer
    → take (answered x.ledger x.asked).ledger.used (answered x.ledger x.asked).ledger.nodes ≡ x.nodes
    → Right x
unfolding requested counted
right x k e t rest answer nodes =
    let w = good x.ledger k e t in
    record { unclaimed = rw (w, rest); answered = rw w answer; afterwards = rw w nodes }

also : {A B : Type 0} → A → B → A × B
also a b = (a, b)

pub twelve_examples : TwelveExamples
unfolding opens middle left_part right_part state_of stolen_of at put next_pair grown sum_by stolen_in up_to alone_rule child_rule node_rule left_is pair_rule own_code advance_code mark_code expand_code kind_code refusal owning batch_end advancing marking expanding looking granted decided view changed answered rest_of unclaimed stage_rule same_finds reportable joined_of join_all join unready
twelve_examples =
    also (right example_a (slots_after 1) refl refl refl refl refl)
    (also (right example_b (slots_after 1) refl refl refl refl refl)
    (also (right example_c (slots_after 1) refl refl refl refl refl)
    (also (right example_d (slots_after 1) refl refl refl refl refl)
    (also (right example_e (slots_after 1) refl refl refl refl refl)
    (also (right example_f (slots_after 1) refl refl refl refl refl)
    (also (right example_g (slots_after 1) refl refl refl refl refl)
    (also (right example_h (slots_after 1) refl refl refl refl refl)
    (also (right example_i (slots_after 3) refl refl refl refl refl)
    (also (right example_j (slots_after 1) refl refl refl refl refl)
    (also (right example_k (slots_after 1) refl refl refl refl refl)
    (also (right example_l (slots_after 1) refl refl refl refl refl) tt)))))))))))
