-- The exceptions are real, by computation. That each ledger is well formed is computed once; the second request finds it so by a theorem.
use mathlib.Core.Path.{◌≡◌, refl, ap, ◌∙◌}
use mathlib.Core.Logic.{◌≢◌}
use mathlib.Core.Bool.{true}
use Prim.Native.Nat.{ℕ, ◌≤◌}
use native.Mathlib.Omega.{arith}
use lib.ListN.{drop, replicate}
use Rattle.rules.specs.declared.Answer.{Answer}
use Rattle.rules.specs.declared.Ledger.{Ledger}
use Rattle.rules.specs.declared.Request.{Request}
use Rattle.rules.specs.Joining.{same_finds, reportable, join_all, join}
use Rattle.rules.specs.Limits.{opens, slots_after}
use Rattle.rules.specs.Nodes.{blank, middle, left_part, right_part, joined_of}
use Rattle.rules.specs.Refusals.{mark_code, expand_code, push_code, kind_code, refusal}
use Rattle.rules.specs.Requests.{marking, expanding, pushing, granted, decided, view, changed, answered, node_in}
use Rattle.rules.specs.States.{state_of, stolen_of, unready, ended}
use Rattle.rules.specs.Table.{at, put, next_pair, grown, sum_by, stolen_in}
use Rattle.rules.specs.WellFormed.{Sized, Sound, up_to, alone_rule, child_rule, node_rule, left_is, pair_rule, stage_rule}
use Rattle.rules.proofs.Examples.{in_use, good}
use Rattle.rules.proofs.Keeps.{requested_wf, wf_answered}
use Rattle.rules.proofs.Record.{WF, rules}
use Rattle.either_order.specs.Cases.{Answers, answers, Case, two_expands, two_marks_in, two_marks, parent_and_child, asked, asked_back, Differs, ExceptionsAreReal, ThreeAreTight}
use Rattle.either_order.specs.Demands.{Apart}
use Rattle.either_order.specs.Exceptions.{both_split, either_pushes, kinds_matter, tight, both_need_room, order_matters}

same_answers : (a a' b b' : Answer) → a ≡ a' → b ≡ b' → answers a b ≡ answers a' b'
same_answers a a' b b' e f = cc

-- on a well-formed ledger both requests are answered by their own tests
module _ (l : Ledger) (w : WF l) (r s : Request) where
  onward : asked l r s ≡ answers (answered l r).answer (answered (answered l r).ledger s).answer
  onward = rw (requested_wf l r w, requested_wf (answered l r).ledger s (wf_answered l r w))

  backward : asked_back l r s ≡ answers (answered (answered l s).ledger r).answer (answered l s).answer
  backward = rw (requested_wf l s w, requested_wf (answered l s).ledger r (wf_answered l s w))

module _ (c : Case) where
  abbrev l : Ledger
  l = c.ledger

  differs : (k : ℕ) → Sized l → drop l.used l.nodes ≡ replicate k blank → in_use l ≡ true → Apart l c.one c.other
      → order_matters l c.one c.other ≡ true
      → (answered l c.one).answer ≡ c.onward.one
      → (answered (answered l c.one).ledger c.other).answer ≡ c.onward.other
      → (answered (answered l c.other).ledger c.one).answer ≡ c.backward.one
      → (answered l c.other).answer ≡ c.backward.other
      → c.onward ≢ c.backward
      → Differs c
  differs k slots rest t apart m a b d e ne =
      let sound : Sound l = record { sized = slots; formed = good l k rest t } in
      record {
        sound = sound;
        apart = apart;
        matters = m;
        onward = onward l (rules l sound) c.one c.other ∙ same_answers _ _ _ _ a b;
        backward = backward l (rules l sound) c.one c.other ∙ same_answers _ _ _ _ d e;
        differ = ne;
      }

also : {A B : Type 0} → A → B → A × B
also a b = (a, b)

apart_at : (l : Ledger) (r s : Request) → 1 ≤ node_in r → node_in r ≤ l.used → 1 ≤ node_in s → node_in s ≤ l.used → node_in r ≢ node_in s → Apart l r s
apart_at l r s a b d e ne = record { first = record { low = a; high = b }; second = record { low = d; high = e }; differ = ne }

-- the number of the pair, or the code, that the one is given
pairs-differ : two_expands.onward ≢ two_expands.backward
pairs-differ e = let z : ◌≡◌ {A = ℕ} 4 6 = ap (λ (a : Answers). a.one.left) e in omega arith

codes-differ : (room : ℕ) → (two_marks_in room).onward ≢ (two_marks_in room).backward
codes-differ room e = let z : ◌≡◌ {A = ℕ} 0 14 = ap (λ (a : Answers). a.one.code) e in omega arith

pushes_differ : parent_and_child.onward ≢ parent_and_child.backward
pushes_differ e = let z : ◌≡◌ {A = ℕ} 36 0 = ap (λ (a : Answers). a.one.code) e in omega arith

pub exceptions_are_real : ExceptionsAreReal
unfolding opens middle left_part right_part state_of stolen_of at put next_pair grown sum_by stolen_in up_to alone_rule child_rule node_rule left_is pair_rule mark_code expand_code push_code kind_code refusal marking expanding pushing granted decided view changed answered stage_rule same_finds reportable joined_of join_all join unready ended both_split either_pushes kinds_matter tight both_need_room order_matters
exceptions_are_real =
    also (differs two_expands (slots_after 3) refl refl refl (apart_at two_expands.ledger two_expands.one two_expands.other (omega arith) (omega arith) (omega arith) (omega arith) (omega arith)) refl refl refl refl refl pairs-differ)
    (also (differs two_marks (slots_after 3) refl refl refl (apart_at two_marks.ledger two_marks.one two_marks.other (omega arith) (omega arith) (omega arith) (omega arith) (omega arith)) refl refl refl refl refl (codes-differ 5))
    (also (differs parent_and_child (slots_after 3) refl refl refl (apart_at parent_and_child.ledger parent_and_child.one parent_and_child.other (omega arith) (omega arith) (omega arith) (omega arith) (omega arith)) refl refl refl refl refl pushes_differ) tt))

pub three_are_tight : ThreeAreTight
unfolding opens middle left_part right_part state_of stolen_of at put next_pair grown sum_by stolen_in up_to alone_rule child_rule node_rule left_is pair_rule mark_code expand_code push_code kind_code refusal marking expanding pushing granted decided view changed answered stage_rule same_finds reportable joined_of join_all join unready ended both_split either_pushes kinds_matter tight both_need_room order_matters
three_are_tight =
    differs (two_marks_in 6) (slots_after 3) refl refl refl (apart_at (two_marks_in 6).ledger (two_marks_in 6).one (two_marks_in 6).other (omega arith) (omega arith) (omega arith) (omega arith) (omega arith)) refl refl refl refl refl (codes-differ 6)
