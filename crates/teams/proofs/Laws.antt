-- What the code of a step needs of the definitions, over plain variables.
use mathlib.Core.Path.{◌≡◌, refl}
use mathlib.Core.Logic.{◌≢◌}
use mathlib.Core.Bool.{Bool, true, false, cond, ◌||◌, true≢false}
use mathlib.Core.List.{List}
use Prim.Native.Nat.{ℕ, ◌≤◌, ◌<◌}
use native.Mathlib.Omega.{arith}
use native.Mathlib.Decide.{dec_le, dec_lt}
use lib.Dec.{T, eqb}
use lib.IntN.{ℤ, pos}
use borrow.Author.Tests.{ne_eqb, not-false}
use Rattle.numbers.specs.Fields.{within, nat_of}
use Rattle.numbers.proofs.Laws.{within_true}
use Rattle.rules.specs.declared.Ledger.{Ledger}
use Rattle.rules.specs.declared.Request.{Request}
use Rattle.rules.specs.declared.View.{View}
use Rattle.rules.specs.declared.Outcome.{Outcome}
use Rattle.rules.specs.declared.Change.TheVariants.{Keep}
use Rattle.rules.specs.Limits.{max_teams, max_cap}
use Rattle.rules.specs.Refusals.{all_tests, own_tests, advance_tests, mark_tests, expand_tests, report_tests, push_tests, own_code, advance_code, mark_code, expand_code, report_code, push_code, kind_code, refusal}
use Rattle.rules.specs.Requests.{refused, refusing, outcome, owning, advancing, marking, expanding, looking, reporting, pushing, granted, decided, view, node_in, answered, requested}
use Rattle.rules.specs.Table.{at}
use Rattle.rules.specs.Tests.{Test, first}
use Rattle.rules.specs.WellFormed.{well_formed, Sized}
use Rattle.rules.proofs.Granted.{each_granted}
use Rattle.rules.proofs.Keeps.{requested_wf}
use Rattle.rules.proofs.Record.{WF, rules, both_sound, used_high}
use Rattle.rules.proofs.Spare.{spare}
use Rattle.rules.proofs.Tests.{lacks, passed_to, passed, each_kind}
use Rattle.steps.specs.declared.Team.{Team}
use Rattle.steps.specs.Records.{max_node, is_stopped}
use Rattle.steps.specs.Step.{step_from, step_at, unfit, later_tests, solo_code, step_unless, solo_step}
use Rattle.steps.specs.Turn.{asks, turned}
use Rattle.places.specs.Clipped.{clipped_asks, Limited}
use Rattle.places.proofs.Laws.{unclipped_asks, unclipped_moves}
use Rattle.teams.specs.Clipped.{heard, with_ledger, clipped_turn, clipped_step, Ready, UnclippedTurn}

-- ---- the limits of what a team sees

-- no answer tells of a left child past those in view
pub left_small : (v : View) (q : Request) (k : ℕ) → v.node.left ≤ k → v.pair ≤ k → (decided v q).answer.left ≤ k
unfolding decided
left_small v q k node pair = refused_or (eqb (refusal v q) 0)
  where
    refused_or : (b : Bool) → (cond b (granted v q) (outcome (refusing v (refusal v q)) Keep)).answer.left ≤ k
    refused_or true =
        unfold owning advancing marking expanding looking reporting pushing in (each_granted
        (λ (o : Outcome). o.answer.left ≤ k)
        v
        q
        (omega arith)
        (omega arith)
        (omega arith)
        pair
        node
        (omega arith)
        (omega arith))
    refused_or false = late (eqb (refusal v q) 16)
      where
        late : (b : Bool) → cond b v.node.left 0 ≤ k
        late true = node
        late false = omega arith

module _ (l : Ledger) (w : WF l) where
  child_small : (n : ℕ) → 1 ≤ n → (at l n).left ≤ max_node
  child_small n low = go (dec_le n l.used) (dec_lt 0 (at l n).left)
    where
      go : Dec (n ≤ l.used) → Dec (0 < (at l n).left) → (at l n).left ≤ max_node
      go (no h) d = rw (w.blank n (omega arith)) (omega arith)
      go (yes h) (yes k) = omega (arith, ((w.node n (record { low = low; high = h })).pair k).inside, used_high l w)
      go (yes h) (no k) = omega arith

  any_child_small : (n : ℕ) → (at l n).left ≤ max_node
  any_child_small n = go (dec_le 1 n)
    where
      zeroth : at l 0 ≡ at l 1
      zeroth = unfold at in refl

      go : Dec (1 ≤ n) → (at l n).left ≤ max_node
      go (yes h) = child_small n h
      go (no h) = let z : n ≡ 0 = omega arith in rw (z, zeroth) (child_small 1 (omega arith))

  -- a well-formed ledger shows a team nothing past the limits
  pub in_limits : (number : ℕ) (r : Team) (n : ℕ) → Limited number r → Ready number r (view l n)
  unfolding view
  in_limits number r n limited =
      record {
        limited = limited;
        left_high = any_child_small n;
        pair_high = omega (arith, (spare l w).next, used_high l w);
      }

  pub answer_small : (q : Request) → (requested l q).answer.left ≤ max_node
  unfolding answered view
  answer_small q =
      rw
      (requested_wf l q w)
      (left_small (view l (node_in q)) q max_node (any_child_small (node_in q)) (omega (arith, (spare l w).next, used_high l w)))

-- ---- 1 is the code of no refusal but that of a ledger that is not well formed

never_one : (v : View) (q : Request) → refusal v q ≢ 1
unfolding refusal kind_code own_code advance_code mark_code expand_code report_code push_code
never_one v q e =
    each_kind
    (λ (c : ℕ). c ≢ 1)
    (nat_of q.kind)
    (own_code v.node)
    (advance_code v.node q)
    (mark_code v q)
    (expand_code v.node)
    0
    (report_code v.node q)
    (push_code v)
    (nothing (own_tests v.node) tt)
    (nothing (advance_tests v.node q) tt)
    (nothing (mark_tests v q) tt)
    (nothing (expand_tests v.node) tt)
    (λ z. omega arith)
    (nothing (report_tests v.node q) tt)
    (nothing (push_tests v) tt)
    (passed_to 1 (all_tests v q) (kind_code v q) tt e).1
  where
    nothing : (ts : List Test) → T (lacks 1 ts) → first ts 0 ≢ 1
    nothing ts p e = let z = (passed_to 1 ts 0 p e).1 in omega arith

not_one : (v : View) (q : Request) → (decided v q).answer.code ≢ 1
unfolding decided
not_one v q = refused_or (eqb (refusal v q) 0)
  where
    refused_or : (b : Bool) → (cond b (granted v q) (outcome (refusing v (refusal v q)) Keep)).answer.code ≢ 1
    refused_or true =
        unfold owning advancing marking expanding looking reporting pushing in (each_granted
        (λ (o : Outcome). o.answer.code ≢ 1)
        v
        q
        (omega arith)
        (omega arith)
        (omega arith)
        (omega arith)
        (omega arith)
        (omega arith)
        (omega arith))
    refused_or false = never_one v q

-- ---- a turn within the limits

pub unclipped_turn : UnclippedTurn
unfolding clipped_turn turned heard
unclipped_turn number cap r v ready =
    let q = asks number r in
    let small : (decided v q).answer.left ≤ max_node = left_small v q max_node ready.left_high ready.pair_high in
    rw (unclipped_asks number r ready.limited, unclipped_moves number cap r (decided v q).answer ready.limited.node_high small)

-- ---- the tests passed

neither : (a b : Bool) → (a || b) ≡ false → (a ≡ false) × (b ≡ false)
neither true b e = absurd (true≢false e)
neither false b e = (refl, e)

fit_limits : (number : ℕ) (cap : ℤ) (r : Team) → number ≤ max_teams → unfit cap r ≡ false → Limited number r
fit_limits number cap r small e =
    let a = neither _ _ e in
    let b = neither _ _ a.1 in
    let c = within_true cap 1 max_cap (not-false (within cap 1 max_cap) a.0) in
    let n = within_true (pos r.node) 1 max_node (not-false (within (pos r.node) 1 max_node) b.0) in
    let s = within_true (pos r.size) 1 (nat_of cap) (not-false (within (pos r.size) 1 (nat_of cap)) b.1) in
    record { number_high = small; node_high = n.high; size_high = omega (arith, s.high, c.high) }

-- ---- a step

module _ (l : Ledger) (number cap : ℤ) (r : Team) where
  abbrev t : ℕ
  t = nat_of number

  abbrev later : ℕ
  later = first (later_tests l.teams number cap r) 0

  -- the request is made; on a ledger that is not well formed its code is 1
  module _ (sized : Sized l) (passes : later ≡ 0) (going : is_stopped r.place ≡ false) where
    abbrev q : Request
    q = clipped_asks t r

    limits : well_formed l ≡ true → Limited t r
    limits formed =
        let p = (passed (later_tests l.teams number cap r) 0 tt passes).0 in
        let n = within_true number 1 l.teams (not-false (within number 1 l.teams) p.0) in
        fit_limits t cap r (omega (arith, n.high, (rules l (both_sound sized formed)).limits.teams_high)) p.1.0

    pub step_made : clipped_step t (nat_of cap) l r ≡ solo_step l number cap r
    unfolding clipped_step solo_step solo_code step_unless answered
    step_made = go (well_formed l) refl
      where
        unformed : well_formed l ≡ false → requested l q ≡ record { ledger = l; answer = refused 1 }
        unformed e = unfold requested in (rw e)

        made : (limited : Limited t r) → (requested l q).answer.left ≤ max_node
            → with_ledger (requested l q).ledger (heard t (nat_of cap) r q (requested l q).answer Keep) ≡ step_at t (nat_of cap) l r
        made limited small =
            unfold step_from heard in
            (rw (going, unclipped_moves t (nat_of cap) r (requested l q).answer limited.node_high small, unclipped_asks t r limited))

        go : (b : Bool) → well_formed l ≡ b → clipped_step t (nat_of cap) l r ≡ solo_step l number cap r
        go false e = rw (unformed e, e)
        go true e =
            let sound = both_sound sized e in
            let one : (requested l q).answer.code ≢ 1 = rw (requested_wf l q (rules l sound)) (not_one (view l (node_in q)) q) in
            rw (e, passes, ne_eqb _ 1 one) (made (limits e) (answer_small l (rules l sound) q))
