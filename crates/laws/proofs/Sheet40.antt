-- The student's three steps, and the answer, proved.
use mathlib.Core.Path.{◌≡◌, refl, sym, ap, ◌∙◌}
use mathlib.Core.Logic.{◌≢◌, ◌⊎◌, inl, inr}
use mathlib.Core.Bool.{true, true≢false}
use mathlib.Core.List.{List, ◌∷◌}
use Prim.Native.Nat.{ℕ, ◌+◌, ◌<◌}
use native.Mathlib.Omega.{arith}
use native.Mathlib.Decide.{dec_lt}
use lib.IntN.{ℤ, pos, negsuc}
use Rattle.numbers.specs.Progress.{negative, position}
use Rattle.numbers.specs.Fields.{within, nat_of}
use Rattle.numbers.proofs.Laws.{Within, within_made}
use Rattle.rules.specs.declared.Node.{Node}
use Rattle.rules.specs.declared.Ledger.{Ledger}
use Rattle.rules.specs.declared.Request.{Request}
use Rattle.rules.specs.declared.Answer.{Answer}
use Rattle.rules.specs.Asks.{ADVANCE, MARK, EXPAND}
use Rattle.rules.specs.LateClaim.{Late}
use Rattle.rules.specs.Limits.{max_amount}
use Rattle.laws.specs.Listing.{after_all}
use Rattle.rules.specs.Nodes.{moved, parted, position_of, middle, left_part, right_part}
use Rattle.rules.specs.Requests.{batch_end, node_in, requested}
use Rattle.laws.specs.Sheet40.{ClaimGranted, MarkGranted, SplitGranted, InBatch, InNode, ClaimStands, LateClaimRefused, MarkReadBack, MarkIsFinal, SharedOut, SplitStartsAtMark, SamePlace, ToClaimer, ToStealer, HerAnswer}
use Rattle.rules.specs.Table.{InUse, at, next_pair}
use Rattle.rules.specs.WellFormed.{Sized}
use Rattle.laws.proofs.Batches.{sheets-join}
use Rattle.rules.proofs.Granted.{Asked, in_use}
use Rattle.rules.proofs.LateClaim.{late_claim}
use Rattle.rules.proofs.Nodes.{at_same}
use Rattle.laws.proofs.Runs.{run_good, run_range}
use Rattle.rules.proofs.Keeps.{requested_good}
use Rattle.laws.proofs.Onward.{Onward, requested-later, run_later}
use Rattle.rules.proofs.Record.{WF, in_table, rules_back}
use Rattle.laws.proofs.Claims.{Claimed, Parted, is_claimed, is_marked, is_parted, granted_wf}
use Rattle.rules.proofs.Expand.{Slots, split_slots}

-- ---- the first step

pub claim_stands : ClaimStands
claim_stands l r g =
    let c = is_claimed l r g in
    let h = c.facts.here in
    record { unmarked = h.plain; stands = h.same; «from» = rw c.answer (sym h.progress_is) }

-- in its limits, as a test
tested : (z : ℤ) (a b : ℕ) → Within z a b → within z a b ≡ true
tested z a b w = ap (λ i. within i a b) w.is ∙ within_made (nat_of z) a b w.low w.high

-- what the claim found stays: its team, its node, and who owns it
still_late : (l : Ledger) (claim : Request) (between : List Request) (w : WF l) (g : ClaimGranted l claim)
    → claim.position ≢ (at (after_all l between) (node_in claim)).progress
    → Late (after_all l between) claim
still_late l claim between w g passed =
    let c = is_claimed l claim g in
    let u = in_use l claim c.asked in
    let later = run_later l between w in
    let v = later.used (node_in claim) u in
    let team = c.asked.team in
    let owner = (later.each (node_in claim) u).owner (omega (arith, c.facts.mine, team.low)) in
    record {
      kind = c.asked.kind.is ∙ ap pos g.kind_is;
      team =
          tested claim.team 1 (after_all l between).teams (record { is = team.is; low = team.low; high = omega (arith, team.high, (run_range l between w).teams) });
      node = tested claim.node 1 (after_all l between).used (record { is = c.asked.node.is; low = v.low; high = v.high });
      amount = tested claim.amount 1 max_amount c.facts.amount;
      mine = team.is ∙ ap pos (sym (owner ∙ c.facts.mine));
      passed = passed;
    }

pub late_claim_refused : LateClaimRefused
late_claim_refused l claim between sized g passed =
    let w = granted_wf l claim ADVANCE sized g in
    late_claim (after_all l between) claim (rules_back (after_all l between) (run_later l between w).wf) (still_late l claim between w g passed)

-- ---- the second step

pub mark_read_back : MarkReadBack
mark_read_back l r sized g =
    let w = granted_wf l r MARK sized g in
    let m = is_marked l r g in
    let h = m.facts.here in
    rw
    (m.ledger, at_same l (node_in r) (moved (at l (node_in r)) (negsuc (position_of (at l (node_in r))))) m.asked.node.low (in_table l w (node_in r) (in_use l r m.asked)))
    (record { mark = refl; back = sym (h.same ∙ h.progress_is) })

-- the node that a granted request names is in use then and later, and only moves onward
module _ (l : Ledger) (r : Request) (between : List Request) (w : WF l) (asked : Asked l.teams l.used r) where
  onward_since : Onward (at (requested l r).ledger (node_in r)) (at (after_all l (r ∷ between)) (node_in r))
  unfolding after_all
  onward_since =
      let a = requested-later l r w in
      (run_later (requested l r).ledger between a.wf).each (node_in r) (a.used (node_in r) (in_use l r asked))

pub mark_is_final : MarkIsFinal
mark_is_final l mark claim between sized same g c =
    let w = granted_wf l mark MARK sized g in
    let b = mark_read_back l mark sized g in
    let o = onward_since l mark between w (is_marked l mark g).asked in
    let plain = rw same at (claim_stands (after_all l (mark ∷ between)) claim c).unmarked in
    true≢false (sym b.mark ∙ ap negative (sym (o.stands b.mark)) ∙ plain)

-- ---- the third step

pub split_starts_at_mark : SplitStartsAtMark
unfolding left_part right_part middle
split_starts_at_mark l r sized g =
    let w = granted_wf l r EXPAND sized g in
    let p = is_parted l r g in
    let u = in_use l r p.asked in
    let q = split_slots l w (node_in r) u p.facts in
    rw
    (p.ledger, p.answer, q.left, q.right)
    (record {
      mark = p.facts.mark;
      left_start = refl;
      left_until = refl;
      right_start = refl;
      right_until = refl;
      exactly = sheets-join _ _ _ (omega arith) (omega (arith, (w.node (node_in r) u).alone.high));
    })

-- the new nodes are in use, and whatever follows their ranges stay: one of the two has the position
module _ (l : Ledger) (r : Request) (later : List Request) (w : WF l) (g : SplitGranted l r) where
  abbrev left : ℕ
  left = (requested l r).answer.left

  abbrev next : Ledger
  next = after_all l (r ∷ later)

  p : Parted l r (requested l r)
  p = is_parted l r g

  left_is_lem : left ≡ next_pair l
  left_is_lem = ap (λ (a : Answer). a.left) p.answer

  new : Slots l (requested l r).ledger (node_in r) left (parted (at l (node_in r)) left) (left_part (at l (node_in r))) (right_part (at l (node_in r)))
  new = rw (p.ledger, left_is_lem) (split_slots l w (node_in r) (in_use l r p.asked) p.facts)

  new_onward : (m : ℕ) → InUse (requested l r).ledger m → Onward (at (requested l r).ledger m) (at next m)
  unfolding after_all
  new_onward = (run_later (requested l r).ledger later (requested_good l r w)).each

  position_in_half : (s : ℕ) → s ≡ position_of (at l (node_in r))
      → InNode s (at next left) ⊎ InNode s (at next (left + 1))
  position_in_half s e = go (dec_lt s (middle x))
    where
      x : Node
      x = at l (node_in r)

      o : SharedOut x (at (requested l r).ledger left) (at (requested l r).ledger (left + 1))
      o = split_starts_at_mark l r w.slots g

      a : Onward (at (requested l r).ledger left) (at next left)
      a = new_onward left new.left_used

      b : Onward (at (requested l r).ledger (left + 1)) (at next (left + 1))
      b = new_onward (left + 1) new.right_used

      unclaimed : s < x.until
      unclaimed = omega (arith, (w.node (node_in r) (in_use l r p.asked)).alone.some_left p.facts.mark)

      go : Dec (s < middle x)
          → InNode s (at next left) ⊎ InNode s (at next (left + 1))
      go (yes h) =
          inl (record {
            low = omega (arith, a.start, o.left_start);
            high = omega (arith, a.until, o.left_until);
          })
      go (no h) =
          inr (record {
            low = omega (arith, b.start, o.right_start);
            high = omega (arith, b.until, o.right_until, unclaimed);
          })

-- ---- the answer

module _ (l : Ledger) (claim steal : Request) (between : List Request) (sized : Sized l)
    (place : SamePlace claim steal) where
  -- the position has passed the sheet, and never returns
  to_claimer : ClaimGranted l claim → ToClaimer l claim steal between
  to_claimer g = record { granted = inside; refused = refused }
    where
      n : ℕ
      n = node_in claim

      k : Ledger
      k = after_all l (claim ∷ between)

      w : WF l
      w = granted_wf l claim ADVANCE sized g

      c : Claimed l claim (requested l claim)
      c = is_claimed l claim g

      passed : nat_of claim.position < batch_end (at l n) claim
      passed =
          let h = c.facts.here in
          omega
          (arith, h.position_is, c.facts.end, c.facts.amount.low, h.more, (w.node n (in_use l claim c.asked)).alone.high)

      inside : InBatch (nat_of claim.position) (requested l claim).answer
      inside = rw c.answer (record { low = omega (arith, c.facts.here.position_is); high = passed })

      beyond : nat_of claim.position < position_of (at k n)
      beyond =
          let y = moved (at l n) (pos (batch_end (at l n) claim)) in
          let o : Onward y (at k n) =
          rw (c.ledger, at_same l n y c.asked.node.low (in_table l w n (in_use l claim c.asked))) at (onward_since l claim between w c.asked) in
          omega (arith, passed, o.forward)

      refused : MarkGranted k steal → ⊥
      refused m =
          let h = (is_marked k steal m).facts.here in
          let e : nat_of claim.position ≡ position_of (at k n) = ap nat_of place.position ∙ h.position_is ∙ rw place.node in
          omega (arith, beyond)

  -- the mark stands, and the split starts there
  to_stealer : MarkGranted l steal → ToStealer l claim steal between
  to_stealer g =
      record {
        refused = mark_is_final l steal claim between sized place.node g;
        moved = λ split later same h. position_in_half k split later later_wf h (nat_of steal.position) (rw same marked_at);
      }
    where
      n : ℕ
      n = node_in steal

      k : Ledger
      k = after_all l (steal ∷ between)

      w : WF l
      w = granted_wf l steal MARK sized g

      marked_at : nat_of steal.position ≡ position_of (at k n)
      marked_at =
          let b = mark_read_back l steal sized g in
          let o = onward_since l steal between w (is_marked l steal g).asked in
          ap nat_of (sym b.back) ∙ ap position (sym (o.stands b.mark))

      later_wf : WF k
      later_wf = run_good l (steal ∷ between) w

pub her_answer : HerAnswer
her_answer l claim steal between sized place =
    (to_claimer l claim steal between sized place, to_stealer l claim steal between sized place)
