-- The numbers of a well-formed ledger have 32 bits, those of its results too.
use mathlib.Core.Path.{◌≡◌, refl, ap}
use mathlib.Core.Bool.{Bool, true, false, cond}
use Prim.Native.Nat.{ℕ, zero, suc, ◌+◌, ◌≤◌, ◌<◌}
use native.Mathlib.Decide.{ℕ_discrete, dec_le, dec_lt}
use native.Mathlib.Omega.{arith}
use lib.Dec.{eqb}
use lib.IntN.{ℤ, pos, negsuc}
use lib.ListN.{get_or}
use lib.Signed.{mag}
use borrow.Author.Tests.{eq-eqb, ne_eqb}
use Rattle.numbers.specs.Progress.{position}
use Rattle.rules.specs.declared.Finds.{Finds}
use Rattle.rules.specs.declared.Node.{Node}
use Rattle.rules.specs.declared.Ledger.{Ledger}
use Rattle.rules.specs.Joining.{max_finds, none, first_of, last_of, join, join_all, reportable, passing}
use Rattle.rules.specs.Nodes.{UNREPORTED, PREPARED, blank, joined_of}
use Rattle.rules.specs.Table.{InUse, at}
use Rattle.rules.proofs.Facts.{facts}
use Rattle.rules.proofs.FindsFit.{joined_fits}
use Rattle.rules.proofs.Nodes.{at_next}
use Rattle.rules.proofs.Range.{within_range}
use Rattle.rules.proofs.Record.{Staged, WF, sound, used_high, left_used, right_used}
use Rattle.layout.specs.Numbers.{words}

-- ---- a result

pub record Fitting (f : Finds) : Type 0 where
  pub count : f.count < words
  pub first : f.first < words
  pub last : f.last < words

-- labels that may be reported
record Labelled (f : Finds) : Type 0 where
  first : f.first ≤ max_finds
  last : f.last ≤ max_finds

none_labelled : {f : Finds} → f ≡ none → Labelled f
none_labelled e =
    record {
      first = let z = ap (λ (f : Finds). f.first) e in omega arith;
      last = let z = ap (λ (f : Finds). f.last) e in omega arith;
    }

passing_labelled : (f : Finds) → passing f ≡ true → Labelled f
unfolding reportable
passing_labelled f e = let h = simp facts at e in record { first = h.0.0.1.1; last = h.0.1.1 }

-- a label of the first part that has finds, or of the parts after it
chosen : (b : Bool) (m n : ℕ) → m ≤ max_finds → n ≤ max_finds → cond b m n ≤ max_finds
chosen true m n p q = p
chosen false m n p q = q

join_labelled : (f g : Finds) → Labelled f → Labelled g → Labelled (join f g)
unfolding join
join_labelled f g p q =
    let z : 0 ≤ max_finds = omega arith in
    record {
      first = chosen (eqb f.count 0) (first_of g 0) f.first (chosen (eqb g.count 0) 0 g.first z q.first) p.first;
      last = chosen (eqb g.count 0) (last_of f 0) g.last (chosen (eqb f.count 0) 0 f.last z p.last) q.last;
    }

-- ---- a node's results

own_labelled : (x a b : Node) → Staged x a b → Labelled x.own
own_labelled x a b s = go (ℕ_discrete x.stage UNREPORTED) (ℕ_discrete x.stage PREPARED)
  where
    go : Dec (x.stage ≡ UNREPORTED) → Dec (x.stage ≡ PREPARED) → Labelled x.own
    go (yes e) d = none_labelled (s.unreported e).0
    go (no e) (yes f) = passing_labelled x.own (s.prepared f).own
    go (no e) (no f) = passing_labelled x.own (s.pushed (omega (arith, s.limit))).own

own_counted : (x a b : Node) → Staged x a b → x.own.count ≤ max_finds
unfolding reportable
own_counted x a b s = go (ℕ_discrete x.stage UNREPORTED) (ℕ_discrete x.stage PREPARED)
  where
    passes : passing x.own ≡ true → x.own.count ≤ max_finds
    passes e = let h = simp facts at e in h.0.0.0.1

    go : Dec (x.stage ≡ UNREPORTED) → Dec (x.stage ≡ PREPARED) → x.own.count ≤ max_finds
    go (yes e) d = let z = ap (λ (f : Finds). f.count) (s.unreported e).0 in omega arith
    go (no e) (yes f) = passes (s.prepared f).own
    go (no e) (no f) = passes (s.pushed (omega (arith, s.limit))).own

-- the joined result of a node is nothing, or the join
data Joined (x a b : Node) : Type 0 where
  nothing : x.joined ≡ none → Joined x a b
  joins : x.joined ≡ joined_of x a b → Joined x a b

joined_is : (x a b : Node) → Staged x a b → Joined x a b
joined_is x a b s = go (ℕ_discrete x.stage UNREPORTED) (ℕ_discrete x.stage PREPARED)
  where
    go : Dec (x.stage ≡ UNREPORTED) → Dec (x.stage ≡ PREPARED) → Joined x a b
    go (yes e) d = nothing (s.unreported e).1
    go (no e) (yes f) = nothing (s.prepared f).joined
    go (no e) (no f) = joins (s.pushed (omega (arith, s.limit))).joined

of_none : Labelled none
of_none = record { first = omega arith; last = omega arith }

-- the join has labels of its parts
join_fits : (x a b : Node) → Labelled x.own → (0 < x.left → Labelled a.joined × Labelled b.joined) → Labelled (joined_of x a b)
unfolding joined_of join_all
join_fits x a b own parts = go (ℕ_discrete x.left 0)
  where
    go : Dec (x.left ≡ 0) → Labelled (joined_of x a b)
    go (yes e) = rw (eq-eqb x.left 0 e) (join_labelled x.own none own of_none)
    go (no e) =
        let p = parts (omega arith) in
        rw
        (ne_eqb x.left 0 e)
        (join_labelled x.own _ own (join_labelled a.joined _ p.0 (join_labelled b.joined none p.1 of_none)))

-- ---- a node

pub record Small (x : Node) : Type 0 where
  pub start : x.start < words
  pub until : x.until < words
  pub progress : mag x.progress < 2147483648
  pub owner : x.owner < words
  pub left : x.left < words
  pub own : Fitting x.own
  pub joined : Fitting x.joined
  pub stage : x.stage < words

none_fits : Fitting none
none_fits = record { count = omega arith; first = omega arith; last = omega arith }

blank_small : Small blank
blank_small =
    record {
      start = omega arith;
      until = omega arith;
      progress = omega arith;
      owner = omega arith;
      left = omega arith;
      own = none_fits;
      joined = none_fits;
      stage = omega arith;
    }

mag_is : (z : ℤ) → mag z ≡ position z
mag_is (pos n) = refl
mag_is (negsuc n) = refl

module _ (l : Ledger) (w : WF l) where
  -- the labels of a node by those of its children
  labelled_by : (n : ℕ) → InUse l n
      → (0 < (at l n).left → Labelled (at l (at l n).left).joined × Labelled (at l ((at l n).left + 1)).joined)
      → Labelled (at l n).joined
  labelled_by n u parts = go (joined_is _ _ _ (w.node n u).staged)
    where
      go : Joined (at l n) (at l (at l n).left) (at l ((at l n).left + 1)) → Labelled (at l n).joined
      go (nothing e) = none_labelled e
      go (joins e) = rw e (join_fits (at l n) _ _ (own_labelled _ _ _ (w.node n u).staged) parts)

  -- children have greater numbers, so the tree below node n is no deeper than the numbers after it
  labelled : (d n : ℕ) → InUse l n → l.used ≤ n + d → Labelled (at l n).joined
  labelled zero n u h =
      labelled_by n u (λ some. absurd (omega (arith, ((w.node n u).pair some).later, ((w.node n u).pair some).inside)))
  labelled (suc d) n u h =
      labelled_by
      n
      u
      (λ some.
      let later = ((w.node n u).pair some).later in
      (labelled d (at l n).left (left_used l w n u some) (omega arith), labelled d ((at l n).left + 1) (right_used l w n u some) (omega arith)))

  joined_small : (n : ℕ) → InUse l n → Fitting (at l n).joined
  joined_small n u =
      let t = labelled l.used n u (omega arith) in
      record { count = counted (joined_is _ _ _ (w.node n u).staged); first = omega (arith, t.first); last = omega (arith, t.last) }
    where
      counted : Joined (at l n) (at l (at l n).left) (at l ((at l n).left + 1)) → (at l n).joined.count < words
      counted (nothing e) = let z = ap (λ (f : Finds). f.count) e in omega arith
      counted (joins e) =
          let z = ap (λ (f : Finds). f.count) e in
          omega (arith, joined_fits l n (sound l w) u, used_high l w)

  left_small : (n : ℕ) → InUse l n → (at l n).left < words
  left_small n u = go (dec_lt 0 (at l n).left)
    where
      go : Dec (0 < (at l n).left) → (at l n).left < words
      go (yes h) = omega (arith, ((w.node n u).pair h).inside, used_high l w)
      go (no h) = omega arith

  node_small : (n : ℕ) → InUse l n → Small (at l n)
  node_small n u =
      let r = within_range l w n u in
      let a = (w.node n u).alone in
      let s = (w.node n u).staged in
      let own = own_labelled _ _ _ s in
      record {
        start = omega (arith, r.ordered, r.high, w.limits.until_limit);
        until = omega (arith, r.high, w.limits.until_limit);
        progress = omega (arith, mag_is (at l n).progress, a.high, r.high, w.limits.until_limit);
        owner = omega (arith, a.owner, w.limits.teams_high);
        left = left_small n u;
        own = record { count = omega (arith, own_counted _ _ _ s); first = omega (arith, own.first); last = omega (arith, own.last) };
        joined = joined_small n u;
        stage = omega (arith, s.limit);
      }

  -- every slot, in use or not
  pub slot_small : (i : ℕ) → Small (get_or l.nodes i blank)
  slot_small i = go (dec_le (i + 1) l.used)
    where
      go : Dec (i + 1 ≤ l.used) → Small (get_or l.nodes i blank)
      go (yes h) = rw (← at_next l i) (node_small (i + 1) (record { low = omega arith; high = h }))
      go (no h) = rw (← at_next l i, w.blank (i + 1) (omega arith)) blank_small
