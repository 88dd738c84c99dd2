-- A pushed root holds each report once, joined in the order of the story; and what is reported is final.
use Prim.Native.Nat.{ℕ, ◌+◌, ◌≤◌, ◌<◌}
use mathlib.Core.Path.{◌≡◌, refl, sym, ap, ◌∙◌}
use mathlib.Core.Logic.{◌≢◌}
use mathlib.Core.Bool.{Bool, true, false, cond, true≢false, or-true}
use mathlib.Core.List.{List, [], ◌∷◌, ◌++◌}
use native.Mathlib.Omega.{arith}
use native.Mathlib.Decide.{ℕ_discrete, dec_le}
use lib.Dec.{eqb}
use lib.IntN.{pos}
use lib.ListN.{length}
use borrow.Author.Tests.{eq-eqb, ne_eqb}
use Rattle.rules.specs.declared.Finds.{Finds}
use Rattle.rules.specs.declared.Node.{Node}
use Rattle.rules.specs.declared.Ledger.{Ledger}
use Rattle.rules.specs.declared.Opening.{Opening}
use Rattle.rules.specs.declared.Request.{Request}
use Rattle.rules.specs.declared.Answered.{Answered}
use Rattle.rules.specs.Count.{rest_of, unclaimed}
use Rattle.rules.specs.Joining.{none, join, join_all}
use Rattle.rules.specs.Limits.{opens}
use Rattle.rules.specs.Nodes.{UNREPORTED, PUSHED, blank, fresh, moved, parted as parted_node, left_part, right_part, joined_of, reports_of}
use Rattle.rules.specs.Opening.{opened, ledger_of}
use Rattle.rules.specs.Requests.{batch_end, node_in, requested}
use Rattle.rules.specs.States.{completed, unready}
use Rattle.rules.specs.Table.{InUse, at, put, next_pair}
use Rattle.laws.specs.Listing.{after_all}
use Rattle.laws.specs.Story.{Report, Entry, given, found, Story, whole, report_in, reports_in, entry_of, entries, told_all}
use Rattle.laws.specs.Reports.{times_found, PushedRootHoldsEveryReport, ReportStays, ReportsAreFinal}
use Rattle.rules.proofs.Effects.{Kept, unwritten, written, Effect, rests, stores, claims, splits, effect_of, Becomes, same, stored, forked, becomes_of}
use Rattle.rules.proofs.Expand.{Slots, next, split_slots, stays}
use Rattle.rules.proofs.Granted.{in_use}
use Rattle.rules.proofs.Joining.{join_append, none_after_all}
use Rattle.rules.proofs.Keeps.{wf_answered, requested_wf, requested_good}
use Rattle.rules.proofs.Nodes.{at_same, at_other, at_next, put_used}
use Rattle.rules.proofs.Opens.{begun, opened_wf, opened_root}
use Rattle.rules.proofs.Record.{WF, rules, in_table}
use Rattle.rules.proofs.Rooted.{rooted}
use Rattle.rules.proofs.Spare.{left_blank, right_blank}
use Rattle.rules.proofs.Stages.{kids_pushed}
use Rattle.rules.proofs.States.{Stolen, claimed}
use Rattle.rules.proofs.Sums.{sum_by-zero}
use Rattle.rules.proofs.Tree.{from_root}
use Rattle.laws.proofs.Tally.{no_entry, report_entry}
use Rattle.laws.proofs.Story.{Stands, is_whole, is_parted, run_stands, begins}

-- ---- what is reported of a node, by its stage and its range

reports_one : (x : Node) → x.stage ≢ UNREPORTED → x.start ≢ x.until → reports_of x ≡ x.own ∷ []
unfolding reports_of
reports_one x s some = rw (ne_eqb x.stage UNREPORTED s, ne_eqb x.start x.until some)

reports_empty : (x : Node) → x.start ≡ x.until → reports_of x ≡ []
unfolding reports_of
reports_empty x e = rw (eq-eqb x.start x.until e, or-true)

reports_new : (a b : ℕ) → reports_of (fresh a b) ≡ []
unfolding reports_of
reports_new a b = go (ℕ_discrete a b)
  where
    go : Dec (a ≡ b) → reports_of (fresh a b) ≡ []
    go (yes e) = rw (eq-eqb a b e)
    go (no ne) = rw (ne_eqb a b ne)

reports_blank : reports_of blank ≡ []
unfolding reports_of
reports_blank = refl

nothing_joined : join_all (none ∷ []) ≡ join_all []
unfolding join_all join
nothing_joined = refl

-- ---- joined in the story's order

-- own, left, right, as the parts were joined
joined_parts : (own : Finds) (fs gs : List Finds) → join_all (own ∷ join_all fs ∷ join_all gs ∷ []) ≡ join_all (own ∷ (fs ++ gs))
unfolding join_all
joined_parts own fs gs =
    ap (λ (k : Finds). join own k) (ap (λ (k : Finds). join (join_all fs) k) (none_after_all gs) ∙ sym (join_append fs gs))

joined_leaf : (x a b : Node) → x.left ≡ 0 → joined_of x a b ≡ join_all (x.own ∷ [])
unfolding joined_of
joined_leaf x a b e = rw e

joined_fork : (x a b : Node) → 0 < x.left → joined_of x a b ≡ join_all (x.own ∷ a.joined ∷ b.joined ∷ [])
unfolding joined_of
joined_fork x a b some = rw (ne_eqb x.left 0 (omega arith))

module _ (l : Ledger) (w : WF l) where
  unreported_not : (n : ℕ) → (at l n).stage ≡ PUSHED → (at l n).stage ≢ UNREPORTED
  unreported_not n p z = absurd (omega arith)

  -- what is joined of a node that has no children is what is reported of it
  own_joined : (n : ℕ) → InUse l n → (at l n).left ≡ 0 → (at l n).stage ≡ PUSHED → (at l n).joined ≡ join_all (reports_of (at l n))
  own_joined n u leaf p =
      ((w.node n u).staged.pushed p).joined ∙ joined_leaf (at l n) _ _ leaf ∙ go (ℕ_discrete (at l n).start (at l n).until)
    where
      go : Dec ((at l n).start ≡ (at l n).until) → join_all ((at l n).own ∷ []) ≡ join_all (reports_of (at l n))
      go (yes e) =
          ap (λ (f : Finds). join_all (f ∷ [])) ((w.node n u).staged.empty e).own ∙ nothing_joined ∙ ap join_all (sym (reports_empty (at l n) e))
      go (no ne) = ap join_all (sym (reports_one (at l n) (unreported_not n p) ne))

  some-sheets : (n : ℕ) → InUse l n → 0 < (at l n).left → (at l n).start ≢ (at l n).until
  some-sheets n u some =
      let a = (w.node n u).alone in
      let left = a.some_left ((w.node n u).pair some).mark in
      omega (arith, a.low)

  joined_is : {n : ℕ} {s : Story} → Stands l n s → (at l n).stage ≡ PUSHED → (at l n).joined ≡ join_all (reports_in s)
  unfolding reports_in
  joined_is (is_whole {n = n} u e g) p = own_joined n u e p ∙ ap join_all (sym g.told)
  joined_is (is_parted {n = n} {c = c} {es = es} {x = x} {y = y} u some e g a b) p =
      let more : 0 < (at l n).left = rw e some in
      let k = rw e at (kids_pushed (w.node n u) more p) in
      let h = ((w.node n u).staged.pushed p).joined ∙ joined_fork (at l n) _ _ more in
      let one = reports_one (at l n) (unreported_not n p) (some-sheets n u more) in
      rw
      (g.told ∙ one)
      (rw (e, joined_is a k.0, joined_is b k.1) at h ∙ joined_parts (at l n).own (reports_in x) (reports_in y))

-- ---- all below a pushed root is pushed, and so all is claimed

-- a node without children that is pushed is COMPLETED
ended_leaf : (x a b : Node) → unready x a b ≡ false → x.left ≡ 0 → completed x ≡ true
unfolding unready
ended_leaf x a b e leaf = go (completed x) refl
  where
    go : (c : Bool) → completed x ≡ c → completed x ≡ true
    go true f = f
    go false f = absurd (true≢false (rw (f, leaf) at e))

blank_zero : rest_of blank ≡ 0
unfolding rest_of
blank_zero = refl

module _ (l : Ledger) (w : WF l) (root : (at l 1).stage ≡ PUSHED) where
  all_pushed : (n : ℕ) → InUse l n → (at l n).stage ≡ PUSHED
  all_pushed =
      from_root l (λ n. (at l n).stage ≡ PUSHED) (λ n c u some e p. rw e at (kids_pushed (w.node n u) (rw e some) p)) (rooted l w) root

  rest_none : (n : ℕ) → InUse l n → rest_of (at l n) ≡ 0
  unfolding rest_of
  rest_none n u = go (ℕ_discrete (at l n).left 0)
    where
      x : Node
      x = at l n

      over : x.left ≡ 0 → completed x ≡ true
      over leaf = ended_leaf x _ _ ((w.node n u).staged.pushed (all_pushed n u)).ready leaf

      go : Dec (x.left ≡ 0) → rest_of x ≡ 0
      go (yes leaf) = rw (eq-eqb x.left 0 leaf) (omega (arith, claimed x (over leaf)))
      go (no ne) = rw (ne_eqb x.left 0 ne)

  all_claimed : unclaimed l ≡ 0
  unfolding unclaimed
  all_claimed = sum_by-zero rest_of l.nodes blank (λ i h. rw (← at_next l i) (go i (dec_le (i + 1) l.used)))
    where
      go : (i : ℕ) → Dec (i + 1 ≤ l.used) → rest_of (at l (i + 1)) ≡ 0
      go i (yes q) = rest_none (i + 1) (record { low = omega arith; high = q })
      go i (no q) = rw (w.blank (i + 1) (omega arith)) blank_zero

-- ---- each node is reported once

-- how many reports a node has
abbrev report_count : Node → ℕ
report_count x = length (reports_of x)

found_append : (n : ℕ) (es fs : List Entry) → times_found n (es ++ fs) ≡ times_found n es + times_found n fs
unfolding times_found
found_append n [] fs = omega arith
found_append n (given b ∷ es) fs = found_append n es fs
found_append n (found q ∷ es) fs = omega (arith, found_append n es fs)

module _ (l : Ledger) (w : WF l) (m : ℕ) (u : InUse l m) (y : Node) (n : ℕ) (low : 1 ≤ n) where
  -- a store that reports nothing
  unchanged : reports_of y ≡ reports_of (at l m) → report_count (at (put l m y) n) ≡ report_count (at l n)
  unchanged e = go (ℕ_discrete n m)
    where
      go : Dec (n ≡ m) → report_count (at (put l m y) n) ≡ report_count (at l n)
      go (yes z) = rw (z, at_same l m y u.low (in_table l w m u)) (ap length e)
      go (no ne) = rw (at_other l m y u.low n low ne)

  -- the one report of its node
  one_more : (q : Report) → q.node ≡ m → reports_of (at l m) ≡ [] → reports_of y ≡ q.result ∷ []
      → report_count (at (put l m y) n) ≡ report_count (at l n) + times_found n (found q ∷ [])
  unfolding times_found
  one_more q is none one = go (ℕ_discrete n m)
    where
      go : Dec (n ≡ m) → report_count (at (put l m y) n) ≡ report_count (at l n) + (cond (eqb q.node n) 1 0 + 0)
      go (yes z) =
          rw
          (eq-eqb q.node n (is ∙ sym z), z, at_same l m y u.low (in_table l w m u))
          (omega (arith, ap length one, ap length none))
      go (no ne) =
          rw
          (ne_eqb q.node n (λ e. ne (sym (sym is ∙ e))), at_other l m y u.low n low ne)
          (omega arith)

module _ (l : Ledger) (w : WF l) (m : ℕ) (u : InUse l m) (st : Stolen (at l m)) (n : ℕ) (low : 1 ≤ n) where
  split_count : report_count (at (next l w m u st) n) ≡ report_count (at l n)
  unfolding left_part right_part
  split_count = go (ℕ_discrete n m) (ℕ_discrete n (next_pair l)) (ℕ_discrete n (next_pair l + 1))
    where
      p : Slots l (next l w m u st) m (next_pair l) (parted_node (at l m) (next_pair l)) (left_part (at l m)) (right_part (at l m))
      p = split_slots l w m u st

      go : Dec (n ≡ m) → Dec (n ≡ next_pair l) → Dec (n ≡ next_pair l + 1) → report_count (at (next l w m u st) n) ≡ report_count (at l n)
      go (yes z) d e = rw (z, p.here) (unfold reports_of in refl)
      go (no ne) (yes z) e = rw (z, p.left, left_blank l w, reports_new, reports_blank)
      go (no ne) (no f) (yes z) = rw (z, p.right, right_blank l w, reports_new, reports_blank)
      go (no ne) (no f) (no g) = rw (p.other n low ne f g)

effect_count : {l : Ledger} {r : Request} {a : Answered} (n : ℕ) → 1 ≤ n → WF l → Effect l r a
    → report_count (at a.ledger n) ≡ report_count (at l n) + times_found n (entry_of r a.answer)
unfolding times_found
effect_count {r = r} n low w (rests {a = a} q t) = rw (no_entry r a q t) (omega arith)
effect_count {l} {r} n low w (stores {a = a} y q u kept e (unwritten t z)) =
    rw (no_entry r a q t) (omega (arith, unchanged l w (node_in r) u y n low z))
effect_count {l} {r} n low w (stores {a = a} y q u kept e (written is z none one)) =
    rw (report_entry r a is z) (one_more l w (node_in r) u y n low (report_in r) refl none one)
effect_count {l} {r} n low w (claims is q f) =
    unfold entry_of in
    (rw is (omega (arith, unchanged l w (node_in r) (in_use l r q) (moved (at l (node_in r)) (pos (batch_end (at l (node_in r)) r))) n low (unfold reports_of in refl))))
effect_count {l} {r} n low w (splits is q f) =
    unfold entry_of in (rw is (omega (arith, split_count l w (node_in r) (in_use l r q) f n low)))

run_count : (l : Ledger) (rs : List Request) (n : ℕ) → 1 ≤ n → WF l
    → report_count (at (after_all l rs) n) ≡ report_count (at l n) + times_found n (entries l rs)
unfolding after_all entries times_found
run_count l [] n low w = omega arith
run_count l (r ∷ rs) n low w =
    let one : report_count (at (requested l r).ledger n) ≡ report_count (at l n) + times_found n (entry_of r (requested l r).answer) =
    rw (requested_wf l r w) (effect_count n low w (effect_of l r w)) in
    let all = run_count (requested l r).ledger rs n low (requested_good l r w) in
    omega (arith, found_append n (entries (requested l r).ledger rs) (entry_of r (requested l r).answer))

-- ---- the theorem

module _ (o : Opening) (rs : List Request) (good : opens o ≡ true) where
  abbrev l₀ : Ledger
  l₀ = ledger_of o

  abbrev k : Ledger
  k = after_all l₀ rs

  none_at_first : (n : ℕ) → 1 ≤ n → report_count (at l₀ n) ≡ 0
  none_at_first n low = go (ℕ_discrete n 1)
    where
      go : Dec (n ≡ 1) → report_count (at l₀ n) ≡ 0
      go (yes z) = rw (z, opened_root, reports_new)
      go (no ne) = rw ((opened_wf o good).blank n (unfold opened in (omega arith)), reports_blank)

  holds : (at k 1).stage ≡ PUSHED → ((at k 1).joined ≡ join_all (reports_in (told_all l₀ (whole 1 []) rs)))
      × ((n : ℕ) → InUse k n → (at k n).start ≢ (at k n).until → times_found n (entries l₀ rs) ≡ 1)
      × (unclaimed k ≡ 0)
  holds p =
      let h = run_stands l₀ rs (whole 1 []) (opened_wf o good) (begins o rs good) in (
        joined_is k h.0 h.1 p,
        λ n u some.
            let one = ap length (reports_one (at k n) (unreported_not k h.0 n (all_pushed k h.0 p n u)) some) in
            omega (arith, run_count l₀ rs n u.low (opened_wf o good), none_at_first n u.low),
        all_claimed k h.0 p,
      )

pub pushed_root_holds_every_report : PushedRootHoldsEveryReport
pushed_root_holds_every_report o rs e =
    let b = begun o e in
    rw
    b.ledger
    (λ p. let h = holds o rs b.good p in record { joined = h.0; each = h.1; claimed = h.2 })

-- ---- what is reported is final

trans_stays : (x y z : Node) → z.stage ≤ PUSHED → ReportStays x y → ReportStays y z → ReportStays x z
trans_stays x y z most a b =
    record {
      stage = omega (arith, a.stage, b.stage);
      own = λ s. b.own (omega (arith, a.stage)) ∙ a.own s;
      pushed = λ s. ((b.pushed (a.pushed s).0).0, (b.pushed (a.pushed s).0).1 ∙ (a.pushed s).1);
    }

stays_same : (x : Node) → ReportStays x x
stays_same x = record { stage = omega arith; own = λ s. refl; pushed = λ s. (s, refl) }

kept_stays : (x y : Node) → y.stage ≤ PUSHED → Kept x y → ReportStays x y
kept_stays x y most h =
    record { stage = h.stage; own = h.own; pushed = λ s. (omega (arith, h.stage), h.joined s) }

becomes_stays : {l : Ledger} {m : ℕ} {k : Ledger} → WF l → WF k → Becomes l m k → (n : ℕ) → InUse l n → InUse k n × ReportStays (at l n) (at k n)
becomes_stays w v same n u = (u, stays_same _)
becomes_stays {l} {m = m} w v (stored y q h) n u = go (ℕ_discrete n m)
  where
    here : InUse (put l m y) n
    here = put_used l m y u

    go : Dec (n ≡ m) → InUse (put l m y) n × ReportStays (at l n) (at (put l m y) n)
    go (yes z) = (
      here,
      rw (z, at_same l m y q.low (in_table l w m q)) (kept_stays (at l m) y (rw (at_same l m y q.low (in_table l w m q)) at (v.node m (rw z at here)).staged.limit) h),
    )
    go (no ne) = (here, rw (at_other l m y q.low n u.low ne) (stays_same _))
becomes_stays {l} {m = m} w v (forked q f) n u = go (ℕ_discrete n m)
  where
    p : Slots l (next l w m q f) m (next_pair l) (parted_node (at l m) (next_pair l)) (left_part (at l m)) (right_part (at l m))
    p = split_slots l w m q f

    go : Dec (n ≡ m) → InUse (next l w m q f) n × ReportStays (at l n) (at (next l w m q f) n)
    go (yes z) =
        (p.kept n u, rw (z, p.here) (record { stage = omega arith; own = λ s. refl; pushed = λ s. (s, refl) }))
    go (no ne) = (p.kept n u, rw (stays l w m q f n u ne) (stays_same _))

run_stays : (l : Ledger) (rs : List Request) → WF l → (n : ℕ) → InUse l n
    → ((at (after_all l rs) n).stage ≤ PUSHED) × ReportStays (at l n) (at (after_all l rs) n)
unfolding after_all
run_stays l [] w n u = ((w.node n u).staged.limit, stays_same _)
run_stays l (r ∷ rs) w n u =
    let good = requested_good l r w in
    let one : InUse (requested l r).ledger n × ReportStays (at l n) (at (requested l r).ledger n) =
    rw (requested_wf l r w) (becomes_stays w (wf_answered l r w) (becomes_of l r w) n u) in
    let all = run_stays (requested l r).ledger rs good n one.0 in
    (all.0, trans_stays _ _ _ all.0 one.1 all.1)

pub reports_are_final : ReportsAreFinal
reports_are_final l rs n sound u = (run_stays l rs (rules l sound) n u).1
