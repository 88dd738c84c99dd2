-- A story stands for a ledger: its nodes are the ledger's, with their children, from each the sheets from its start up to its position were
-- granted, and of each its own result was reported. So it reads the whole range; and it stands after any requests.
use mathlib.Core.Path.{◌≡◌, refl, sym, ap, ◌∙◌}
use mathlib.Core.Logic.{◌≢◌}
use mathlib.Core.Bool.{Bool, true, false, cond}
use mathlib.Core.List.{List, [], ◌∷◌, ◌++◌, append_assoc, append-nil}
use Prim.Native.Nat.{ℕ, ◌+◌, ◌<◌}
use native.Mathlib.Omega.{arith}
use native.Mathlib.Decide.{ℕ_discrete}
use lib.Dec.{eqb}
use lib.IntN.{pos}
use borrow.Author.Tests.{eq-eqb, ne_eqb}
use Rattle.numbers.specs.Fields.{nat_of}
use Rattle.rules.specs.declared.Finds.{Finds}
use Rattle.rules.specs.declared.Node.{Node}
use Rattle.rules.specs.declared.Ledger.{Ledger}
use Rattle.rules.specs.declared.Opening.{Opening}
use Rattle.rules.specs.declared.Request.{Request}
use Rattle.rules.specs.declared.Answer.{Answer}
use Rattle.rules.specs.declared.Answered.{Answered}
use Rattle.laws.specs.Listing.{sheets, after_all, Batch, batch_in}
use Rattle.rules.specs.Asks.{OWN, ADVANCE, MARK, EXPAND, LOOK, REPORT}
use Rattle.rules.specs.Limits.{opens}
use Rattle.rules.specs.Opening.{opened, ledger_of}
use Rattle.rules.specs.Nodes.{fresh, moved, parted as parted_node, position_of, middle, left_part, right_part, reports_of}
use Rattle.laws.specs.Story.{Report, Entry, given, found, Story, whole, parted, added, split, on_node, report_in, told, told_all, sheets_of, read, found_in, unclaimed_at, EverySheetRead}
use Rattle.rules.specs.Requests.{ranged as ranged_answer, batch_end, node_in, requested}
use Rattle.rules.specs.Table.{InUse, at, put, next_pair}
use Rattle.laws.proofs.Batches.{sheets-join, sheets_none}
use Rattle.rules.proofs.Expand.{Slots, next, split_slots, stays}
use Rattle.rules.proofs.Effects.{Quiet, Unreported, unwritten, written, Effect, rests, stores, claims as grants, splits as forks, effect_of}
use Rattle.rules.proofs.Granted.{Asked, in_use, Advancing}
use Rattle.rules.proofs.Keeps.{wf_answered, requested_wf}
use Rattle.laws.proofs.Runs.{run_range}
use Rattle.rules.proofs.Nodes.{at_same, at_other, put_used}
use Rattle.rules.proofs.Opens.{begun, opened_wf, opened_root}
use Rattle.rules.proofs.Record.{WF, in_table, root_used}
use Rattle.rules.proofs.States.{Stolen}

-- of a node all this was granted: its sheets up to its position, and what is reported of it
pub record Given (x : Node) (es : List Entry) : Type 0 where
  pub claimed : sheets_of es ≡ sheets x.start (position_of x)
  pub told : found_in es ≡ reports_of x

pub data Stands (l : Ledger) : ℕ → Story → Type 0 where
  is_whole : {n : ℕ} {es : List Entry} → InUse l n → (at l n).left ≡ 0 → Given (at l n) es → Stands l n (whole n es)
  is_parted : {n c : ℕ} {es : List Entry} {x y : Story} → InUse l n → 0 < c → (at l n).left ≡ c → Given (at l n) es
      → Stands l c x
      → Stands l (c + 1) y
      → Stands l n (parted n es x y)

-- ---- reading it

module _ (l : Ledger) (w : WF l) where
  abbrev ranged : ℕ → List ℕ
  ranged n = sheets (at l n).start (at l n).until

  whole_range : (n : ℕ) (es : List Entry) → InUse l n → Given (at l n) es → sheets_of es ++ unclaimed_at l n ≡ ranged n
  whole_range n es u g = let a = (w.node n u).alone in rw g.claimed (sheets-join _ _ _ a.low a.high)

  parts_range : (n c : ℕ) (es : List Entry) → InUse l n → 0 < c → (at l n).left ≡ c → Given (at l n) es
      → sheets_of es ++ (ranged c ++ ranged (c + 1)) ≡ ranged n
  unfolding middle
  parts_range n c es u some e g =
      let a = (w.node n u).alone in
      let p = rw e at ((w.node n u).pair (omega arith)) in
      rw
      (g.claimed, p.left.start, p.left.until, p.right.start, p.right.until, sheets-join (position_of (at l n)) (middle (at l n)) (at l n).until (omega arith) (omega (arith, a.high)))
      (sheets-join _ _ _ a.low a.high)

  pub reads : {n : ℕ} {s : Story} → Stands l n s → read (unclaimed_at l) s ≡ ranged n
  unfolding read
  reads (is_whole {n = n} {es = es} u e g) = whole_range n es u g
  reads (is_parted {n = n} {c = c} {es = es} u some e g a b) = rw (reads a, reads b) (parts_range n c es u some e g)

-- ---- a change of the ledger

-- node m stays, as far as its story goes
record Kept (l k : Ledger) (m : ℕ) : Type 0 where
  here : InUse k m
  start : (at k m).start ≡ (at l m).start
  left : (at k m).left ≡ (at l m).left
  position : position_of (at k m) ≡ position_of (at l m)
  reports : reports_of (at k m) ≡ reports_of (at l m)

-- a node that is the same, and in use
as_it_was : (l k : Ledger) (m : ℕ) → InUse k m → at k m ≡ at l m → Kept l k m
as_it_was l k m u e = record { here = u; start = rw e; left = rw e; position = rw e; reports = rw e }

module _ (l k : Ledger) where
  given_kept : (m : ℕ) (es : List Entry) → Kept l k m → Given (at l m) es → Given (at k m) es
  given_kept m es h g = record { claimed = g.claimed ∙ rw (h.start, h.position); told = g.told ∙ rw h.reports }

  -- every node stays
  module _ (each : (m : ℕ) → InUse l m → Kept l k m) where
    still : {p : ℕ} {s : Story} → Stands l p s → Stands k p s
    still (is_whole {n = n} {es = es} u e g) =
        let h = each n u in
        is_whole h.here (h.left ∙ e) (given_kept n es h g)
    still (is_parted {n = n} {es = es} u some e g a b) =
        let h = each n u in
        is_parted h.here some (h.left ∙ e) (given_kept n es h g) (still a) (still b)

  -- every node stays but n, whose story changes
  module _ (n : ℕ) (f : Story → Story) (each : (m : ℕ) → InUse l m → m ≢ n → Kept l k m)
      (here : (p : ℕ) → p ≡ n → (s : Story) → Stands l p s → Stands k p (f s)) where
    on_whole : (p : ℕ) (es : List Entry) → Dec (p ≡ n) → (u : InUse l p) → (at l p).left ≡ 0 → Given (at l p) es
        → Stands k p (on_node n f (whole p es))
    unfolding on_node
    on_whole p es (yes z) u e g = rw (eq-eqb p n z) (here p z _ (is_whole u e g))
    on_whole p es (no z) u e g =
        let h = each p u z in
        rw (ne_eqb p n z) (is_whole h.here (h.left ∙ e) (given_kept p es h g))

    on_parted : (p d : ℕ) (es : List Entry) (x y : Story) → Dec (p ≡ n) → (u : InUse l p) → 0 < d → (at l p).left ≡ d
        → Given (at l p) es
        → Stands l d x
        → Stands l (d + 1) y
        → Stands k d (on_node n f x)
        → Stands k (d + 1) (on_node n f y)
        → Stands k p (on_node n f (parted p es x y))
    unfolding on_node
    on_parted p d es x y (yes z) u some e g a b a' b' = rw (eq-eqb p n z) (here p z _ (is_parted u some e g a b))
    on_parted p d es x y (no z) u some e g a b a' b' =
        let h = each p u z in
        rw (ne_eqb p n z) (is_parted h.here some (h.left ∙ e) (given_kept p es h g) a' b')

    on : {p : ℕ} {s : Story} → Stands l p s → Stands k p (on_node n f s)
    on (is_whole {n = p} {es = es} u e g) = on_whole p es (ℕ_discrete p n) u e g
    on (is_parted {n = p} {c = d} {es = es} {x = x} {y = y} u some e g a b) =
        on_parted p d es x y (ℕ_discrete p n) u some e g a b (on a) (on b)

-- ---- the requests that store one node

-- entries one after another
sheets_last : (es : List Entry) (e : Entry) → sheets_of (es ++ (e ∷ [])) ≡ sheets_of es ++ sheets_of (e ∷ [])
unfolding sheets_of
sheets_last [] e = refl
sheets_last (given b ∷ es) e = rw append_assoc (ap (λ (xs : List ℕ). sheets b.from b.to ++ xs) (sheets_last es e))
sheets_last (found q ∷ es) e = sheets_last es e

found_last : (es : List Entry) (e : Entry) → found_in (es ++ (e ∷ [])) ≡ found_in es ++ found_in (e ∷ [])
unfolding found_in
found_last [] e = refl
found_last (given b ∷ es) e = found_last es e
found_last (found q ∷ es) e = ap (λ (fs : List Finds). q.result ∷ fs) (found_last es e)

module _ (l : Ledger) (w : WF l) (n : ℕ) (u : InUse l n) (y : Node) where
  same : at (put l n y) n ≡ y
  same = at_same l n y u.low (in_table l w n u)

  here_used : (p : ℕ) → p ≡ n → InUse (put l n y) p
  here_used p z = rw z (put_used l n y u)

  there : (m : ℕ) → InUse l m → m ≢ n → Kept l (put l n y) m
  there m v ne = as_it_was l (put l n y) m (put_used l n y v) (at_other l n y u.low m v.low ne)

  -- nothing is granted of it: own, mark, push
  still_stands : y.start ≡ (at l n).start → y.left ≡ (at l n).left → position_of y ≡ position_of (at l n) → reports_of y ≡ reports_of (at l n)
      → {s : Story} → Stands l 1 s
      → Stands (put l n y) 1 s
  still_stands a b c d = still l (put l n y) (λ m v. each m v (ℕ_discrete m n))
    where
      each : (m : ℕ) → InUse l m → Dec (m ≡ n) → Kept l (put l n y) m
      each m v (no ne) = there m v ne
      each m v (yes e) =
          rw
          e
          (record { here = here_used n refl; start = rw same a; left = rw same b; position = rw same c; reports = rw same d })

  -- the nodes below it have greater numbers, and stay
  below : {q : ℕ} {t : Story} → n < q → Stands l q t → Stands (put l n y) q t
  below h (is_whole {n = q} {es = es} v e g) =
      let k = there q v (omega arith) in
      is_whole k.here (k.left ∙ e) (given_kept l (put l n y) q es k g)
  below h (is_parted {n = q} {c = c} {es = es} v some e g a b) =
      let k = there q v (omega arith) in
      let more = ((w.node q v).pair (omega arith)).later in
      is_parted k.here some (k.left ∙ e) (given_kept l (put l n y) q es k g) (below (omega arith) a) (below (omega arith) b)

  -- an entry goes to the end of its node's: advance, report
  module _ (e' : Entry) (keeps : y.left ≡ (at l n).left) (more : (es : List Entry) → Given (at l n) es → Given y (es ++ (e' ∷ []))) where
    adds_here : (p : ℕ) → p ≡ n → (s : Story) → Stands l p s → Stands (put l n y) p (added e' s)
    adds_here p z s (is_whole {es = es} v e g) =
        is_whole
        {n = p}
        {es = es ++ (e' ∷ [])}
        (here_used p z)
        (rw (z, same) (keeps ∙ rw z at e))
        (rw (z, same) (more es (rw z at g)))
    adds_here p z s (is_parted {c = c} {es = es} v some e g a a') =
        is_parted
        {n = p}
        {c = c}
        {es = es ++ (e' ∷ [])}
        (here_used p z)
        some
        (rw (z, same) (keeps ∙ rw z at e))
        (rw (z, same) (more es (rw z at g)))
        (below (first v e some z) a)
        (below (let h = first v e some z in omega arith) a')
      where
        first : InUse l p → (at l p).left ≡ c → 0 < c → p ≡ n → n < c
        first v e some z = let h = ((w.node p v).pair (omega arith)).later in omega arith

    adds : {s : Story} → Stands l 1 s → Stands (put l n y) 1 (on_node n (added e') s)
    adds = on l (put l n y) n (added e') there adds_here

-- an advance: its batch goes to the end of its node's
module _ (l : Ledger) (w : WF l) (r : Request) (asked : Asked l.teams l.used r)
    (f : Advancing (at l (node_in r)) r) where
  abbrev x : Node
  x = at l (node_in r)

  abbrev y : Node
  y = moved x (pos (batch_end x r))

  abbrev b : Batch
  b = batch_in r (ranged_answer (position_of x) (batch_end x r))

  claim-given : (es : List Entry) → Given x es → Given y (es ++ (given b ∷ []))
  unfolding sheets_of found_in reports_of
  claim-given es g =
      let a = (w.node (node_in r) (in_use l r asked)).alone in
      record {
        claimed =
            rw (sheets_last es (given b), g.claimed, append-nil) (sheets-join _ _ _ a.low (omega (arith, f.end, a.high)));
        told = rw (found_last es (given b), append-nil) g.told;
      }

  claims : {s : Story} → Stands l 1 s → Stands (put l (node_in r) y) 1 (on_node (node_in r) (added (given b)) s)
  claims = adds l w (node_in r) (in_use l r asked) y (given b) refl claim-given

-- a report: it is the only one of its node
report_given : (x y : Node) (q : Report) → y.start ≡ x.start → position_of y ≡ position_of x → reports_of x ≡ [] → reports_of y ≡ q.result ∷ []
    → (es : List Entry) → Given x es
    → Given y (es ++ (found q ∷ []))
unfolding sheets_of found_in
report_given x y q start position none one es g =
    record {
      claimed = rw (sheets_last es (found q), append-nil) (g.claimed ∙ rw (start, position));
      told = rw (found_last es (found q), g.told, none) (sym one);
    }

-- a split grants nothing of its node
parted_given : (x : Node) (c : ℕ) (es : List Entry) → Given x es → Given (parted_node x c) es
unfolding reports_of
parted_given x c es g = record { claimed = g.claimed; told = g.told }

-- of a new node nothing was granted
new_given : (a b : ℕ) → Given (fresh a b) []
unfolding sheets_of found_in reports_of
new_given a b = record { claimed = rw sheets_none; told = nothing (ℕ_discrete a b) }
  where
    nothing : Dec (a ≡ b) → [] ≡ reports_of (fresh a b)
    nothing (yes e) = rw (eq-eqb a b e)
    nothing (no ne) = rw (ne_eqb a b ne)

-- ---- a split gives its node two new stories

module _ (l : Ledger) (w : WF l) (n : ℕ) (u : InUse l n) (st : Stolen (at l n)) where
  abbrev c : ℕ
  c = next_pair l

  abbrev k : Ledger
  k = next l w n u st

  p : Slots l k n c (parted_node (at l n) c) (left_part (at l n)) (right_part (at l n))
  p = split_slots l w n u st

  new_story : (m : ℕ) (a b : ℕ) → InUse k m → at k m ≡ fresh a b → Stands k m (whole m [])
  new_story m a b v e = is_whole {es = []} v (rw e) (rw e (new_given a b))

  left_stands : Stands k c (whole c [])
  unfolding left_part
  left_stands = new_story c _ _ p.left_used p.left

  right_stands : Stands k (c + 1) (whole (c + 1) [])
  unfolding right_part
  right_stands = new_story (c + 1) _ _ p.right_used p.right

  split_here : (m : ℕ) → m ≡ n → (s : Story) → Stands l m s → Stands k m (split c s)
  split_here m z s (is_whole {es = es} v e g) =
      is_parted
      {n = m}
      {c = c}
      {es = es}
      (p.kept m v)
      p.left_used.low
      (rw (z, p.here))
      (rw (z, p.here) (parted_given (at l n) c es (rw z at g)))
      left_stands
      right_stands
  split_here m z s (is_parted v some e g a a') =
      let none : (at l m).left ≡ 0 = rw z st.leaf in
      absurd (omega arith)

  splits : {s : Story} → Stands l 1 s → Stands k 1 (on_node n (split c) s)
  splits = on l k n (split c) (λ m v ne. as_it_was l k m (p.kept m v) (stays l w n u st m v ne)) split_here

-- ---- any request

-- an answer that is quiet, and no granted report, adds nothing to the story
pub quiet_told : (r : Request) (a : Answer) (s : Story) → Quiet r a → Unreported r a → told r a s ≡ s
unfolding told
quiet_told r a s q u = go (ℕ_discrete a.code 0)
  where
    any_way : (b c d : Bool) → cond b s (cond c s (cond d s s)) ≡ s
    any_way true c d = refl
    any_way false true d = refl
    any_way false false true = refl
    any_way false false false = refl

    go : Dec (a.code ≡ 0) → told r a s ≡ s
    go (yes z) =
        rw
        (eq-eqb a.code 0 z, ne_eqb (nat_of r.kind) ADVANCE (λ e. q.no_claim e z), ne_eqb (nat_of r.kind) EXPAND (λ e. q.no_split e z), ne_eqb (nat_of r.kind) REPORT (λ e. u e z))
        (any_way (eqb (nat_of r.kind) OWN) (eqb (nat_of r.kind) MARK) (eqb (nat_of r.kind) LOOK))
    go (no ne) = rw (ne_eqb a.code 0 ne)

-- a granted report adds what it reports
pub report_told : (r : Request) (a : Answer) (s : Story) → nat_of r.kind ≡ REPORT → a.code ≡ 0
    → told r a s ≡ on_node (node_in r) (added (found (report_in r))) s
unfolding told
report_told r a s is z = rw (z, is)

effect_stands : {l : Ledger} {r : Request} {a : Answered} → WF l → Effect l r a → (s : Story) → Stands l 1 s
    → Stands a.ledger 1 (told r a.answer s)
effect_stands {r = r} w (rests {a = a} q t) s h = rw (quiet_told r a s q t) h
effect_stands {l} {r} w (stores {a = a} y q u kept e (unwritten t f)) s h =
    rw (quiet_told r a s q t) (still_stands l w (node_in r) u y kept.start kept.left e f h)
effect_stands {l} {r} w (stores {a = a} y q u kept e (written is z none one)) s h =
    rw
    (report_told r a s is z)
    (adds l w (node_in r) u y (found (report_in r)) kept.left (report_given (at l (node_in r)) y (report_in r) kept.start e none one) h)
effect_stands {l} {r} w (grants is q f) s h = unfold told in (rw is (claims l w r q f h))
effect_stands {l} {r} w (forks is q f) s h = unfold told in (rw is (splits l w (node_in r) (in_use l r q) f h))

pub requested_stands : (l : Ledger) (r : Request) (s : Story) → WF l → Stands l 1 s
    → WF (requested l r).ledger × Stands (requested l r).ledger 1 (told r (requested l r).answer s)
requested_stands l r s w h =
    rw (requested_wf l r w) (wf_answered l r w, effect_stands w (effect_of l r w) s h)

pub run_stands : (l : Ledger) (rs : List Request) (s : Story) → WF l → Stands l 1 s
    → WF (after_all l rs) × Stands (after_all l rs) 1 (told_all l s rs)
unfolding after_all told_all
run_stands l [] s w h = (w, h)
run_stands l (r ∷ rs) s w h =
    let k = requested_stands l r s w h in
    run_stands (requested l r).ledger rs (told r (requested l r).answer s) k.0 k.1

-- ---- from an opening

module _ (o : Opening) (rs : List Request) (good : opens o ≡ true) where
  abbrev opened_one : Ledger
  opened_one = ledger_of o

  pub begins : Stands opened_one 1 (whole 1 [])
  begins =
      is_whole {n = 1} {es = []} (root_used opened_one (opened_wf o good)) (rw opened_root) (rw opened_root (new_given _ _))

  once : read (unclaimed_at (after_all opened_one rs)) (told_all opened_one (whole 1 []) rs) ≡ sheets (nat_of o.start) (nat_of o.until)
  unfolding opened
  once =
      let h = run_stands opened_one rs (whole 1 []) (opened_wf o good) begins in
      let k = run_range opened_one rs (opened_wf o good) in
      reads (after_all opened_one rs) h.0 h.1 ∙ rw (h.0.root.start, h.0.root.until, k.start, k.until)

pub every_sheet_read : EverySheetRead
every_sheet_read o rs e = let b = begun o e in rw b.ledger (once o rs b.good)
