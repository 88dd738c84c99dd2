-- What is so when a request is granted, kind by kind, with what it then answers and does.
use mathlib.Core.Path.{◌≡◌, refl, sym, ap, ◌∙◌}
use mathlib.Core.Logic.{◌≢◌}
use mathlib.Core.Bool.{Bool, true, false, not, true≢false}
use mathlib.Core.List.{[], ◌∷◌}
use Prim.Native.Nat.{ℕ, ◌+◌, ◌*◌, ◌≤◌, ◌<◌, min}
use native.Mathlib.Omega.{arith}
use native.Mathlib.Decide.{ℕ_discrete}
use lib.Dec.{T, eqb}
use lib.IntN.{ℤ, pos, negsuc}
use borrow.Author.Tests.{eqb-true, eqb-false, ne_eqb, not-false}
use Rattle.numbers.specs.Progress.{negative, position}
use Rattle.numbers.specs.Fields.{is_nat, within, nat_of, same_number}
use Rattle.numbers.proofs.Laws.{Within, within_true, is_nat-true, is_nat_made, same_true}
use Rattle.rules.specs.declared.Node.{Node}
use Rattle.rules.specs.declared.Ledger.{Ledger}
use Rattle.rules.specs.declared.Request.{Request}
use Rattle.rules.specs.declared.Answered.{Answered}
use Rattle.rules.specs.declared.View.{View}
use Rattle.rules.specs.declared.Outcome.{Outcome}
use Rattle.rules.specs.declared.Change.TheVariants.{Keep}
use Rattle.rules.specs.Asks.{OWN, ADVANCE, MARK, EXPAND, LOOK, REPORT, PUSH, last_kind}
use Rattle.rules.specs.Demands.{ChildrenUnseen}
use Rattle.rules.specs.Joining.{finds, max_finds, reportable, passing}
use Rattle.rules.specs.Limits.{max_amount}
use Rattle.rules.specs.Moves.{last_mover}
use Rattle.rules.specs.Nodes.{UNREPORTED, PREPARED, owned, moved, parted, reported, pushed, marked, unowned, childless, position_of, middle, left_part, right_part, joined_of}
use Rattle.rules.specs.States.{completed, ended, unready}
use Rattle.rules.specs.Table.{InUse, at, put, next_pair, grown, stolen_in}
use Rattle.rules.specs.Refusals.{all_tests, own_tests, advance_tests, mark_tests, expand_tests, report_tests, push_tests, own_code, advance_code, mark_code, expand_code, report_code, push_code, kind_code, refusal}
use Rattle.rules.specs.Requests.{refusing, ranged, split, seen, done, outcome, owning, batch_end, advancing, marking, expanding, looking, finds_in, reporting, pushing, granted, decided, view, alone, changed, node_in, answered}
use Rattle.rules.specs.Tests.{◌when◌}
use Rattle.rules.proofs.Facts.{both, ltb_f}
use Rattle.rules.proofs.Tests.{lacks, passed_to, passed, clear, Kind, own, advance, mark, expand, look, report, push, kind_of, each_kind}
use Rattle.rules.proofs.States.{Stolen}

-- ---- the facts of each kind

-- a request of any kind that passes the tests of all
pub record Asked (teams used : ℕ) (r : Request) : Type 0 where
  pub kind : Within r.kind 1 last_kind
  pub team : Within r.team 1 teams
  pub node : Within r.node 1 used

pub in_use : (l : Ledger) (r : Request) → Asked l.teams l.used r → InUse l (node_in r)
in_use l r a = record { low = a.node.low; high = a.node.high }

pub record Owning (x : Node) : Type 0 where
  pub nobody : x.owner ≡ 0
  pub going : completed x ≡ false

-- the position that is claimed or marked is the one that stands
pub record Here (x : Node) (r : Request) : Type 0 where
  pub plain : marked x ≡ false
  pub going : completed x ≡ false
  pub same : r.position ≡ x.progress
  pub progress_is : x.progress ≡ pos (position_of x)
  pub position_is : nat_of r.position ≡ position_of x
  pub more : position_of x ≢ x.until

pub record Advancing (x : Node) (r : Request) : Type 0 where
  pub amount : Within r.amount 1 max_amount
  pub mine : x.owner ≡ nat_of r.team
  pub here : Here x r
  pub end : batch_end x r ≡ min (position_of x + nat_of r.amount) x.until

pub record Marking (x : Node) (r : Request) (load room : ℕ) : Type 0 where
  pub somebody : x.owner ≢ 0
  pub other : x.owner ≢ nat_of r.team
  pub here : Here x r
  pub fits : load + 2 ≤ room

pub record Reporting (x : Node) (r : Request) : Type 0 where
  pub mine : x.owner ≡ nat_of r.team
  pub over : ended x ≡ true
  pub new : x.stage ≡ UNREPORTED
  pub fits : passing (finds_in r) ≡ true

pub record Pushing (x a b : Node) : Type 0 where
  pub prepared : x.stage ≡ PREPARED
  pub ready : unready x a b ≡ false

-- ---- the answer, and the ledger after it

-- node n becomes x, and has the children a and b at the pair c
abbrev pub after : Ledger → ℕ → Node → ℕ → Node → Node → Ledger
after l n x c a b = grown (put (put (put l n x) c a) (c + 1) b) c

-- of a request of a kind: refused, or granted as its kind is
pub data Answers (l : Ledger) (r : Request) : ℕ → Answered → Type 0 where
  refuses : {k : ℕ} → refusal (view l (node_in r)) r ≢ 0
      → Answers l r k (record { ledger = l; answer = refusing (view l (node_in r)) (refusal (view l (node_in r)) r) })
  owns : Asked l.teams l.used r → Owning (at l (node_in r))
      → Answers l r OWN (record {
        ledger = put l (node_in r) (owned (at l (node_in r)) (nat_of r.team));
        answer = ranged (at l (node_in r)).start (at l (node_in r)).until;
      })
  advances : Asked l.teams l.used r → Advancing (at l (node_in r)) r
      → Answers l r ADVANCE (record {
        ledger = put l (node_in r) (moved (at l (node_in r)) (pos (batch_end (at l (node_in r)) r)));
        answer = ranged (position_of (at l (node_in r))) (batch_end (at l (node_in r)) r);
      })
  marks : Asked l.teams l.used r → Marking (at l (node_in r)) r (l.used + 2 * stolen_in l) l.room
      → Answers l r MARK (record {
        ledger = put l (node_in r) (moved (at l (node_in r)) (negsuc (position_of (at l (node_in r)))));
        answer = ranged (position_of (at l (node_in r))) (at l (node_in r)).until;
      })
  expands : Asked l.teams l.used r → Stolen (at l (node_in r))
      → Answers l r EXPAND (record {
        ledger =
            after l (node_in r) (parted (at l (node_in r)) (next_pair l)) (next_pair l) (left_part (at l (node_in r))) (right_part (at l (node_in r)));
        answer = split (next_pair l) (middle (at l (node_in r)));
      })
  looks : Asked l.teams l.used r → Answers l r LOOK (record { ledger = l; answer = seen (at l (node_in r)) })
  reports : Asked l.teams l.used r → Reporting (at l (node_in r)) r
      → Answers l r REPORT (record { ledger = put l (node_in r) (reported (at l (node_in r)) (finds_in r)); answer = done })
  pushes : Asked l.teams l.used r
      → Pushing (at l (node_in r)) (at l (at l (node_in r)).left) (at l ((at l (node_in r)).left + 1))
      → Answers l r PUSH (record {
        ledger = put l (node_in r) (pushed (at l (node_in r)) (joined_of (at l (node_in r)) (at l (at l (node_in r)).left) (at l ((at l (node_in r)).left + 1))));
        answer = done;
      })

-- ---- reading the lists of tests back

-- what is no number but 0, or negative, is not from 1 on
no_number : (z : ℤ) (k : ℕ) → nat_of z ≡ 0 → within z 1 k ≡ false
no_number (pos n) k e = rw e
no_number (negsuc n) k e = refl

unmarked : (z p : ℤ) → negative z ≡ false → p ≡ z → (z ≡ pos (position z)) × (nat_of p ≡ position z)
unmarked (pos n) p t e = (refl, rw e)
unmarked (negsuc n) p t e = absurd (true≢false t)

pub not_yet : (z : ℤ) (u : ℕ) → negative z ≡ false → is_nat z u ≡ false → position z ≢ u
not_yet (pos n) u t e = eqb-false n u e
not_yet (negsuc n) u t e = absurd (true≢false t)

here_is : (x : Node) (r : Request) → marked x ≡ false → completed x ≡ false
    → not (same_number r.position x.progress) ≡ false
    → Here x r
here_is x r plain going e =
    let same = same_true r.position x.progress (not-false (same_number r.position x.progress) e) in
    let u = unmarked x.progress r.position plain same in
    record {
      plain = plain;
      going = going;
      same = same;
      progress_is = u.0;
      position_is = u.1;
      more = not_yet x.progress x.until plain going;
    }

pub own_facts : (x : Node) → own_code x ≡ 0 → Owning x
unfolding own_code
own_facts x e =
    let t = (passed (own_tests x) 0 tt e).0 in
    record { nobody = eqb-true x.owner 0 (not-false (unowned x) (clear 5 (own_tests x) t)); going = clear 6 (own_tests x) t }

pub advance_facts : (x : Node) (r : Request) → advance_code x r ≡ 0 → Advancing x r
unfolding advance_code batch_end
advance_facts x r e =
    let t = (passed (advance_tests x r) 0 tt e).0 in
    let h = here_is x r (clear 9 (advance_tests x r) t) (clear 6 (advance_tests x r) t) (clear 10 (advance_tests x r) t) in
    record {
      amount = within_true r.amount 1 max_amount (not-false (within r.amount 1 max_amount) (clear 7 (advance_tests x r) t));
      mine = sym (ap nat_of (is_nat-true r.team x.owner (not-false (is_nat r.team x.owner) (clear 8 (advance_tests x r) t))));
      here = h;
      end = rw h.position_is;
    }

pub mark_facts : (v : View) (r : Request) → r.team ≡ pos (nat_of r.team) → mark_code v r ≡ 0
    → Marking v.node r (v.used + 2 * v.stolen) v.room
unfolding mark_code
mark_facts v r team e =
    let t = (passed (mark_tests v r) 0 tt e).0 in
    record {
      somebody = eqb-false v.node.owner 0 (clear 11 (mark_tests v r) t);
      other = λ f. true≢false (sym (rw (team, ← f) (is_nat_made v.node.owner)) ∙ clear 12 (mark_tests v r) t);
      here = here_is v.node r (clear 9 (mark_tests v r) t) (clear 6 (mark_tests v r) t) (clear 10 (mark_tests v r) t);
      fits = omega (arith, simp ltb_f at (clear 14 (mark_tests v r) t));
    }

pub expand_facts : (x : Node) → expand_code x ≡ 0 → Stolen x
unfolding expand_code
expand_facts x e =
    let t = (passed (expand_tests x) 0 tt e).0 in
    record {
      mark = not-false (marked x) (clear 15 (expand_tests x) t);
      leaf = eqb-true x.left 0 (not-false (childless x) (clear 16 (expand_tests x) t));
    }

-- a result that passes 33 as it is asked passes it as it is kept
passes_as : (a b c p q r : ℤ) → a ≡ p → b ≡ q → c ≡ r → reportable a b c ≡ true → reportable p q r ≡ true
passes_as a b c p q r d e f h = rw (← d, ← e, ← f) h

report_passes : (a b c : ℤ) → reportable a b c ≡ true → passing (finds (nat_of a) (nat_of b) (nat_of c)) ≡ true
unfolding reportable
report_passes a b c e =
    let h = simp both at e in
    passes_as a b c _ _ _ (within_true a 0 max_finds h.0.0.0).is (within_true b 0 max_finds h.0.0.1).is (within_true c 0 max_finds h.0.1).is e

pub report_facts : (x : Node) (r : Request) → report_code x r ≡ 0 → Reporting x r
unfolding report_code
report_facts x r e =
    let t = (passed (report_tests x r) 0 tt e).0 in
    record {
      mine = sym (ap nat_of (is_nat-true r.team x.owner (not-false (is_nat r.team x.owner) (clear 8 (report_tests x r) t))));
      over = not-false (ended x) (clear 31 (report_tests x r) t);
      new = eqb-true x.stage UNREPORTED (not-false (eqb x.stage UNREPORTED) (clear 32 (report_tests x r) t));
      fits =
          report_passes r.count r.first r.last (not-false (reportable r.count r.first r.last) (clear 33 (report_tests x r) t));
    }

pub push_facts : (v : View) → push_code v ≡ 0 → Pushing v.node v.left v.right
unfolding push_code
push_facts v e =
    let t = (passed (push_tests v) 0 tt e).0 in
    record {
      prepared = eqb-true v.node.stage PREPARED (not-false (eqb v.node.stage PREPARED) (clear 35 (push_tests v) t));
      ready = clear 36 (push_tests v) t;
    }

-- a code that is not of the tests of all is of the kind's own
asked_to : (k : ℕ) (v : View) (r : Request) → T (lacks k (all_tests v r)) → refusal v r ≡ k → Asked v.teams v.used r × (kind_code v r ≡ k)
unfolding refusal
asked_to k v r other e =
    let p = passed_to k (all_tests v r) (kind_code v r) other e in
    let t = p.0 in (
      record {
        kind = within_true r.kind 1 last_kind (not-false (within r.kind 1 last_kind) (clear 2 (all_tests v r) t));
        team = within_true r.team 1 v.teams (not-false (within r.team 1 v.teams) (clear 3 (all_tests v r) t));
        node = within_true r.node 1 v.used (not-false (within r.node 1 v.used) (clear 4 (all_tests v r) t));
      },
      p.1,
    )

pub asked_facts : (v : View) (r : Request) → refusal v r ≡ 0 → Asked v.teams v.used r × (kind_code v r ≡ 0)
asked_facts v r e = asked_to 0 v r tt e

-- ---- refused by 16

late_expand : (x : Node) → expand_code x ≡ 16 → 0 < x.left
unfolding expand_code
late_expand x h = go (childless x) refl
  where
    go : (b : Bool) → childless x ≡ b → 0 < x.left
    go true e = let none = (passed_to 16 ((15 when not (marked x)) ∷ []) 0 tt (rw e at h)).1 in absurd (omega arith)
    go false e = let some = eqb-false x.left 0 e in omega arith

-- 16 is given to no request but an expand, and of no node but one that has children
module _ (v : View) (r : Request) where
  late_kind : kind_code v r ≡ 16 → Kind (nat_of r.kind) → 0 < v.node.left
  unfolding kind_code own_code advance_code mark_code report_code push_code
  late_kind h (own e) = let none = (passed_to 16 (own_tests v.node) 0 tt (rw e at h)).1 in absurd (omega arith)
  late_kind h (advance e) = let none = (passed_to 16 (advance_tests v.node r) 0 tt (rw e at h)).1 in absurd (omega arith)
  late_kind h (mark e) = let none = (passed_to 16 (mark_tests v r) 0 tt (rw e at h)).1 in absurd (omega arith)
  late_kind h (expand e) = late_expand v.node (rw e at h)
  late_kind h (look e) = let none = rw e at h in absurd (omega arith)
  late_kind h (report e) = let none = (passed_to 16 (report_tests v.node r) 0 tt (rw e at h)).1 in absurd (omega arith)
  late_kind h (push e) = let none = (passed_to 16 (push_tests v) 0 tt (rw e at h)).1 in absurd (omega arith)

  pub record Late : Type 0 where
    pub asked : Asked v.teams v.used r
    pub parent : 0 < v.node.left

  pub late_facts : refusal v r ≡ 16 → Late
  late_facts e =
      let a = asked_to 16 v r tt e in
      record { asked = a.0; parent = late_kind a.1 (kind_of (nat_of r.kind) a.0.kind.low a.0.kind.high) }

-- ---- granted or refused

module _ (l : Ledger) (r : Request) where
  abbrev n : ℕ
  n = node_in r

  abbrev v : View
  v = view l n

  abbrev x : Node
  x = at l n

  -- what the request answers and does where no test holds
  given : Answered
  given = record { ledger = changed l n (granted v r).change; answer = (granted v r).answer }

  module _ (clear : refusal v r ≡ 0) where
    asked : Asked l.teams l.used r
    unfolding view
    asked = (asked_facts v r clear).0

    code : kind_code v r ≡ 0
    code = (asked_facts v r clear).1

    given_own : nat_of r.kind ≡ OWN → Answers l r (nat_of r.kind) given
    unfolding given granted changed owning view
    given_own e = let f = own_facts x (unfold kind_code in (rw e at code)) in rw e (owns asked f)

    -- a batch from the position that stands
    advances_from : (p : ℕ) → p ≡ position_of x → Advancing x r
        → Answers l r ADVANCE (record { ledger = put l n (moved x (pos (batch_end x r))); answer = ranged p (batch_end x r) })
    advances_from p is f = rw is (advances asked f)

    given_advance : nat_of r.kind ≡ ADVANCE → Answers l r (nat_of r.kind) given
    unfolding given granted changed advancing view
    given_advance e =
        let f = advance_facts x r (unfold kind_code in (rw e at code)) in
        rw e (advances_from _ f.here.position_is f)

    given_mark : nat_of r.kind ≡ MARK → Answers l r (nat_of r.kind) given
    unfolding given granted changed marking view
    given_mark e =
        let f = mark_facts v r asked.team.is (unfold kind_code in (rw e at code)) in
        rw (e, f.here.position_is) (marks asked f)

    given_expand : nat_of r.kind ≡ EXPAND → Answers l r (nat_of r.kind) given
    unfolding given granted changed expanding view
    given_expand e = let f = expand_facts v.node (unfold kind_code in (rw e at code)) in rw e (expands asked f)

    given-look : nat_of r.kind ≡ LOOK → Answers l r (nat_of r.kind) given
    unfolding given granted changed looking view
    given-look e = rw e (looks asked)

    given_report : nat_of r.kind ≡ REPORT → Answers l r (nat_of r.kind) given
    unfolding given granted changed reporting view
    given_report e = let f = report_facts x r (unfold kind_code in (rw e at code)) in rw e (reports asked f)

    given_push : nat_of r.kind ≡ PUSH → Answers l r (nat_of r.kind) given
    unfolding given granted changed pushing view
    given_push e = let f = push_facts v (unfold kind_code in (rw e at code)) in rw e (pushes asked f)

    given_is : Answers l r (nat_of r.kind) given
    given_is = go (kind_of (nat_of r.kind) asked.kind.low asked.kind.high)
      where
        go : Kind (nat_of r.kind) → Answers l r (nat_of r.kind) given
        go (own e) = given_own e
        go (advance e) = given_advance e
        go (mark e) = given_mark e
        go (expand e) = given_expand e
        go (look e) = given-look e
        go (report e) = given_report e
        go (push e) = given_push e

pub decided_granted : (v : View) (r : Request) → refusal v r ≡ 0 → decided v r ≡ granted v r
unfolding decided
decided_granted v r e = rw e

pub decided_refused : (v : View) (r : Request) → refusal v r ≢ 0 → decided v r ≡ outcome (refusing v (refusal v r)) Keep
unfolding decided
decided_refused v r ne = rw (ne_eqb (refusal v r) 0 ne)

-- what holds of every grant holds of the one that is given
pub each_granted : (P : Outcome → Type 0) (v : View) (r : Request) → P (owning v r) → P (advancing v r) → P (marking v r) → P (expanding v)
    → P (looking v)
    → P (reporting r)
    → P pushing
    → P (granted v r)
unfolding granted
each_granted P v r = each_kind P (nat_of r.kind) (owning v r) (advancing v r) (marking v r) (expanding v) (looking v) (reporting r) pushing

-- no decision of a kind of the table looks at the children
module _ (v : View) (r : Request) where
  same_decision : refusal (alone v) r ≡ refusal v r → granted (alone v) r ≡ granted v r → decided (alone v) r ≡ decided v r
  unfolding decided
  same_decision e f = rw (e, f)

  same_refusal : kind_code (alone v) r ≡ kind_code v r → refusal (alone v) r ≡ refusal v r
  unfolding refusal
  same_refusal e = rw e

  no_kind : nat_of r.kind ≡ 0 → refusal (alone v) r ≡ refusal v r
  unfolding refusal
  no_kind e = rw (no_number r.kind last_kind e)

  same_grant : granted (alone v) r ≡ granted v r
  unfolding granted owning advancing marking expanding looking
  same_grant = refl

  kind_unseen : Kind (nat_of r.kind) → nat_of r.kind ≤ last_mover → kind_code (alone v) r ≡ kind_code v r
  unfolding kind_code mark_code
  kind_unseen (own e) h = rw e
  kind_unseen (advance e) h = rw e
  kind_unseen (mark e) h = rw e
  kind_unseen (expand e) h = rw e
  kind_unseen (look e) h = rw e
  kind_unseen (report e) h = absurd (omega arith)
  kind_unseen (push e) h = absurd (omega arith)

pub children_unseen : ChildrenUnseen
children_unseen v r h = go (ℕ_discrete (nat_of r.kind) 0)
  where
    go : Dec (nat_of r.kind ≡ 0) → decided (alone v) r ≡ decided v r
    go (yes e) = same_decision v r (no_kind v r e) (same_grant v r)
    go (no ne) =
        same_decision v r (same_refusal v r (kind_unseen v r (kind_of (nat_of r.kind) (omega arith) (omega arith)) h)) (same_grant v r)

pub answers : (l : Ledger) (r : Request) → Answers l r (nat_of r.kind) (answered l r)
unfolding answered given
answers l r = go (ℕ_discrete (refusal v r) 0)
  where
    v : View
    v = view l (node_in r)

    go : Dec (refusal v r ≡ 0)
        → Answers l r (nat_of r.kind) (record { ledger = changed l (node_in r) (decided v r).change; answer = (decided v r).answer })
    go (yes e) = rw (decided_granted v r e) (given_is l r e)
    go (no ne) = rw (decided_refused v r ne) (unfold changed in (refuses ne))

-- refused, or granted with code 0
pub data Settled (l : Ledger) (r : Request) : Answered → Type 0 where
  denied : refusal (view l (node_in r)) r ≢ 0
      → Settled l r (record { ledger = l; answer = refusing (view l (node_in r)) (refusal (view l (node_in r)) r) })
  cleared : {a : Answered} → a.answer.code ≡ 0 → Settled l r a

pub settled : {l : Ledger} {r : Request} {k : ℕ} {a : Answered} → Answers l r k a → Settled l r a
settled (refuses ne) = denied ne
settled (owns q f) = cleared refl
settled (advances q f) = cleared refl
settled (marks q f) = cleared refl
settled (expands q f) = cleared refl
settled (looks q) = cleared refl
settled (reports q f) = cleared refl
settled (pushes q f) = cleared refl
