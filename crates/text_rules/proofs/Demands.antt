-- The proofs of specs/Demands.antt.
use mathlib.Core.Path.{◌≡◌, refl, sym, ap, subst, ◌∙◌}
use mathlib.Core.Bool.{Bool, true, false, cond, not, ◌&&◌, true≢false, false≢true}
use mathlib.Core.List.{List, [], ◌∷◌}
use Prim.Native.Nat.{ℕ, suc, ◌+◌, ◌*◌, ◌≤◌, ◌<◌}
use native.Mathlib.Omega.{arith}
use lib.Dec.{leb, ltb}
use lib.ListN.{length, drop, drop_of_length-le}
use lib.IntN.{pos}
use borrow.Author.Tests.{eq-eqb, ne_eqb, leb-true, ltb-true, ltb-false, le-ltb}
use Rattle.numbers.proofs.Laws.{signed_is}
use Rattle.numbers.specs.Progress.{signed}
use Rattle.text_rules.specs.declared.Token.{Token}
use Rattle.text_rules.specs.Bytes.{Class, LineEnd, Hash, Blank, Digit, Other, class_of, is_digit}
use Rattle.text_rules.specs.Marks.{Mark, line_end, number, wrong, in_comment, starts_digit, longer, added, marks_from, marks}
use Rattle.text_rules.specs.Digits.{value, too_large, number_of}
use Rattle.text_rules.specs.Lines.{head_line, from_head, after_line, numbers_of}
use Rattle.text_rules.specs.Judgement.{Verdict, max_bytes, is_granted, given, fault_from, head_of, head_verdict, header_verdict, schedule_marks, schedule_numbers, teams_of, is_team, stranger_from, body_verdict, schedule_verdict}
use Rattle.text_rules.specs.Answers.{header_of, rest_place, rest_of, schedule_of, area_of}
use Rattle.text_rules.specs.declared.Kind.TheVariants as kind
use Rattle.text_rules.specs.Tokens.{token_of, token_at}
use Rattle.text_rules.specs.Demands.{schedule_room, SameButComments, nothing, same, other, CommentsNeverMatter, RefusedChangesNothing, AllTeams, none, more, GrantedIsWithinLimits, TellsFiveFromSix, AllExact, exact, GrantedIsExact, NeverShort, HalfIsEnough, Scans, ended, found, tokens_of, ScannerFindsTheMarks}
use Rattle.text_rules.proofs.Marks.{later, moves, at_end, passed_over}
use Rattle.text_rules.proofs.Digits.{small_value}
use Rattle.text_rules.proofs.Granted.{passed, header_granted, named, schedule_granted, granted_is}

-- ---- comments never matter
same_length : {c : Bool} {s t : List ℕ} → SameButComments c s t → length s ≡ length t
same_length nothing = refl
same_length (same b r) = ap suc (same_length r)
same_length (other a b p q r) = ap suc (same_length r)

same_start : {s t : List ℕ} → SameButComments false s t → starts_digit s ≡ starts_digit t
same_start nothing = refl
same_start (same b r) = refl

-- the same byte before texts of which the marks, the length and the first byte's class are the same
added_same : (c : Bool) (k : Class) (b : ℕ) (s t : List ℕ) → SameButComments (in_comment c k) s t → (ms : List Mark) → added c k b s ms ≡ added c k b t ms
added_same c LineEnd b s t r ms = rw (same_length r)
added_same c Hash b s t r ms = refl
added_same c Blank b s t r ms = refl
added_same true Digit b s t r ms = refl
added_same false Digit b s t r ms = rw (same_length r, same_start r)
added_same true Other b s t r ms = refl
added_same false Other b s t r ms = rw (same_length r)

pub same_marks : {c : Bool} {s t : List ℕ} → SameButComments c s t → marks_from c s ≡ marks_from c t
unfolding marks_from
same_marks nothing = refl
same_marks {c} (same {s = s} {t = t} b r) = rw (same_marks r) (added_same c (class_of b) b s t r _)
same_marks (other {s = s} {t = t} a b p q r) = passed_over a s p ∙ same_marks r ∙ sym (passed_over b t q)

pub comments_never_matter : CommentsNeverMatter
unfolding header_of rest_place schedule_of area_of
comments_never_matter s t r =
    let marked = same_marks r in
    let sized = same_length r in
    record {
      header = rw (marked, sized);
      rest = rw (marked, sized);
      schedule = λ room. rw (marked, sized);
      area = λ area. rw (marked, sized);
    }

-- ---- what is refused changes nothing
pub refused_changes_nothing : RefusedChangesNothing
unfolding header_of rest_of rest_place schedule_of area_of
refused_changes_nothing text = (
  λ r. let e = ne_eqb (header_verdict (length text) (marks text)).code 0 r in
      record { opening = rw e; program = rw e; rest = rw e (drop_of_length-le text {i = length text} (omega arith)) },
  λ area r. let e = ne_eqb (schedule_verdict (length area) (length text) (marks text)).code 0 r in
      record { opening = rw e; program = rw e; count = rw e; stays = rw e },
)

-- ---- what is granted lies within the limits
team_is : (teams n : ℕ) (a b : Bool) → leb 1 n ≡ a → leb n teams ≡ b → (a && b) ≡ true → (1 ≤ n) × (n ≤ teams)
team_is teams n true true p q e = (leb-true 1 n p, leb-true n teams q)
team_is teams n true false p q e = absurd (false≢true e)
team_is teams n false b p q e = absurd (false≢true e)

a_team : (teams n : ℕ) → is_team teams n ≡ true → (1 ≤ n) × (n ≤ teams)
a_team teams n e = team_is teams n (leb 1 n) (leb n teams) refl refl e

no_stranger : (b : Bool) (line rest : ℕ) → 1 ≤ line → cond b rest line ≡ 0 → (b ≡ true) × (rest ≡ 0)
no_stranger true line rest h e = (refl, e)
no_stranger false line rest h e = absurd (omega (arith, e))

all_teams : (teams line : ℕ) (ms : List Mark) → 1 ≤ line → stranger_from teams line ms ≡ 0 → AllTeams teams (numbers_of ms)
unfolding stranger_from numbers_of
all_teams teams line [] h e = none
all_teams teams line (line_end k ∷ ms) h e = all_teams teams (line + 1) ms (omega arith) e
all_teams teams line (number ds k ∷ ms) h e =
    let n = number_of ds in
    let one = no_stranger (is_team teams n) line (stranger_from teams line ms) h e in
    let team = a_team teams n one.0 in
    more team.0 team.1 (all_teams teams line ms h one.1)
all_teams teams line (wrong k ∷ ms) h e = all_teams teams line ms h e

pub granted_within_limits : GrantedIsWithinLimits
unfolding schedule_of
granted_within_limits room text e =
    let n = length text in
    let ms = marks text in
    let g = schedule_granted room n ms (eq-eqb (schedule_verdict room n ms).code 0 e) in
    let is = granted_is room n ms g in
    let h = header_granted n ms g.header in
    record {
      opening = rw is h.opening;
      program = rw is (named (head_of ms) h.count h.program).most;
      teams = rw is (all_teams (teams_of ms) (head_line 1 ms + 1) (schedule_marks ms) (omega arith) g.teams);
      count = rw is;
      fits = g.fits;
    }

pub tells_five_from_six : TellsFiveFromSix
unfolding header_of
tells_five_from_six text e =
    let n = length text in
    let ms = marks text in
    let ok = eq-eqb (header_verdict n ms).code 0 e in
    let h = header_granted n ms ok in
    rw ok (named (head_of ms) h.count h.program).counted

-- ---- what is granted is exact
exact_number : (t : Bool) (ds : List ℕ) → too_large ds ≡ t → t ≡ false → signed (number_of ds) ≡ pos (value ds)
unfolding number_of
exact_number true ds e f = absurd (true≢false f)
exact_number false ds e f = rw e (signed_is (value ds) (small_value ds e))

all_exact : (line : ℕ) (ms : List Mark) → is_granted (fault_from line ms) ≡ true → AllExact ms
unfolding fault_from
all_exact line [] g = none
all_exact line (line_end k ∷ ms) g = AllExact.line (all_exact (line + 1) ms g)
all_exact line (number ds k ∷ ms) g =
    let p = passed _ _ _ refl g in
    exact (exact_number (too_large ds) ds refl p.0) (all_exact line ms p.1)
all_exact line (wrong k ∷ ms) g = absurd (false≢true g)

pub granted_exact : GrantedIsExact
unfolding header_of
granted_exact text e =
    let n = length text in
    let ms = marks text in
    all_exact 1 ms (header_granted n ms (eq-eqb (header_verdict n ms).code 0 e)).faultless

-- ---- there is always room for 32,768 numbers: between two numbers stands a byte

-- 1 where the bytes begin with a digit outside comments
begun : Bool → List ℕ → ℕ
begun c bs = cond (not c && starts_digit bs) 1 0

abbrev count : List Mark → ℕ
count ms = length (numbers_of ms)

begun_most : (c : Bool) (bs : List ℕ) → begun c bs ≤ 1
unfolding begun
begun_most c bs = go (not c && starts_digit bs)
  where
    go : (b : Bool) → cond b 1 0 ≤ 1
    go true = omega arith
    go false = omega arith

longer_count : (b : ℕ) (ms : List Mark) → count (longer b ms) ≡ count ms
unfolding numbers_of
longer_count b [] = refl
longer_count b (line_end k ∷ ms) = refl
longer_count b (number ds k ∷ ms) = refl
longer_count b (wrong k ∷ ms) = refl

digit_count : (t : Bool) (b : ℕ) (bs : List ℕ) (ms : List Mark) → 2 * count ms ≤ length bs + cond t 1 0 → 2 * count (cond t (longer b ms) (number (b ∷ []) (length bs) ∷ ms)) ≤ suc (length bs) + 1
unfolding numbers_of
digit_count true b bs ms h = rw (longer_count b ms) (omega arith)
digit_count false b bs ms h = omega arith

few : (c : Bool) (k : Class) (b : ℕ) (bs : List ℕ) (ms : List Mark) → 2 * count ms ≤ length bs + begun (in_comment c k) bs → 2 * count (added c k b bs ms) ≤ suc (length bs) + cond (not c && is_digit k) 1 0
unfolding begun numbers_of
few c LineEnd b bs ms h = let m = begun_most false bs in omega (arith, m, h)
few c Hash b bs ms h = let m = begun_most true bs in omega (arith, m, h)
few c Blank b bs ms h = let m = begun_most c bs in omega (arith, m, h)
few true Digit b bs ms h = let m = begun_most true bs in omega (arith, m, h)
few false Digit b bs ms h = digit_count (starts_digit bs) b bs ms h
few true Other b bs ms h = let m = begun_most true bs in omega (arith, m, h)
few false Other b bs ms h = let m = begun_most false bs in omega (arith, m, h)

few_marks : (c : Bool) (bs : List ℕ) → 2 * count (marks_from c bs) ≤ length bs + begun c bs
unfolding marks_from begun numbers_of
few_marks c [] = omega arith
few_marks c (b ∷ bs) = few c (class_of b) b bs (marks_from (in_comment c (class_of b)) bs) (few_marks (in_comment c (class_of b)) bs)

head_fewer : (ms : List Mark) → count (from_head ms) ≤ count ms
unfolding from_head numbers_of
head_fewer [] = omega arith
head_fewer (line_end k ∷ ms) = head_fewer ms
head_fewer (number ds k ∷ ms) = omega arith
head_fewer (wrong k ∷ ms) = head_fewer ms

after_fewer : (ms : List Mark) → count (after_line ms) ≤ count ms
unfolding after_line numbers_of
after_fewer [] = omega arith
after_fewer (line_end k ∷ ms) = omega arith
after_fewer (number ds k ∷ ms) = omega (arith, after_fewer ms)
after_fewer (wrong k ∷ ms) = after_fewer ms

pub few_numbers : (room : ℕ) (text : List ℕ) → length text < 2 * room → count (marks text) ≤ room
few_numbers room text h = omega (arith, few_marks false text, begun_most false text)

enough : (room : ℕ) (text : List ℕ) → length text < 2 * room → length (schedule_numbers (marks text)) ≤ room
enough room text h =
    let ms = marks text in
    omega (arith, after_fewer (from_head ms), head_fewer ms, few_numbers room text h)

-- 27 is given by no other test
Short : Verdict → Type 0
Short v = v.code ≡ 27

given_short : (b : Bool) (v rest : Verdict) → (Short v → ⊥) → (Short rest → ⊥) → Short (given b v rest) → ⊥
unfolding Short given
given_short true v rest f g = f
given_short false v rest f g = g

test_short : (b : Bool) (v rest : Verdict) → b ≡ false → (Short rest → ⊥) → Short (given b v rest) → ⊥
unfolding given
test_short b v rest e g = rw e g

fault_short : (line : ℕ) (ms : List Mark) → Short (fault_from line ms) → ⊥
unfolding fault_from Short
fault_short line [] e = omega (arith, e)
fault_short line (line_end k ∷ ms) e = fault_short (line + 1) ms e
fault_short line (number ds k ∷ ms) e = given_short _ _ _ (λ z. omega (arith, z)) (fault_short line ms) e
fault_short line (wrong k ∷ ms) e = omega (arith, e)

head_short : (ms : List Mark) → Short (head_verdict ms) → ⊥
unfolding head_verdict Short
head_short ms =
    given_short _ _ _ (λ z. omega (arith, z)) (given_short _ _ _ (λ z. omega (arith, z)) (λ z. omega (arith, z)))

header_short : (n : ℕ) (ms : List Mark) → Short (header_verdict n ms) → ⊥
unfolding header_verdict Short
header_short n ms =
    given_short _ _ _ (λ z. omega (arith, z)) (given_short _ _ _ (fault_short 1 ms) (head_short ms))

body_short : (ms : List Mark) → length (schedule_numbers ms) ≤ schedule_room → Short (body_verdict schedule_room ms) → ⊥
unfolding body_verdict Short
body_short ms h =
    given_short _ _ _ (λ z. omega (arith, z)) (test_short _ _ _ (le-ltb schedule_room (length (schedule_numbers ms)) h) (λ z. omega (arith, z)))

short_by : (b : Bool) (text : List ℕ) → is_granted (header_verdict (length text) (marks text)) ≡ b → Short (given (not b) (header_verdict (length text) (marks text)) (body_verdict schedule_room (marks text))) → ⊥
unfolding given
short_by true text g =
    let h = ltb-false max_bytes (length text) (header_granted (length text) (marks text) g).short in
    body_short (marks text) (enough schedule_room text (omega (arith, h)))
short_by false text g = header_short (length text) (marks text)

pub never_short : NeverShort
unfolding schedule_of schedule_verdict Short
never_short text e = short_by (is_granted (header_verdict (length text) (marks text))) text refl e

-- where neither room is too short, the two say the same
same_body : (room : ℕ) (ms : List Mark) → length (schedule_numbers ms) ≤ room → length (schedule_numbers ms) ≤ schedule_room → body_verdict room ms ≡ body_verdict schedule_room ms
unfolding body_verdict
same_body room ms h most = rw (le-ltb room (length (schedule_numbers ms)) h, le-ltb schedule_room (length (schedule_numbers ms)) most)

pub half_is_enough : HalfIsEnough
unfolding schedule_of schedule_verdict
half_is_enough room text few h =
    rw (same_body room (marks text) (enough room text (omega (arith, h))) (enough schedule_room text (omega (arith, few, h))))

-- ---- the scanner finds the marks

none_there : (text : List ℕ) (place : ℕ) → marks (drop place text) ≡ [] → (token_at text place).kind ≡ kind.End
unfolding token_at token_of
none_there text place e = rw e

cons_nil : {A : Type 0} (a : A) (l : List A) → a ∷ l ≡ [] → ⊥
cons_nil a l e = omega (arith, ap length e)

-- a mark stands before the text's end
before_mark : (text : List ℕ) (place : ℕ) (m : Mark) (ms : List Mark) → place ≤ length text → marks (drop place text) ≡ m ∷ ms → place < length text
before_mark text place m ms h e = by (ltb place (length text)) refl
  where
    by : (b : Bool) → ltb place (length text) ≡ b → place < length text
    by true t = ltb-true place (length text) t
    by false t = absurd (cons_nil m ms (sym e ∙ at_end text place false (ltb-false place (length text) t)))

scans : (text : List ℕ) (place : ℕ) (ms : List Mark) → place ≤ length text → marks (drop place text) ≡ ms → Scans text place (tokens_of (length text) ms)
unfolding tokens_of
scans text place [] h e = ended (none_there text place e)
scans text place (m ∷ ms) h e =
    let l = before_mark text place m ms h e in
    let t = moves text place l (token_at text place) refl in
    subst (λ (u : Token). Scans text place (u ∷ tokens_of (length text) ms)) (t.is ∙ ap (token_of (length text)) e) (found (scans text (token_at text place).end ms t.within (t.rest ∙ ap later e)))

pub scanner_finds_the_marks : ScannerFindsTheMarks
scanner_finds_the_marks text = scans text 0 (marks text) (omega arith) refl
