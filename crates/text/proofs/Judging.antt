-- The judgement put together: what the passes found is what the definitions say.
use mathlib.Core.Path.{◌≡◌, refl, sym, ap, ◌∙◌}
use mathlib.Core.Bool.{not, Bool, true, false, cond, ◌&&◌, ◌||◌}
use mathlib.Core.List.{List, ◌++◌, map}
use Prim.Native.Nat.{ℕ, ◌+◌, ◌≤◌, ◌<◌}
use native.Mathlib.Omega.{arith}
use lib.Dec.{eqb, leb, ltb}
use lib.ListN.{length, take, drop, length-map, get_or-eq_default}
use lib.Seq.{take_at}
use lib.IntN.{ℤ}
use borrow.Author.Tests.{ltb-false, lt-ltb, le-ltb, ne_eqb, leb-true}
use Rattle.std.specs.Prelude.{Option, None, Some, Ok, Err}
use Rattle.numbers.specs.Fields.{nat_of}
use Rattle.numbers.specs.Progress.{signed}
use Rattle.rules.specs.Limits.{opens}
use Rattle.rules.specs.Refused.{code_of}
use Rattle.rules.specs.declared.refusal.Refusal.{Refusal}
use Rattle.rules.specs.declared.refusal.Refusal.TheVariants as refusal
use Rattle.rules.specs.declared.Opening.{Opening}
use Rattle.text_rules.specs.declared.Refused.{Refused}
use Rattle.text.specs.declared.Spot.{Spot}
use Rattle.text.specs.declared.Row.{Row}
use Rattle.text.specs.declared.Tally.{Tally}
use Rattle.text.specs.declared.Heading.{Heading}
use Rattle.text_rules.specs.Marks.{Mark, marks}
use Rattle.text_rules.specs.Lines.{line_numbers, after_line}
use Rattle.text_rules.specs.Judgement.{Verdict, max_bytes, header_least, is_header, ruled, granted, given, fault_from, opening_of, program_in, may_name, is_program, head_good, head_of, head_verdict, header_verdict, schedule_marks, schedule_numbers, teams_of, stranger_line, body_verdict, schedule_verdict}
use Rattle.text_rules.specs.Answers.{no_opening, verdict_of, told_program, header_of, rest_place, schedule_of, area_of}
use Rattle.text.specs.Passes.{IsLine, HeadAt, WholeRow, WholeNumbers, named, WholeHeading, judged_by, judged}

-- a refusal grants nothing
refusing : (r : Refusal) → eqb (code_of r) 0 ≡ false
refusing r = grind arith

-- ---- the header

pub long_verdict : (n : ℕ) (ms : List Mark) → max_bytes < n → ruled 21 0 ≡ header_verdict n ms
unfolding header_verdict given
long_verdict n ms h = rw (lt-ltb max_bytes n h)

-- a byte with 22 or 23 is answered first
pub faulty : (n : ℕ) (ms : List Mark) (e : Refused) → n ≤ max_bytes → verdict_of e ≡ fault_from 1 ms → verdict_of e ≡ header_verdict n ms
unfolding header_verdict given
faulty n ms e h is = rw (le-ltb max_bytes n h, ← is, refusing e.refusal)

may_named : (t : Bool) (p : ℕ) → may_name (cond t None (Some p)) ≡ (t || is_program p)
may_named true p = refl
may_named false p = refl

named_by : (t : Bool) (count : ℕ) (first ns : List ℕ) → leb count header_least ≡ t → count ≡ length ns → program_in first ≡ program_in ns → told_program (cond t None (Some (program_in first))) ≡ program_in ns
named_by true count first ns e c p = sym (get_or-eq_default ns 0 (rw c at (leb-true count header_least e)))
named_by false count first ns e c p = p

module _ (text : List ℕ) (h : length text ≤ max_bytes) (head : Spot) (f : HeadAt text head) where
  abbrev ms : List Mark
  ms = marks text

  pub faulty_row : (e : Refused) → verdict_of e ≡ fault_from head.line (marks (drop head.place text)) → verdict_of e ≡ header_verdict (length text) ms
  faulty_row e is = faulty (length text) ms e h (is ∙ f.fault)

  module _ (row : Row) (r : WholeRow text head row) where
    pub faulty_body : (e : Refused) → verdict_of e ≡ fault_from (head.line + 1) (marks (drop row.end text)) → verdict_of e ≡ header_verdict (length text) ms
    faulty_body e is = faulty_row e (is ∙ r.fault)

    count_told : row.count ≡ length (head_of ms)
    count_told = r.count ∙ ap (λ (ms : List Mark). length (line_numbers ms)) f.there

    opening_told : opening_of row.first ≡ opening_of (head_of ms)
    opening_told = r.first ∙ ap (λ (ms : List Mark). opening_of (line_numbers ms)) f.there

    program_told : program_in row.first ≡ program_in (head_of ms)
    program_told = r.program ∙ ap (λ (ms : List Mark). program_in (line_numbers ms)) f.there

    good_told : (o : Opening) (p : Option ℕ) → o ≡ opening_of row.first → p ≡ named row.count row.first → (opens o && may_name p) ≡ head_good (head_of ms)
    good_told o p e n =
        rw (e, n, may_named (leb row.count header_least) (program_in row.first), opening_told, program_told, count_told)

    module _ (teams : ℕ) (kept : List ℤ) (tally : Tally) (later : List ℤ) (s : WholeNumbers text (record { line = head.line + 1; place = row.end }) teams kept tally later) where
      clean : fault_from 1 ms ≡ granted
      clean = sym f.fault ∙ sym r.fault ∙ s.fault

      pub other_count : is_header row.count ≡ false → ruled 24 head.line ≡ header_verdict (length text) ms
      unfolding header_verdict head_verdict given
      other_count e =
          let no : is_header (length (head_of ms)) ≡ false = rw count_told at e in
          rw (le-ltb max_bytes (length text) h, clean, no, f.line)

      pub outside : (o : Opening) (p : Option ℕ) → o ≡ opening_of row.first → p ≡ named row.count row.first → is_header row.count ≡ true → (opens o && may_name p) ≡ false
          → ruled 20 head.line ≡ header_verdict (length text) ms
      unfolding header_verdict head_verdict given
      outside o p is n e g =
          let yes : is_header (length (head_of ms)) ≡ true = rw count_told at e in
          let no : head_good (head_of ms) ≡ false = sym (good_told o p is n) ∙ g in
          rw (le-ltb max_bytes (length text) h, clean, yes, no, f.line)

      ends : header_verdict (length text) ms ≡ granted → row.end ≡ rest_place text
      unfolding rest_place
      ends g = rw g (r.end ∙ rw f.there)

      pub found_heading : (o : Opening) (p : Option ℕ) (good : may_name p ≡ true) → o ≡ opening_of row.first → p ≡ named row.count row.first → teams ≡ nat_of o.teams → is_header row.count ≡ true → (opens o && may_name p) ≡ true
          → WholeHeading text kept (record { header = record { opening = o; program = p; named = good }; tally = tally; end = row.end }) later
      unfolding header_verdict head_verdict given
      found_heading o p good is n t e g =
          let yes : is_header (length (head_of ms)) ≡ true = rw count_told at e in
          let within : head_good (head_of ms) ≡ true = sym (good_told o p is n) ∙ g in
          let opening : o ≡ opening_of (head_of ms) = is ∙ opening_told in
          let there : marks (drop row.end text) ≡ schedule_marks ms = r.there ∙ ap after_line f.there in
          let teams_told : teams ≡ teams_of ms = t ∙ ap (λ (o : Opening). nat_of o.teams) opening in
          let verdict : header_verdict (length text) ms ≡ granted = rw (le-ltb max_bytes (length text) h, clean, yes, within) in
          record {
            verdict = verdict;
            opening = opening;
            program = ap told_program n ∙ named_by (leb row.count header_least) row.count row.first (head_of ms) refl count_told program_told;
            end = ends verdict;
            within = r.within;
            tally = rw (← f.line, ← there, ← teams_told) s.tally;
            keeps = s.keeps ∙ rw there;
          }

-- ---- the schedule

-- what the tests of the schedule give, by the line of the first stranger, 0 where there is none, and by the count
abbrev tested : ℕ → ℕ → ℕ → Verdict
tested room line count = given (not (eqb line 0)) (ruled 26 line) (given (ltb room count) (ruled 27 0) granted)

refused_by : (s : Option ℕ) (t : Bool) (room line count : ℕ) → ltb room count ≡ t → IsLine s line → (e : Refused) → Err e ≡ judged_by s count room → verdict_of e ≡ tested room line count
unfolding given
refused_by (Some l) t room line count p f e is =
    let what : e ≡ record { refusal = refusal.Stranger; line = l } = cc in
    rw (what, ← f.1, ne_eqb l 0 (λ z. omega (arith, z, f.0)))
refused_by None true room line count p f e is =
    let short : Err e ≡ Err (record { refusal = refusal.ShortSchedule; line = 0 }) = rw p at is in
    let what : e ≡ record { refusal = refusal.ShortSchedule; line = 0 } = cc in
    rw (what, f, p)
refused_by None false room line count p f e is =
    let none : Err e ≡ Ok count = rw p at is in
    cc

record Allowed (s : Option ℕ) (room count n : ℕ) : Type 0 where
  all : n ≡ count
  teams : s ≡ None
  fits : count ≤ room

allowed_by : (s : Option ℕ) (t : Bool) (room count n : ℕ) → ltb room count ≡ t → Ok n ≡ judged_by s count room → Allowed s room count n
allowed_by (Some l) t room count n p is = cc
allowed_by None true room count n p is =
    let none : Ok n ≡ Err (record { refusal = refusal.ShortSchedule; line = 0 }) = rw p at is in
    cc
allowed_by None false room count n p is =
    let what : Ok n ≡ Ok count = rw p at is in
    record { all = cc; teams = refl; fits = ltb-false room count p }

-- what a heading tells of a text, of which the room is asked
module _ (text : List ℕ) (room : ℕ) (kept : List ℤ) (h : Heading) (later : List ℤ) (f : WholeHeading text kept h later) where
  no_stranger : h.tally.stranger ≡ None → stranger_line (marks text) ≡ 0
  no_stranger e = rw e at f.tally.stranger

  pub judged_refused : (e : Refused) → Err e ≡ judged h.tally room → verdict_of e ≡ schedule_verdict room (length text) (marks text)
  unfolding schedule_verdict body_verdict given
  judged_refused e is =
      refused_by h.tally.stranger (ltb room h.tally.count) room (stranger_line (marks text)) h.tally.count refl f.tally.stranger e is
      ∙ rw (f.verdict, f.tally.count)

  allowed : (n : ℕ) → Ok n ≡ judged h.tally room → Allowed h.tally.stranger room h.tally.count n
  allowed n is = allowed_by h.tally.stranger (ltb room h.tally.count) room h.tally.count n refl is

  granted_verdict : h.tally.stranger ≡ None → h.tally.count ≤ room → schedule_verdict room (length text) (marks text) ≡ granted
  unfolding schedule_verdict body_verdict given
  granted_verdict e l = rw (f.verdict, no_stranger e, ← f.tally.count, le-ltb room h.tally.count l)

  pub granted_answer : (n : ℕ) → Ok n ≡ judged h.tally room
      → record { code = 0; line = 0; opening = h.header.opening; program = told_program h.header.program; count = n } ≡ schedule_of room text
  unfolding schedule_of
  granted_answer n is =
      let a = allowed n is in
      rw (granted_verdict a.teams a.fits, f.opening, f.program, a.all, f.tally.count)

pub refused_answer : (text : List ℕ) (room : ℕ) (e : Refused) → verdict_of e ≡ schedule_verdict room (length text) (marks text)
    → record { code = code_of e.refusal; line = e.line; opening = no_opening; program = 0; count = 0 } ≡ schedule_of room text
unfolding schedule_of
refused_answer text room e is = rw (← is, refusing e.refusal)

pub refused_area : (text : List ℕ) (area : List ℤ) (e : Refused) → verdict_of e ≡ schedule_verdict (length area) (length text) (marks text) → area ≡ area_of text area
unfolding area_of
refused_area text area e is = rw (← is, refusing e.refusal)

pub refused_schedule : (text : List ℕ) (room : ℕ) (e : Refused) → verdict_of e ≡ header_verdict (length text) (marks text) → verdict_of e ≡ schedule_verdict room (length text) (marks text)
unfolding schedule_verdict given
refused_schedule text room e is = rw (← is, refusing e.refusal)

pub granted_area : (text : List ℕ) (area kept : List ℤ) (h : Heading) (later : List ℤ) → WholeHeading text kept h later → (n : ℕ) → Ok n ≡ judged h.tally (length area) → take n later ++ drop n area ≡ area_of text area
unfolding area_of
granted_area text area kept h later f n is =
    let ns = schedule_numbers (marks text) in
    let a = allowed text (length area) kept h later f n is in
    let taken : take (length ns) later ≡ map signed ns = rw f.keeps (take_at (map signed ns) (drop (length ns) kept) (length ns) (length-map ns signed)) in
    rw (a.all, f.tally.count, taken, granted_verdict text (length area) kept h later f a.teams a.fits)

-- ---- the header's answer

pub refused_header : (text : List ℕ) (e : Refused) → verdict_of e ≡ header_verdict (length text) (marks text)
    → record { code = code_of e.refusal; line = e.line; opening = no_opening; program = 0 } ≡ header_of text
unfolding header_of
refused_header text e is = rw (← is, refusing e.refusal)

pub granted_header : (text : List ℕ) (kept : List ℤ) (h : Heading) (later : List ℤ) → WholeHeading text kept h later
    → record { code = 0; line = 0; opening = h.header.opening; program = told_program h.header.program } ≡ header_of text
unfolding header_of
granted_header text kept h later f = rw (f.verdict, f.opening, f.program)

pub refused_rest : (text : List ℕ) (e : Refused) → verdict_of e ≡ header_verdict (length text) (marks text) → length text ≡ rest_place text
unfolding rest_place
refused_rest text e is = rw (← is, refusing e.refusal)
