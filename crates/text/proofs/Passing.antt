-- What each pass keeps from one token to the next, over plain variables.
use mathlib.Core.Path.{◌≡◌, refl, sym, ap, ◌∙◌}
use mathlib.Core.Bool.{Bool, true, false, cond}
use mathlib.Core.List.{List, [], ◌∷◌, ◌++◌, map}
use Prim.Native.Nat.{ℕ, zero, suc, ◌+◌, ◌≤◌, ◌<◌}
use native.Mathlib.Nat.{zero-add}
use native.Mathlib.Numerals.{add-one}
use native.Mathlib.Omega.{arith}
use lib.IntN.{ℤ}
use lib.ListN.{length, get_or, set, drop, replicate, length-drop, length-set, length-map}
use lib.Seq.{sets, get_or-set_same, get_or-set_other, sets-eq}
use borrow.Author.Tests.{le-ltb, lt-ltb}
use Rattle.std.specs.Prelude.{Option, None, Some}
use Rattle.std.specs.Option.{option_or}
use Rattle.numbers.specs.Progress.{signed}
use Rattle.text.specs.declared.Spot.{Spot}
use Rattle.text.specs.declared.Row.{Row}
use Rattle.text.specs.declared.Tally.{Tally}
use Rattle.text_rules.specs.Marks.{Mark, number, marks}
use Rattle.text_rules.specs.Digits.{max_number, too_large, number_of}
use Rattle.text_rules.specs.Lines.{head_line, from_head, line_numbers, after_line, left_after, numbers_of}
use Rattle.text_rules.specs.Judgement.{max_bytes, header_least, header_most, granted, ruled, given, fault_from, opening_of, program_in, head_verdict, header_verdict, is_team, stranger_from}
use Rattle.text_rules.specs.Demands.{schedule_room}
use Rattle.text_rules.proofs.Demands.{few_numbers}
use Rattle.text_rules.proofs.Digits.{number_large}
use Rattle.text_rules.proofs.Marks.{at_end}
use Rattle.text.specs.Passes.{HeadAt, noted, WholeRow, counted, NumbersAsked, IsLine, WholeNumbers}
use Rattle.text.proofs.Stepping.{SaysLine, SaysNumber, SaysWrong, SaysNothing}

-- ---- the first number
pub record Seeking (text : List ℕ) (s : Spot) : Type 0 where
  pub within : s.place ≤ length text
  pub most : s.line ≤ s.place + 1
  pub fault : fault_from s.line (marks (drop s.place text)) ≡ fault_from 1 (marks text)
  pub head : head_line s.line (marks (drop s.place text)) ≡ head_line 1 (marks text)
  pub from : from_head (marks (drop s.place text)) ≡ from_head (marks text)

module _ (text : List ℕ) (h : length text ≤ max_bytes) (s : Spot) (r : Seeking text s) where
  pub seek_line : (next : ℕ) → SaysLine text s.place next → Seeking text (record { line = s.line + 1; place = next })
  unfolding fault_from head_line from_head
  seek_line next y =
      record {
        within = y.said.within;
        most = omega (arith, r.most, y.said.further);
        fault = rw y.said.here at r.fault;
        head = rw y.said.here at r.head;
        from = rw y.said.here at r.from;
      }

  pub seek_number : (v next : ℕ) → SaysNumber text s.place v next → HeadAt text s
  unfolding head_line from_head
  seek_number v next y =
      record {
        fault = r.fault;
        most = omega (arith, r.most, r.within);
        within = r.within;
        line = rw y.said.here at r.head;
        there = y.said.here ∙ (rw y.said.here at r.from);
      }

  pub seek_wrong : (next : ℕ) → SaysWrong text s.place next → ruled 22 s.line ≡ header_verdict (length text) (marks text)
  unfolding fault_from header_verdict given
  seek_wrong next y =
      let bad : ruled 22 s.line ≡ fault_from 1 (marks text) = rw y.said.here at r.fault in
      rw (le-ltb max_bytes (length text) h, ← bad)

  pub seek_none : (next : ℕ) → SaysNothing text s.place next → ruled 24 0 ≡ header_verdict (length text) (marks text)
  unfolding fault_from header_verdict head_verdict head_line from_head line_numbers given
  seek_none next y =
      let clean : granted ≡ fault_from 1 (marks text) = rw y.here at r.fault in
      let line : 0 ≡ head_line 1 (marks text) = rw y.here at r.head in
      let from : [] ≡ from_head (marks text) = rw y.here at r.from in
      rw (le-ltb max_bytes (length text) h, ← clean, ← from, ← line)

-- ---- a number is too large by itself, or passed
large_fault : (line k : ℕ) (ds : List ℕ) (ms : List Mark) (v : ℕ) → v ≡ number_of ds → max_number < v → ruled 23 line ≡ fault_from line (number ds k ∷ ms)
unfolding fault_from given
large_fault line k ds ms v is h =
    let large : too_large ds ≡ true = sym (number_large ds) ∙ lt-ltb max_number (number_of ds) (rw (← is) h) in
    rw large

small_fault : (line k : ℕ) (ds : List ℕ) (ms : List Mark) (v : ℕ) → v ≡ number_of ds → v ≤ max_number → fault_from line (number ds k ∷ ms) ≡ fault_from line ms
unfolding fault_from given
small_fault line k ds ms v is h =
    let small : too_large ds ≡ false = sym (number_large ds) ∙ le-ltb max_number (number_of ds) (rw (← is) h) in
    rw small

-- ---- the numbers of a line

-- the places of a header's numbers, of which none holds one yet
abbrev pub no_numbers : List ℕ
no_numbers = replicate header_most 0

-- reading a row with the marks ms on a line, up to its end so far
pub record Rowing (text : List ℕ) (on : ℕ) (ms : List Mark) (row : Row) : Type 0 where
  pub within : row.end ≤ length text
  pub size : row.count ≤ row.end
  pub fault : fault_from on (marks (drop row.end text)) ≡ fault_from on ms
  pub counted : row.count + length (line_numbers (marks (drop row.end text))) ≡ length (line_numbers ms)
  pub noted : sets row.first row.count (line_numbers (marks (drop row.end text))) ≡ sets no_numbers 0 (line_numbers ms)
  pub after : after_line (marks (drop row.end text)) ≡ after_line ms
  pub left : left_after (marks (drop row.end text)) ≡ left_after ms

module _ (text : List ℕ) (on : ℕ) (ms : List Mark) (row : Row) (r : Rowing text on ms row) where
  pub row_number : (v next : ℕ) → SaysNumber text row.end v next → v ≤ max_number → Rowing text on ms (noted (record { count = row.count; first = row.first; end = next }) v)
  unfolding line_numbers after_line left_after
  row_number v next y h =
      let here = y.said.here in
      let counted : row.count + suc (length (line_numbers (marks (drop next text)))) ≡ length (line_numbers ms) = rw here at r.counted in
      record {
        within = y.said.within;
        size = omega (arith, r.size, y.said.further);
        fault = sym (small_fault on y.left y.digits (marks (drop next text)) v y.value h) ∙ (rw here at r.fault);
        counted = omega (arith, counted);
        noted = rw (add-one row.count, y.value) (rw here at r.noted);
        after = rw here at r.after;
        left = rw here at r.left;
      }

  pub row_large : (v next : ℕ) → SaysNumber text row.end v next → max_number < v → ruled 23 on ≡ fault_from on ms
  row_large v next y h = large_fault on y.left y.digits (marks (drop next text)) v y.value h ∙ (rw y.said.here at r.fault)

  pub row_wrong : (next : ℕ) → SaysWrong text row.end next → ruled 22 on ≡ fault_from on ms
  unfolding fault_from
  row_wrong next y = rw y.said.here at r.fault

-- the first numbers stand in their places
sets_before : (vs l : List ℕ) (k i : ℕ) → i < k → get_or (sets l k vs) i 0 ≡ get_or l i 0
sets_before [] l k i h = refl
sets_before (v ∷ vs) l k i h = sets_before vs (set l k v) (suc k) i (omega arith) ∙ get_or-set_other l k i v 0 (λ e. omega (arith, e, h))

sets_there : (vs l : List ℕ) (k j : ℕ) → k + j < length l → get_or l (k + j) 0 ≡ 0 → get_or (sets l k vs) (k + j) 0 ≡ get_or vs j 0
sets_there [] l k j h z = z
sets_there (v ∷ vs) l k zero h z =
    let at : k + zero ≡ k = omega arith in
    rw at (sets_before vs (set l k v) (suc k) k (omega arith) ∙ get_or-set_same l k v 0 (omega (arith, h)))
sets_there (v ∷ vs) l k (suc j) h z =
    let at : k + suc j ≡ suc k + j = omega arith in
    let inside : suc k + j < length (set l k v) = rw (length-set l k v) (omega (arith, h)) in
    rw at (sets_there vs (set l k v) (suc k) j inside (get_or-set_other l k (suc k + j) v 0 (λ e. omega (arith, e)) ∙ (rw at at z)))

first_of : (ns : List ℕ) (j : ℕ) → j < header_most → get_or no_numbers j 0 ≡ 0 → get_or (sets no_numbers 0 ns) j 0 ≡ get_or ns j 0
first_of ns j h z =
    let at : 0 + j ≡ j = omega arith in
    rw at at (sets_there ns no_numbers 0 j (omega arith) (rw at z))

pub first_numbers : (ns : List ℕ) → opening_of (sets no_numbers 0 ns) ≡ opening_of ns
first_numbers ns =
    rw (first_of ns 0 (omega arith) refl, first_of ns 1 (omega arith) refl, first_of ns 2 (omega arith) refl, first_of ns 3 (omega arith) refl, first_of ns 4 (omega arith) refl)

pub program_number : (ns : List ℕ) → program_in (sets no_numbers 0 ns) ≡ program_in ns
program_number ns = first_of ns header_least (omega arith) refl

module _ (text : List ℕ) (head : Spot) (row : Row) (r : Rowing text head.line (marks (drop head.place text)) row) where
  abbrev ms : List Mark
  ms = marks (drop head.place text)

  -- no number of the line is left
  row_told : line_numbers (marks (drop row.end text)) ≡ [] → (row.count ≡ length (line_numbers ms)) × (opening_of row.first ≡ opening_of (line_numbers ms)) × (program_in row.first ≡ program_in (line_numbers ms))
  row_told e =
      let counted : row.count + 0 ≡ length (line_numbers ms) = rw e at r.counted in
      let noted : row.first ≡ sets no_numbers 0 (line_numbers ms) = rw e at r.noted in
      (omega (arith, counted), ap opening_of noted ∙ first_numbers (line_numbers ms), ap program_in noted ∙ program_number (line_numbers ms))

  pub row_line : (next : ℕ) → SaysLine text row.end next → WholeRow text head (record { count = row.count; first = row.first; end = next })
  unfolding fault_from line_numbers after_line left_after
  row_line next y =
      let here = y.said.here in
      let told = row_told (rw here) in
      let left : y.left ≡ left_after ms = rw here at r.left in
      record {
        fault = rw here at r.fault;
        count = told.0;
        first = told.1;
        program = told.2;
        end = y.end ∙ rw left;
        within = y.said.within;
        there = rw here at r.after;
      }

  pub row_none : (next : ℕ) → SaysNothing text row.end next → WholeRow text head (record { count = row.count; first = row.first; end = next })
  unfolding fault_from line_numbers after_line left_after
  row_none next y =
      let told = row_told (rw y.here) in
      let left : 0 ≡ left_after ms = rw y.here at r.left in
      let clean : granted ≡ fault_from head.line ms = rw y.here at r.fault in
      let after : [] ≡ after_line ms = rw y.here at r.after in
      let nothing : marks (drop next text) ≡ [] = at_end text next false (omega (arith, y.end)) in
      record {
        fault = rw nothing clean;
        count = told.0;
        first = told.1;
        program = told.2;
        end = omega (arith, y.end, left);
        within = omega (arith, y.end);
        there = nothing ∙ after;
      }

-- ---- the schedule

-- the first stranger so far, and else the first of those that are left, is the first of all
abbrev pub FirstLine : Option ℕ → ℕ → ℕ → Type 0
FirstLine None left all = left ≡ all
FirstLine (Some l) left all = (1 ≤ l) × (l ≡ all)

line_told : (s : Option ℕ) (all : ℕ) → FirstLine s 0 all → IsLine s all
line_told None all e = sym e
line_told (Some l) all e = e

later_line : (s : Option ℕ) (b : Bool) (line left all : ℕ) → 1 ≤ line → FirstLine s (cond b left line) all → FirstLine (cond b s (option_or s (Some line))) left all
later_line s true line left all h e = e
later_line None false line left all h e = (h, e)
later_line (Some l) false line left all h e = e

-- reading the numbers of the marks ms, which begin at a spot, up to another: what was kept in the area
pub record Reading (text : List ℕ) (ms : List Mark) (from : Spot) (teams : ℕ) (before : List ℤ) (s : Spot) (t : Tally) (kept : List ℤ) : Type 0 where
  pub within : s.place ≤ length text
  pub least : 1 ≤ s.line
  pub most : s.line + from.place ≤ from.line + s.place
  pub fault : fault_from s.line (marks (drop s.place text)) ≡ fault_from from.line ms
  pub strangers : FirstLine t.stranger (stranger_from teams s.line (marks (drop s.place text))) (stranger_from teams from.line ms)
  pub counted : t.count + length (numbers_of (marks (drop s.place text))) ≡ length (numbers_of ms)
  pub size : length kept ≡ length before
  pub noted : sets kept t.count (map signed (numbers_of (marks (drop s.place text)))) ≡ sets before 0 (map signed (numbers_of ms))

module _ (text : List ℕ) (ms : List Mark) (from : Spot) (teams : ℕ) (before : List ℤ) (s : Spot) (t : Tally) (kept : List ℤ) (r : Reading text ms from teams before s t kept) where
  pub read_line : (next : ℕ) → SaysLine text s.place next → Reading text ms from teams before (record { line = s.line + 1; place = next }) t kept
  unfolding fault_from stranger_from numbers_of
  read_line next y =
      let here = y.said.here in
      record {
        within = y.said.within;
        least = omega (arith, r.least);
        most = omega (arith, r.most, y.said.further);
        fault = rw here at r.fault;
        strangers = rw here at r.strangers;
        counted = rw here at r.counted;
        size = r.size;
        noted = rw here at r.noted;
      }

  -- a number that is said is counted among those of ms
  number_counted : (v next : ℕ) → SaysNumber text s.place v next → t.count + suc (length (numbers_of (marks (drop next text)))) ≡ length (numbers_of ms)
  unfolding numbers_of
  number_counted v next y = rw y.said.here at r.counted

  pub read_number : (v next : ℕ) → SaysNumber text s.place v next → v ≤ max_number
      → Reading text ms from teams before (record { line = s.line; place = next }) (counted t teams s.line v) (set kept t.count (signed v))
  unfolding stranger_from numbers_of
  read_number v next y h =
      let here = y.said.here in
      let among = number_counted v next y in
      record {
        within = y.said.within;
        least = r.least;
        most = omega (arith, r.most, y.said.further);
        fault = sym (small_fault s.line y.left y.digits (marks (drop next text)) v y.value h) ∙ (rw here at r.fault);
        strangers =
            later_line t.stranger (is_team teams v) s.line (stranger_from teams s.line (marks (drop next text))) (stranger_from teams from.line ms) r.least
            (rw y.value (rw here at r.strangers));
        counted = omega (arith, among);
        size = rw (length-set kept t.count (signed v)) r.size;
        noted = rw (add-one t.count, y.value) (rw here at r.noted);
      }

  pub read_large : (v next : ℕ) → SaysNumber text s.place v next → max_number < v → ruled 23 s.line ≡ fault_from from.line ms
  read_large v next y h = large_fault s.line y.left y.digits (marks (drop next text)) v y.value h ∙ (rw y.said.here at r.fault)

  pub read_wrong : (next : ℕ) → SaysWrong text s.place next → ruled 22 s.line ≡ fault_from from.line ms
  unfolding fault_from
  read_wrong next y = rw y.said.here at r.fault

-- all numbers have room
room_for : (text : List ℕ) (from : Spot) (room : ℕ) → NumbersAsked text from room → length (numbers_of (marks (drop from.place text))) ≤ room
room_for text from room a =
    omega (arith, few_numbers schedule_room (drop from.place text) (omega (arith, length-drop from.place text, a.short)), a.enough)

-- a list written over the front of an area
front : (vs area : List ℤ) → length vs ≤ length area → sets area 0 vs ≡ vs ++ drop (length vs) area
front vs area h = sets-eq vs area 0 (omega arith) ∙ rw (zero-add (length vs))

module _ (text : List ℕ) (from : Spot) (teams : ℕ) (before : List ℤ) (s : Spot) (t : Tally) (kept : List ℤ) (r : Reading text (marks (drop from.place text)) from teams before s t kept) (a : NumbersAsked text from (length before)) where
  abbrev all : List Mark
  all = marks (drop from.place text)

  -- so a number that is found has a place
  pub read_room : (v next : ℕ) → SaysNumber text s.place v next → t.count < length kept
  read_room v next y =
      omega (arith, number_counted text all from teams before s t kept r v next y, room_for text from (length before) a, r.size)

  pub read_none : (next : ℕ) → SaysNothing text s.place next → WholeNumbers text from teams before t kept
  unfolding fault_from stranger_from numbers_of
  read_none next y =
      let nothing = y.here in
      let ns = numbers_of all in
      let clean : granted ≡ fault_from from.line all = rw nothing at r.fault in
      let stranger : FirstLine t.stranger 0 (stranger_from teams from.line all) = rw nothing at r.strangers in
      let counted : t.count + 0 ≡ length ns = rw nothing at r.counted in
      let done : kept ≡ sets before 0 (map signed ns) = rw nothing at r.noted in
      let size : length (map signed ns) ≡ length ns = length-map ns signed in
      record {
        fault = sym clean;
        tally = record { stranger = line_told t.stranger (stranger_from teams from.line all) stranger; count = omega (arith, counted) };
        keeps = done ∙ front (map signed ns) before (omega (arith, size, room_for text from (length before) a)) ∙ rw size;
      }
