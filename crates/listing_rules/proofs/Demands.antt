-- The demands on the listing, proved.
use mathlib.Core.Path.{◌≡◌, refl, sym, ap, ◌∙◌}
use mathlib.Core.Logic.{◌≢◌}
use mathlib.Core.Bool.{true}
use mathlib.Core.List.{List, [], ◌∷◌, ◌++◌, append-nil}
use Prim.Native.Nat.{ℕ, ◌+◌, ◌*◌, ◌≤◌, ◌<◌}
use native.Mathlib.Omega.{arith}
use native.Mathlib.Decide.{dec_le, ℕ_discrete}
use lib.IntN.{ℤ, pos}
use lib.ListN.{length, get_or, length-map, length-append, length-drop}
use borrow.Author.Tests.{le-leb, lt-leb, ne_eqb}
use Rattle.numbers.specs.Progress.{signed}
use Rattle.numbers.specs.Fields.{nat_of, within}
use Rattle.steps.specs.Records.{program_of}
use Rattle.rules.specs.declared.Opening.{Opening}
use Rattle.rules.specs.Limits.{opens, max_teams}
use Rattle.rules.specs.Count.{unclaimed}
use Rattle.laws.specs.Listing.{batches}
use Rattle.rules.specs.Opening.{opening, ledger_of}
use Rattle.laws.proofs.Once.{given_once_at_most}
use Rattle.rules.proofs.Opens.{opens_facts}
use Rattle.laws.proofs.Sheets.{every_sheet_once}
use Rattle.steps.specs.Run.{stopped_teams}
use Rattle.steps.proofs.Nothing.{nothing_left}
use Rattle.steps.proofs.Runs.{all_fresh}
use Rattle.text_rules.specs.Marks.{marks}
use Rattle.text_rules.specs.Judgement.{schedule_numbers}
use Rattle.text_rules.specs.Answers.{ScheduleAnswer, schedule_of}
use Rattle.text_rules.specs.Demands.{schedule_room, WithinLimits}
use Rattle.text_rules.proofs.Demands.{half_is_enough, granted_within_limits, same_marks, comments_never_matter}
use Rattle.line_rules.specs.Line.{Line, left_line, refused_line, spaced, whole, text}
use Rattle.line_rules.specs.Longest.{max_line}
use Rattle.line_rules.proofs.Decimal.{decimal_width}
use Rattle.listing_rules.specs.Steps.{head_line, last_line, notes, start_of, end_of, run_lines}
use Rattle.listing_rules.specs.Listing.{teams_in, lines_by, lines_of, bytes_of, listing_of}
use Rattle.listing_rules.specs.Lent.{room_for, answer_to, out_after, schedule_after}
use Rattle.listing_rules.specs.Grants.{claims_in, asked}
use Rattle.listing_rules.specs.Demands.{IsGranted, opens_with, plays_as, asked_by, PlainListing, RefusedInOneLine, CommentsNeverPrinted, OpensAsWritten, PrintsWhatWasGranted, NoSheetPrintedTwice, EverySheetPrintedOnce, AllStoppedNoneLeft, StandsIn, WholeOrRefused, RoomIsEnough, PrintsTheListing, PrintsTheSame}
use Rattle.listing_rules.proofs.Lines.{AllShort, none, more, short_append, plain_bytes, short_bytes}
use Rattle.listing_rules.proofs.Noted.{RunTells, run_tells, claims_of_run}
use Rattle.listing_rules.proofs.Teams.{front_teams}
use Rattle.listing_rules.proofs.Runs.{Begun, Here, here, start_fits}
use Rattle.listing_rules.proofs.Short.{stopped_most, last_short, begun_short}

-- ---- a text that is granted, and one that is refused

abbrev refusal : ℕ → List ℕ → Line
refusal steps bytes = refused_line (signed (schedule_of steps bytes).code) (signed (schedule_of steps bytes).line)

pub refused_lines : (steps : ℕ) (bytes : List ℕ) → (schedule_of steps bytes).code ≢ 0 → lines_of steps bytes ≡ refusal steps bytes ∷ []
unfolding lines_of
refused_lines steps bytes bad = rw (ne_eqb (schedule_of steps bytes).code 0 bad)

pub granted_lines : (steps : ℕ) (bytes : List ℕ) → IsGranted steps bytes → lines_of steps bytes ≡ run_lines (opens_with steps bytes) (plays_as steps bytes) (teams_in bytes)
unfolding lines_of
granted_lines steps bytes good = rw good

-- ---- the last of some lines

last_of : Line → List Line → Line
last_of d [] = d
last_of d (l ∷ ls) = last_of l ls

last_is : (d : Line) (xs : List Line) (l : Line) → last_of d (xs ++ (l ∷ [])) ≡ l
unfolding last_of
last_is d [] l = refl
last_is d (x ∷ xs) l = last_is x xs l

-- ---- the run of a text that is granted

module _ (steps : ℕ) (bytes : List ℕ) (good : IsGranted steps bytes) where
  abbrev o : Opening
  o = opens_with steps bytes

  abbrev program : ℕ
  program = plays_as steps bytes

  abbrev s : List ℤ
  s = teams_in bytes

  limits : WithinLimits steps bytes
  limits = granted_within_limits steps bytes good

  ok : opens o ≡ true
  ok = limits.opening

  cap_is : pos (nat_of o.cap) ≡ o.cap
  cap_is = sym (opens_facts o ok).cap.is

  each_team : (i : ℕ) → i < length s → within (get_or s i (pos 0)) 1 (nat_of o.teams) ≡ true
  each_team i h =
      let ns = schedule_numbers (marks bytes) in
      rw append-nil at
      (front_teams (nat_of o.teams) ns [] (omega (arith, (opens_facts o ok).teams.high)) limits.teams i (omega (arith, length-map ns signed)))

  tells : RunTells (ledger_of o) (length s) (notes o.cap (start_of o program) s) (asked o.cap (start_of o program) s) (end_of o program s).ledger
  tells = rw cap_is at (run_tells o ok (start_of o program) s each_team (start_fits o ok program))

  opened-is : (opening o).ledger ≡ ledger_of o
  unfolding opening
  opened-is = rw ok

  opens-code : (opening o).code ≡ 0
  unfolding opening
  opens-code = rw ok

  printed-batches : claims_in (lines_of steps bytes) ≡ batches (ledger_of o) (asked o.cap (start_of o program) s)
  printed-batches =
      ap claims_in (granted_lines steps bytes good) ∙ claims_of_run o program s ∙ tells.told.claims

  -- ---- its lines are short

  begins : Begun o program (nat_of o.cap) (start_of o program)
  begins = record { ok = ok; known = limits.program; cap_is = refl; start_is = refl }

  end_here : Here o (nat_of o.cap) (end_of o program s).ledger (end_of o program s).records
  end_here = here begins s (end_of o program s).ledger (end_of o program s).records (rw cap_is)

  run_short : AllShort (lines_of steps bytes)
  unfolding run_lines
  run_short =
      rw (granted_lines steps bytes good)
      (short_append (rw cap_is at (begun_short begins s each_team)) (more (last_short end_here) none))

  few_lines : length (lines_of steps bytes) ≤ steps + 2
  unfolding run_lines
  few_lines =
      rw (granted_lines steps bytes good, length-append)
      (omega (arith, tells.told.few, length-map (schedule_numbers (marks bytes)) signed, limits.fits))

-- ---- any text

pub refusal_short : (steps : ℕ) (bytes : List ℕ) → length (text (refusal steps bytes)) ≤ max_line
unfolding whole spaced
refusal_short steps bytes =
    let a = decimal_width 9 (nat_of (signed (schedule_of steps bytes).code)) (omega arith) in
    let b = decimal_width 9 (nat_of (signed (schedule_of steps bytes).line)) (omega arith) in
    simp length-append (omega arith)

-- the lines are short, and there are at most two besides those of the steps
record Lined (steps : ℕ) (ls : List Line) : Type 0 where
  short : AllShort ls
  few : length ls ≤ steps + 2

lined : (steps : ℕ) (bytes : List ℕ) → Lined steps (lines_of steps bytes)
lined steps bytes = go (ℕ_discrete (schedule_of steps bytes).code 0)
  where
    go : Dec ((schedule_of steps bytes).code ≡ 0) → Lined steps (lines_of steps bytes)
    go (yes good) = record { short = run_short steps bytes good; few = few_lines steps bytes good }
    go (no bad) =
        rw (refused_lines steps bytes bad) (record { short = more (refusal_short steps bytes) none; few = omega arith })

-- ---- the demands

pub plain_listing : PlainListing
unfolding listing_of
plain_listing bytes = plain_bytes (lines_of schedule_room bytes)

pub refused_in_one_line : RefusedInOneLine
unfolding listing_of bytes_of
refused_in_one_line bytes bad = rw (refused_lines schedule_room bytes bad) (append-nil (text (refusal schedule_room bytes)))

pub comments_never_printed : CommentsNeverPrinted
unfolding listing_of lines_of
comments_never_printed s t r = rw ((comments_never_matter s t r).schedule schedule_room, same_marks r)

pub opens_as_written : OpensAsWritten
opens_as_written o = (refl, λ program some. rw (ne_eqb program 0 some))

pub prints_what_was_granted : PrintsWhatWasGranted
prints_what_was_granted steps bytes good =
    record {
      claims = rw (opened-is steps bytes good) (printed-batches steps bytes good);
      ledger = rw (opened-is steps bytes good) (tells steps bytes good).ledger;
    }

pub no_sheet_printed_twice : NoSheetPrintedTwice
no_sheet_printed_twice steps bytes sheet good =
    rw
    (prints_what_was_granted steps bytes good).claims
    (given_once_at_most (opens_with steps bytes) (asked_by steps bytes) sheet (opens-code steps bytes good))

pub every_sheet_printed_once : EverySheetPrintedOnce
every_sheet_printed_once steps bytes good =
    let t = prints_what_was_granted steps bytes good in
    rw (t.ledger, t.claims) (every_sheet_once (opens_with steps bytes) (asked_by steps bytes) (opens-code steps bytes good))

pub all_stopped_none_left : AllStoppedNoneLeft
unfolding run_lines
all_stopped_none_left steps bytes before count good e =
    let o = opens_with steps bytes in
    let program = plays_as steps bytes in
    let u = end_of o program (teams_in bytes) in
    let last : last_line u ≡ left_line count o.teams =
    sym (last_is (last_line u) (head_line o program ∷ notes o.cap (start_of o program) (teams_in bytes)) (last_line u))
    ∙ ap (last_of (last_line u)) (sym (granted_lines steps bytes good) ∙ e)
    ∙ last_is (last_line u) before (left_line count o.teams) in
    let stopped : pos (stopped_teams u) ≡ o.teams = cc in
    let left : count ≡ pos (unclaimed u.ledger) = cc in
    let all : stopped_teams u ≡ u.ledger.teams = omega (arith, ap nat_of stopped, stopped_most (end_here steps bytes good), (end_here steps bytes good).teams_are) in
    let none : unclaimed u.ledger ≡ 0 = nothing_left o _ _ (ok steps bytes good) (all_fresh (program_of program) max_teams (nat_of o.teams) (opens_facts o (ok steps bytes good)).teams.high) all in
    left ∙ rw none

pub room_is_enough : RoomIsEnough
room_is_enough steps bytes =
    let l = lined steps bytes in
    omega (arith, short_bytes (lines_of steps bytes) l.short, l.few)

-- ---- the areas

module _ (steps : ℕ) (bytes out : List ℕ) where
  stands : room_for steps ≤ length out → StandsIn out (bytes_of (lines_of steps bytes)) (answer_to steps bytes (length out)) (out_after steps bytes out)
  unfolding answer_to out_after
  stands h = let e = le-leb (room_for steps) (length out) h in record { answer = rw e; bytes = rw e }

  -- what is answered is within the area, which keeps its length
  pub record Inside : Type 0 where
    pub within : (answer_to steps bytes (length out)).length ≤ length out
    pub same : length (out_after steps bytes out) ≡ length out

  pub inside : Inside
  unfolding answer_to out_after
  inside = go (dec_le (room_for steps) (length out))
    where
      go : Dec (room_for steps ≤ length out) → Inside
      go (yes h) =
          let e = le-leb (room_for steps) (length out) h in
          let f = room_is_enough steps bytes in
          record {
            within = rw e (omega arith);
            same = rw (e, length-append) (omega (arith, length-drop (length (bytes_of (lines_of steps bytes))) out));
          }
      go (no h) = let e = lt-leb (room_for steps) (length out) (omega arith) in record { within = rw e (omega arith); same = rw e }

pub whole_or_refused : WholeOrRefused
unfolding answer_to out_after schedule_after
whole_or_refused bytes out schedule = (
  stands (length schedule) bytes out,
  (λ h. let e = lt-leb (room_for (length schedule)) (length out) h in record { answer = rw e; bytes = rw e; numbers = rw e }),
)

pub prints_the_listing : PrintsTheListing
unfolding listing_of
prints_the_listing bytes out enough = stands schedule_room bytes out enough

same_listing : (steps : ℕ) (bytes : List ℕ) → steps ≤ schedule_room → length bytes < 2 * steps → bytes_of (lines_of steps bytes) ≡ listing_of bytes
unfolding listing_of lines_of
same_listing steps bytes few short = ap (λ (s : ScheduleAnswer). bytes_of (lines_by s (teams_in bytes))) (half_is_enough steps bytes few short)

pub prints_the_same : PrintsTheSame
prints_the_same steps bytes out few short enough = rw (same_listing steps bytes few short) at (stands steps bytes out enough)
