-- From the text to the run, and from the run's lines to the whole listing.
use mathlib.Core.Path.{◌≡◌, ap, ◌∙◌}
use mathlib.Core.Bool.{true}
use mathlib.Core.Logic.{◌≢◌}
use mathlib.Core.List.{List, map}
use Prim.Native.Nat.{ℕ, ◌+◌, ◌≤◌, ◌<◌}
use native.Mathlib.Nat.{zero-add}
use native.Mathlib.Omega.{arith}
use lib.IntN.{ℤ, pos}
use lib.ListN.{length, take, drop, length-map, length-append}
use lib.Seq.{take_at, length-take-le, get_or-take}
use Rattle.numbers.specs.Progress.{signed}
use Rattle.numbers.specs.Fields.{nat_of}
use Rattle.std.specs.Prelude.{Result, Ok, Err}
use Rattle.std.specs.Result.{result_unwrap_or}
use Rattle.rules.specs.declared.Ledger.{Ledger}
use Rattle.rules.specs.declared.refusal.Refusal.{Refusal}
use Rattle.rules.specs.Refused.{code_of}
use Rattle.rules.specs.Count.{Unclaimed, unclaimed, counted, told}
use Rattle.rules.specs.WellFormed.{well_formed}
use Rattle.rules.proofs.Opens.{opens_facts}
use Rattle.text_rules.specs.Marks.{marks}
use Rattle.text_rules.specs.Judgement.{schedule_numbers}
use Rattle.text_rules.specs.Answers.{ScheduleAnswer, schedule_of, filled, area_of}
use Rattle.text_rules.specs.Demands.{WithinLimits}
use Rattle.text_rules.proofs.Demands.{granted_within_limits}
use Rattle.listing_rules.proofs.Teams.{front_teams}
use Rattle.line_rules.specs.Line.{refused_line, text}
use Rattle.line_rules.specs.Written.{at_start}
use Rattle.lines.specs.Area.{Put}
use Rattle.lines.proofs.Added.{over_start}
use Rattle.listing_rules.specs.Steps.{run_lines}
use Rattle.listing_rules.specs.Listing.{teams_in, lines_of, bytes_of}
use Rattle.listing_rules.specs.Lent.{room_for}
use Rattle.listing_rules.proofs.Lines.{one_line}
use Rattle.listing_rules.proofs.Demands.{refused_lines, granted_lines, refusal_short}
use Rattle.listing.specs.Table.{Runnable}

module _ (bytes : List ℕ) (area later : List ℤ) (s : ScheduleAnswer) (is : s ≡ schedule_of (length area) bytes) (Filled-is : later ≡ area_of bytes area)
    (good : s.code ≡ 0) where
  abbrev ns : List ℕ
  ns = schedule_numbers (marks bytes)

  limits : WithinLimits (length area) bytes
  limits = granted_within_limits (length area) bytes (rw is at good)

  later-is : later ≡ filled ns area
  unfolding area_of schedule_of
  later-is = let g : (schedule_of (length area) bytes).code ≡ 0 = rw is at good in Filled-is ∙ rw g

  count_is : s.count ≡ length ns
  count_is = rw is limits.count

  pub count_fits : s.count ≤ length area
  count_fits = rw count_is limits.fits

  pub steps_are : take s.count later ≡ teams_in bytes
  steps_are = rw (count_is, later-is) (take_at (map signed ns) (drop (length ns) area) (length ns) (length-map ns signed))

  pub runnable_inside : s.count ≤ length later
  runnable_inside = rw (count_is, later-is, length-append) (omega (arith, length-map ns signed))

  pub runnable : Runnable s.opening s.program (length (take s.count later)) (take s.count later)
  runnable =
      let f = opens_facts (schedule_of (length area) bytes).opening limits.opening in
      let long = length-take-le s.count later runnable_inside in
      record {
        opened = rw is limits.opening;
        known = rw is limits.program;
        inside = rw long (omega arith);
        teams = λ i h.
            let less : i < s.count = rw long at h in
            rw (get_or-take s.count later i (pos 0) less, later-is)
            (rw (← is) at (front_teams (nat_of (schedule_of (length area) bytes).opening.teams) ns (drop (length ns) area) (omega (arith, f.teams.high)) limits.teams i (rw count_is at less)));
      }

-- ---- the whole listing

-- bytes at the start of an area, their count and the area
pub record Stands (area : List ℕ) (listing : List ℕ) (r : ℕ) (later : List ℕ) : Type 0 where
  pub length-is : r ≡ length listing
  pub bytes : later ≡ at_start listing area

put_stands : {area listing later : List ℕ} {r : ℕ} → Put area 0 listing r later → Stands area listing r later
put_stands {area} {listing} p = record { length-is = p.place ∙ zero-add (length listing); bytes = p.bytes ∙ over_start area listing }

module _ (room : ℕ) (bytes out : List ℕ) (s : ScheduleAnswer) (is : s ≡ schedule_of room bytes) where
  pub refused_room : s.code ≢ 0 → room_for room ≤ length out
      → 0 + length (text (refused_line (signed s.code) (signed s.line))) ≤ length out
  refused_room bad enough = rw is (omega (arith, refusal_short room bytes))

  pub refused_whole : {r : ℕ} {later : List ℕ}
      → s.code ≢ 0
      → Put out 0 (text (refused_line (signed s.code) (signed s.line))) r later
      → Stands out (bytes_of (lines_of room bytes)) r later
  refused_whole bad p = rw (refused_lines room bytes (rw is at bad), one_line) (rw is at (put_stands p))

  pub granted_whole : {r : ℕ} {later : List ℕ} (schedule : List ℤ)
      → s.code ≡ 0
      → schedule ≡ teams_in bytes
      → Put out 0 (bytes_of (run_lines s.opening s.program schedule)) r later
      → Stands out (bytes_of (lines_of room bytes)) r later
  granted_whole schedule good e p = rw (granted_lines room bytes (rw is at good)) (rw (is, e) at (put_stands p))

-- ---- the count of a well-formed ledger

pub some_code : (e : Refusal) → code_of e ≢ 0
some_code e = grind arith

-- a code is a small number
pub signed_code : (e : Refusal) → signed (code_of e) ≡ pos (code_of e)
signed_code e = grind arith

pub unclaimed_is : (r : Result ℕ Refusal) (l : Ledger) → told r ≡ counted l → well_formed l ≡ true → result_unwrap_or r 0 ≡ unclaimed l
unfolding counted
unclaimed_is (Ok n) l e good = ap (λ (u : Unclaimed). u.count) (rw good at e)
unclaimed_is (Err d) l e good = absurd (some_code d (ap (λ (u : Unclaimed). u.code) (rw good at e)))
