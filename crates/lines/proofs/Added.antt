-- A line that is added to an area, and the line writer's answer by the place after it.
use mathlib.Core.Path.{◌≡◌, refl, ◌∙◌}
use mathlib.Core.Bool.{Bool, true, false, cond}
use mathlib.Core.List.{List, [], ◌∷◌, ◌++◌}
use Prim.Native.Nat.{ℕ, ◌+◌, ◌≤◌, ◌<◌}
use native.Mathlib.Nat.{zero-add}
use native.Mathlib.Decide.{dec_le}
use native.Mathlib.Omega.{arith}
use borrow.Author.Tests.{le-leb, lt-leb, leb-true, leb-false}
use lib.Dec.{leb}
use lib.ListN.{length}
use Rattle.line_rules.specs.Line.{Part, whole, any_negative}
use Rattle.std.specs.Prelude.{Result, Err, Option, None, Some}
use Rattle.std.specs.Option.{unwrap_or, ok_or}
use Rattle.rules.specs.declared.refusal.Refusal.{Refusal}
use Rattle.rules.specs.declared.refusal.Refusal.TheVariants.{Negative, ShortLine}
use Rattle.line_rules.specs.Written.{told, at_start}
use Rattle.line_rules.proofs.Answer.{Ends, ends_negative, ends_short, ends_written}
use Rattle.lines.specs.Area.{over, Put, added, added_to, place_after}
use Rattle.lines.proofs.Area.{first_room, second_room, both_put}

module _ (line area : List ℕ) (at : ℕ) where
  -- the place and the area that an equation each of specs/Area.antt names
  pub record Adds (next : Option ℕ) (later : List ℕ) : Type 0 where
    pub place : next ≡ place_after line at (length area)
    pub bytes : later ≡ added line at area

  pub adds : {next : ℕ} {later : List ℕ} → at + length line ≤ length area → Put area at line next later → Adds (Some next) later
  unfolding added place_after
  adds h p = let e = le-leb (at + length line) (length area) h in record { place = rw (e, p.place); bytes = rw e p.bytes }

  pub adds_nothing : length area < at + length line → Adds None area
  unfolding added place_after
  adds_nothing h = let e = lt-leb (at + length line) (length area) h in record { place = rw e; bytes = rw e }

-- where there is no room, the place is the one before the line
pub or_before : (line : List ℕ) (at room : ℕ) → unwrap_or (place_after line at room) at ≡ added_to line at room
unfolding place_after added_to
or_before line at room = go (leb (at + length line) room)
  where
    go : (b : Bool) → unwrap_or (cond b (Some (at + length line)) None) at ≡ cond b (at + length line) at
    go true = refl
    go false = refl

-- with room it is put
pub added-put : {line area later : List ℕ} {at next : ℕ} → at + length line ≤ length area → next ≡ added_to line at (length area) → later ≡ added line at area
    → Put area at line next later
unfolding added added_to
added-put {line} {area} {later} {at} h ends bytes =
    let e = le-leb (at + length line) (length area) h in
    record { place = ends ∙ rw e; bytes = bytes ∙ rw e }

-- ---- a line that is a part s and a byte after it, by the test of its room

module _ (s : List ℕ) (last : ℕ) (area : List ℕ) (at : ℕ) {line : List ℕ} {n : ℕ} {b : Bool}
    (is : line ≡ s ++ (last ∷ [])) (size : n ≡ length (s ++ (last ∷ []))) (test : b ≡ leb (at + n) (length area)) where
  fits_whole : b ≡ true → at + length (s ++ (last ∷ [])) ≤ length area
  fits_whole h = omega (arith, size, leb-true (at + n) (length area) (rw test at h))

  pub run_room : b ≡ true → at + length s ≤ length area
  run_room h = first_room area at s (last ∷ []) (fits_whole h)

  pub byte_room : b ≡ true → {m : ℕ} {later : List ℕ} → Put area at s m later → m < length later
  byte_room h p = let r = second_room area at s (last ∷ []) (fits_whole h) p in omega arith

  pub line_put : b ≡ true → {m next : ℕ} {later final : List ℕ} → Put area at s m later → Put later m (last ∷ []) next final → Adds line area at (Some next) final
  line_put h p q = rw is (adds (s ++ (last ∷ [])) area at (fits_whole h) (both_put area at s (last ∷ []) (fits_whole h) p q))

  pub no_line : b ≡ false → Adds line area at None area
  no_line h = rw is (adds_nothing (s ++ (last ∷ [])) area at (omega (arith, size, leb-false (at + n) (length area) (rw test at h))))

-- ---- the answer to a public call

-- at the start of an area
pub over_start : (area s : List ℕ) → over area 0 s ≡ at_start s area
unfolding over
over_start area s = rw zero-add

module _ (w : List ℕ) (ps : List Part) (area : List ℕ) where
  -- a negative number is told first
  pub told_negative : {r : Result ℕ Refusal} → any_negative ps ≡ true → r ≡ Err Negative → Ends w ps area (told r) area
  told_negative some e = rw e (ends_negative w ps area some)

  pub answers : {r : Result ℕ Refusal} {end : Option ℕ} {later : List ℕ}
      → any_negative ps ≡ false
      → end ≡ place_after (whole w ps) 0 (length area)
      → later ≡ added (whole w ps) 0 area
      → r ≡ ok_or end ShortLine
      → Ends w ps area (told r) later
  unfolding added place_after
  answers {r} {end} {later} good ends bytes is = go (dec_le (length (whole w ps)) (length area))
    where
      go : Dec (length (whole w ps) ≤ length area) → Ends w ps area (told r) later
      go (yes h) =
          let e = ends_written w ps area good h in
          let t = le-leb (0 + length (whole w ps)) (length area) (omega arith) in
          record { answered = rw (is, ends, t, zero-add) e.answered; left = bytes ∙ rw (t, over_start) e.left }
      go (no h) =
          let e = ends_short w ps area good (omega arith) in
          let t = lt-leb (0 + length (whole w ps)) (length area) (omega arith) in
          record { answered = rw (is, ends, t) e.answered; left = bytes ∙ rw t e.left }
