-- What a call for a listing answers, and what it leaves in the two areas that it is lent. Whether there is room is decided before the first
-- byte is written: the area for the listing must have the bytes of the longest line for each number that the schedule area can hold, and
-- for two lines more. So a call is refused by its areas alone, and one that is refused changes neither.
use Rattle.std.specs.Prelude.{ℕ, ◌+◌, ◌*◌, Bool, cond, List, leb, ℤ, length, Result, Ok, Err}
use Rattle.rules.specs.declared.refusal.Refusal.{Refusal}
use Rattle.rules.specs.Refused.{code_of}
use Rattle.text_rules.specs.Answers.{area_of}
use Rattle.line_rules.specs.Longest.{max_line}
use Rattle.line_rules.specs.Written.{at_start}
use Rattle.listing_rules.specs.Listing.{lines_of, bytes_of}

-- a line for each step, the open line and the left line, each as long as the longest
abbrev pub room_for : ℕ → ℕ
room_for steps = max_line * (steps + 2)

abbrev pub has_room : ℕ → ℕ → Bool
has_room steps room = leb (room_for steps) room

-- 0 and the listing's length in bytes, or 28 and 0 where the area is too short for it
pub record Listed : Type 0 where
  pub code : ℕ
  pub length : ℕ

abbrev pub written : ℕ → Listed
written n = record { code = 0; length = n }

-- 28, "line area shorter than the line"
abbrev pub too_short : Listed
too_short = record { code = 28; length = 0 }

-- what an answer as a result stands for
abbrev pub told : Result ℕ Refusal → Listed
told (Ok n) = written n
told (Err e) = record { code = code_of e; length = 0 }

-- the answer for a text, with a schedule area for so many steps and `room` bytes for the listing
unfoldable pub answer_to : ℕ → List ℕ → ℕ → Listed
answer_to steps bytes room = cond (has_room steps room) (written (length (bytes_of (lines_of steps bytes)))) too_short

-- the listing's area afterwards: the listing and the bytes that stood after it, or all as it was
unfoldable pub out_after : ℕ → List ℕ → List ℕ → List ℕ
out_after steps bytes out = cond (has_room steps (length out)) (at_start (bytes_of (lines_of steps bytes)) out) out

-- the schedule area afterwards: as reading the schedule leaves it, or as it was
unfoldable pub schedule_after : List ℕ → List ℤ → ℕ → List ℤ
schedule_after bytes schedule room = cond (has_room (length schedule) room) (area_of bytes schedule) schedule
