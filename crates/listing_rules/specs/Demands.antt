-- What is demanded of the listing, for every text. `proofs/Demands.antt` proves each.
use Rattle.std.specs.Prelude.{◌≡◌, ◌≢◌, true, false, List, [], ◌∷◌, ◌++◌, ℕ, ◌*◌, ◌≤◌, ◌<◌, ℤ, pos, length, drop}
use Rattle.numbers.specs.Progress.{signed}
use Rattle.numbers.specs.Fields.{nat_of}
use Rattle.rules.specs.declared.Ledger.{Ledger}
use Rattle.rules.specs.declared.Opening.{Opening}
use Rattle.rules.specs.declared.Request.{Request}
use Rattle.laws.specs.Listing.{sheets, batches, reached, times_in, ListsOnly}
use Rattle.rules.specs.Opening.{opening}
use Rattle.text_rules.specs.Answers.{schedule_of}
use Rattle.text_rules.specs.Demands.{schedule_room, SameButComments}
use Rattle.line_rules.specs.Line.{Line, open_line, open_with_line, left_line, refused_line, text}
use Rattle.line_rules.specs.Plain.{is_plain, all}
use Rattle.listing_rules.specs.Steps.{head_line, start_of, end_of}
use Rattle.listing_rules.specs.Listing.{teams_in, lines_of, bytes_of, listing_of}
use Rattle.listing_rules.specs.Lent.{Listed, room_for, answer_to, out_after, schedule_after}
use Rattle.listing_rules.specs.Grants.{claims_in, asked}

-- ---- what `sheets` prints

-- Every byte is a lower-case letter, a digit, a space or a line end.
abbrev pub PlainListing : Type 0
PlainListing = (bytes : List ℕ) → all is_plain (listing_of bytes) ≡ true

-- "A refused text prints only `refused CODE LINE`."
abbrev pub RefusedInOneLine : Type 0
RefusedInOneLine =
    (bytes : List ℕ)
    → (schedule_of schedule_room bytes).code ≢ 0
    → listing_of bytes
    ≡ text (refused_line (signed (schedule_of schedule_room bytes).code) (signed (schedule_of schedule_room bytes).line))

-- A comment is never copied out: texts that differ only in comments have the same listing.
abbrev pub CommentsNeverPrinted : Type 0
CommentsNeverPrinted = (s t : List ℕ) → SameButComments false s t → listing_of s ≡ listing_of t

-- The open line has the header's five numbers, and a sixth exactly where the header has one.
abbrev pub OpensAsWritten : Type 0
OpensAsWritten =
    (o : Opening)
    → (head_line o 0 ≡ open_line o.start o.until o.teams o.cap o.nodes)
    × ((program : ℕ)
    → program ≢ 0
    → head_line o program ≡ open_with_line o.start o.until o.teams o.cap o.nodes (pos program))

-- ---- what was granted, in the run of a text that is not refused, with room for so many schedule numbers

abbrev pub IsGranted : ℕ → List ℕ → Type 0
IsGranted steps bytes = (schedule_of steps bytes).code ≡ 0

-- the header's numbers, its program, the requests that the run makes, and the ledger after its last step
abbrev pub opens_with : ℕ → List ℕ → Opening
opens_with steps bytes = (schedule_of steps bytes).opening

abbrev pub plays_as : ℕ → List ℕ → ℕ
plays_as steps bytes = (schedule_of steps bytes).program

abbrev pub asked_by : ℕ → List ℕ → List Request
asked_by steps bytes =
    asked (opens_with steps bytes).cap (start_of (opens_with steps bytes) (plays_as steps bytes)) (teams_in bytes)

abbrev pub last_ledger : ℕ → List ℕ → Ledger
last_ledger steps bytes = (end_of (opens_with steps bytes) (plays_as steps bytes) (teams_in bytes)).ledger

-- The batch lines are exactly what those requests were granted, each once and in their order, and the ledger is the one that they reach.
pub record Tells (steps : ℕ) (bytes : List ℕ) : Type 0 where
  pub claims : claims_in (lines_of steps bytes) ≡ batches (opening (opens_with steps bytes)).ledger (asked_by steps bytes)
  pub ledger : last_ledger steps bytes ≡ reached (opens_with steps bytes) (asked_by steps bytes)

abbrev pub PrintsWhatWasGranted : Type 0
PrintsWhatWasGranted = (steps : ℕ) (bytes : List ℕ) → IsGranted steps bytes → Tells steps bytes

-- So no sheet stands in two batch lines.
abbrev pub NoSheetPrintedTwice : Type 0
NoSheetPrintedTwice =
    (steps : ℕ) (bytes : List ℕ) (sheet : ℕ) → IsGranted steps bytes → times_in sheet (claims_in (lines_of steps bytes)) ≤ 1

-- And what is printed, node by node, with what is unclaimed is every sheet of the range, each exactly once and ascending.
abbrev pub EverySheetPrintedOnce : Type 0
EverySheetPrintedOnce =
    (steps : ℕ) (bytes : List ℕ)
    → IsGranted steps bytes
    → let o = opens_with steps bytes in
    ListsOnly (last_ledger steps bytes) (claims_in (lines_of steps bytes)) 1 (sheets (nat_of o.start) (nat_of o.until))

-- Where the left line tells that all teams have stopped, it tells that nothing is left.
abbrev pub AllStoppedNoneLeft : Type 0
AllStoppedNoneLeft =
    (steps : ℕ) (bytes : List ℕ) (before : List Line) (count : ℤ)
    → IsGranted steps bytes
    → lines_of steps bytes ≡ before ++ (left_line count (opens_with steps bytes).teams ∷ [])
    → count ≡ pos 0

-- ---- the areas that are lent

-- the listing stands at the front of its area, and after it the bytes that stood there
pub record StandsIn (out : List ℕ) (listing : List ℕ) (r : Listed) (later : List ℕ) : Type 0 where
  pub answer : r ≡ record { code = 0; length = length listing }
  pub bytes : later ≡ listing ++ drop (length listing) out

-- the answer is 28, and both areas are as they were
pub record Refuses (out : List ℕ) (schedule : List ℤ) (r : Listed) (out_later : List ℕ) (schedule_later : List ℤ) : Type 0 where
  pub answer : r ≡ record { code = 28; length = 0 }
  pub bytes : out_later ≡ out
  pub numbers : schedule_later ≡ schedule

-- An area that is long enough for any text has the whole listing; else the call is refused and changes nothing.
abbrev pub WholeOrRefused : Type 0
WholeOrRefused =
    (bytes out : List ℕ) (schedule : List ℤ)
    → let steps = length schedule in
    let r = answer_to steps bytes (length out) in
    (room_for steps ≤ length out → StandsIn out (bytes_of (lines_of steps bytes)) r (out_after steps bytes out))
    × (length out < room_for steps → Refuses out schedule r (out_after steps bytes out) (schedule_after bytes schedule (length out)))

-- No listing is longer than the room that is asked for.
abbrev pub RoomIsEnough : Type 0
RoomIsEnough = (steps : ℕ) (bytes : List ℕ) → length (bytes_of (lines_of steps bytes)) ≤ room_for steps

-- what `sheets` lends
abbrev pub listing_room : ℕ
listing_room = room_for schedule_room

-- With it every text has its listing printed.
abbrev pub PrintsTheListing : Type 0
PrintsTheListing =
    (bytes out : List ℕ) → listing_room ≤ length out
    → StandsIn out (listing_of bytes) (answer_to schedule_room bytes (length out)) (out_after schedule_room bytes out)

-- A short text needs less: room for half as many numbers as it has bytes, and one, with an area for so many lines, gives the same listing.
abbrev pub PrintsTheSame : Type 0
PrintsTheSame =
    (steps : ℕ) (bytes out : List ℕ) → steps ≤ schedule_room → length bytes < 2 * steps → room_for steps ≤ length out
    → StandsIn out (listing_of bytes) (answer_to steps bytes (length out)) (out_after steps bytes out)

-- what `sheets` lends a text of fewer than 4,096 bytes
abbrev pub short_schedule_room : ℕ
short_schedule_room = 2048

abbrev pub short_listing_room : ℕ
short_listing_room = room_for short_schedule_room
