-- The demands on the ledger, as statements. `proofs/Demands.antt` proves each.
use Rattle.std.specs.Prelude.{◌≡◌, ◌≢◌, ◌⊎◌, true, [], ℕ, ◌+◌, ◌-◌, ◌*◌, ◌≤◌, ◌<◌}
use Rattle.numbers.specs.Fields.{nat_of}
use Rattle.rules.specs.declared.Answer.{Answer}
use Rattle.rules.specs.declared.Ledger.{Ledger}
use Rattle.rules.specs.declared.Node.{Node}
use Rattle.rules.specs.declared.Opening.{Opening}
use Rattle.rules.specs.declared.Request.{Request}
use Rattle.rules.specs.declared.View.{View}
use Rattle.rules.specs.Count.{unclaimed, counted}
use Rattle.rules.specs.Examples.{examples, AllRight}
use Rattle.rules.specs.Joining.{max_finds}
use Rattle.rules.specs.Limits.{max_until}
use Rattle.rules.specs.Moves.{last_mover, leads, is_in}
use Rattle.rules.specs.Nodes.{blank, fresh, position_of, left_over, marked, left_part, right_part, joined_of}
use Rattle.rules.specs.Opening.{opening}
use Rattle.rules.specs.Requests.{node_in, refusing, decided, view, alone, requested}
use Rattle.rules.specs.States.{OWNED, COMPLETED, STOLEN, state_of}
use Rattle.rules.specs.Table.{InUse, at, next_pair}
use Rattle.rules.specs.WellFormed.{well_formed, Sized, Sound}

-- An opening that is not refused makes a well-formed ledger.
abbrev pub OpeningWellFormed : Type 0
OpeningWellFormed = (o : Opening) → (opening o).code ≡ 0 → well_formed (opening o).ledger ≡ true

-- Every request, granted or refused, leaves a well-formed ledger well formed.
abbrev pub RequestsKeepWellFormed : Type 0
RequestsKeepWellFormed = (l : Ledger) (r : Request) → Sound l → well_formed (requested l r).ledger ≡ true

-- A refusal changes nothing, and has only its code, but for 16, which has left and from too.
abbrev pub RefusalsChangeNothing : Type 0
RefusalsChangeNothing =
    (l : Ledger) (r : Request) → (requested l r).answer.code ≢ 0
    → requested l r ≡ record { ledger = l; answer = refusing (view l (node_in r)) (requested l r).answer.code }

-- Where the children of node n are, as an answer a has it: their number, and the sheet at which they meet.
pub record Told (l : Ledger) (n : ℕ) (a : Answer) : Type 0 where
  pub left : a.left ≡ (at l n).left
  pub left_until : (at l a.left).until ≡ a.from
  pub right_start : (at l (a.left + 1)).start ≡ a.from

-- A team second to a split is told by 16 where the children are.
abbrev pub LateSplitterTold : Type 0
LateSplitterTold =
    (l : Ledger) (r : Request) → Sound l → (requested l r).answer.code ≡ 16 → Told l (node_in r) (requested l r).answer

-- No request of the kinds 1 to 5 looks at its node's children.
abbrev pub ChildrenUnseen : Type 0
ChildrenUnseen = (v : View) (r : Request) → nat_of r.kind ≤ last_mover → decided (alone v) r ≡ decided v r

-- A pair to take: both its slots are within the room, and all 0.
pub record HasPair (l : Ledger) : Type 0 where
  pub fits : next_pair l + 1 ≤ l.room
  pub left : at l (next_pair l) ≡ blank
  pub right : at l (next_pair l + 1) ≡ blank

-- A STOLEN node of a well-formed ledger has a pair to take, so a split needs no test for room.
abbrev pub RoomForEverySplit : Type 0
RoomForEverySplit = (l : Ledger) (n : ℕ) → Sound l → InUse l n → state_of (at l n) ≡ STOLEN → HasPair l

-- An OWNED node has a sheet left, so a team that seeks does not ask how many: it can steal the last one too.
abbrev pub OwnedHasSome : Type 0
OwnedHasSome = (l : Ledger) (n : ℕ) → Sound l → InUse l n → state_of (at l n) ≡ OWNED → 1 ≤ left_over (at l n)

-- A negative node has one too: a steal takes something, and a split has something to share out.
abbrev pub StolenHasSome : Type 0
StolenHasSome = (l : Ledger) (n : ℕ) → Sound l → InUse l n → marked (at l n) ≡ true → 1 ≤ left_over (at l n)

-- The parts of a node with one sheet left: an empty left one, and a right one with the sheet.
abbrev pub LastSheet : Type 0
LastSheet =
    (x : Node) → left_over x ≡ 1
    → (left_part x ≡ fresh (position_of x) (position_of x)) × (right_part x ≡ fresh (position_of x) x.until)

-- An empty node is COMPLETED from the start and never owned.
abbrev pub EmptyNeverOwned : Type 0
EmptyNeverOwned =
    (l : Ledger) (n : ℕ) → Sound l → InUse l n → (at l n).start ≡ (at l n).until
    → (state_of (at l n) ≡ COMPLETED) × ((at l n).owner ≡ 0)

-- No more is unclaimed than the range has sheets.
abbrev pub CountAtMost : Type 0
CountAtMost = (l : Ledger) → Sound l → unclaimed l ≤ l.until - l.start

-- So a count fits a signed 32-bit number.
abbrev pub CountFits : Type 0
CountFits = (l : Ledger) → Sized l → (counted l).count ≤ max_until

-- A node's joined count is at most that of the largest report for each node in use, so it fits 32 bits.
abbrev pub JoinedFits : Type 0
JoinedFits =
    (l : Ledger) (n : ℕ) → Sound l → InUse l n
    → (joined_of (at l n) (at l (at l n).left) (at l ((at l n).left + 1))).count ≤ max_finds * l.used

-- What the rule of moves says of a request r that makes a ledger l into another.
pub record Moves (l : Ledger) (r : Request) (next : Ledger) : Type 0 where
  -- every other node in use stays as it was
  pub others : (m : ℕ) → InUse l m → m ≢ node_in r → at next m ≡ at l m
  -- its own node moves as the rule has it, or nothing changes
  pub moves : nat_of r.kind ≤ last_mover
      → (next ≡ l) ⊎ (is_in (state_of (at next (node_in r))) (leads (state_of (at l (node_in r))) (nat_of r.kind)) ≡ true)
  -- and where the rule has no move, nothing changes
  pub none : nat_of r.kind ≤ last_mover → leads (state_of (at l (node_in r))) (nat_of r.kind) ≡ [] → next ≡ l
  -- the kinds past the table move only the stage
  pub stays : last_mover < nat_of r.kind → state_of (at next (node_in r)) ≡ state_of (at l (node_in r))

-- Every request on a well-formed ledger follows the rule of moves.
abbrev pub RequestsFollowMoves : Type 0
RequestsFollowMoves = (l : Ledger) (r : Request) → Sound l → Moves l r (requested l r).ledger

-- The twelve examples are as the document has them.
abbrev pub TwelveExamples : Type 0
TwelveExamples = AllRight examples
