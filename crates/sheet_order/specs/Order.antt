-- The listing in pieces: the rules' listing, with who has each run of sheets and from which node.
use Rattle.std.specs.Prelude.{ℕ, zero, suc, ◌+◌, ◌≤◌, Bool, Option, Some, None, cond, ◌&&◌, List, [], ◌∷◌, ◌++◌, map, eqb, leb, length, get_or}
use Rattle.rules.specs.declared.Node.{Node}
use Rattle.rules.specs.declared.Ledger.{Ledger}
use Rattle.laws.specs.Listing.{Batch, sheets}
use Rattle.rules.specs.Nodes.{position_of, childless}
use Rattle.rules.specs.Table.{InUse, at}
use Rattle.rules.specs.WellFormed.{well_formed, Sound}
use Rattle.sheet_order.specs.declared.Piece.{Piece}
use Rattle.sheet_order.specs.declared.Pieces.{Pieces}
use Rattle.sheet_order.specs.Row.{most, no_piece, row, empty}

-- ---- what was granted

-- the first k of the pieces, the newest first, as the rules have a history
unfoldable pub granted_to : List Piece → ℕ → List Piece
granted_to ps zero = []
granted_to ps (suc k) = get_or ps k no_piece ∷ granted_to ps k

-- a piece that was granted, as the rules have it
abbrev pub as_batch : Piece → Batch
as_batch p = record { team = p.team; node = p.node; «from» = p.from; to = p.to }

abbrev pub history : Pieces → List Batch
history g = map as_batch (granted_to g.items g.count)

-- ---- the listing

-- the sheets of pieces, one piece after another
unfoldable pub sheets_of : List Piece → List ℕ
sheets_of [] = []
sheets_of (p ∷ ps) = sheets p.from p.to ++ sheets_of ps

-- what was granted from a node, in the order in which it was granted
unfoldable pub from_node : List Piece → ℕ → List Piece
from_node [] n = []
from_node (p ∷ before) n = from_node before n ++ cond (eqb p.node n) (p ∷ []) []

-- what nobody has claimed of node n, which is x
abbrev pub unclaimed_piece : ℕ → Node → Piece
unclaimed_piece n x = record { team = 0; node = n; from = position_of x; to = x.until }

-- "each node's granted batches in order, then its children left to right, or else its unclaimed sheets"; the first number bounds the depth
unfoldable pub pieces : ℕ → Ledger → List Piece → ℕ → List Piece
pieces zero l ps n = []
pieces (suc depth) l ps n =
    from_node ps n
    ++ cond
    (childless (at l n))
    (unclaimed_piece n (at l n) ∷ [])
    (pieces depth l ps (at l n).left ++ pieces depth l ps ((at l n).left + 1))

-- ---- the answer

-- the root's listing
abbrev pub root_pieces : Ledger → Pieces → List Piece
root_pieces l g = pieces l.used l (granted_to g.items g.count) 1

-- the most nodes of a ledger that is read
abbrev pub most_nodes : ℕ
most_nodes = 31

-- a well-formed ledger of not too many nodes, and not too many grants
unfoldable pub small : Ledger → Pieces → Bool
small l g = well_formed l && (leb l.used most_nodes && leb g.count most)

-- the root's listing as a row, where all is small enough, and else an empty row
unfoldable pub in_order : Ledger → Pieces → Pieces
in_order l g = cond (small l g && leb (length (root_pieces l g)) most) (row (root_pieces l g)) empty

-- the row as an answer: an empty row is none, since a listing that fits has pieces
abbrev pub answered : Pieces → Option Pieces
answered g = cond (eqb g.count 0) None (Some g)

-- ---- what the code's parts ask: node n is in use, in a well-formed ledger

pub record Readable (l : Ledger) (g : Pieces) (n : ℕ) : Type 0 where
  pub sound : Sound l
  pub grants : g.count ≤ most
  pub used : InUse l n
