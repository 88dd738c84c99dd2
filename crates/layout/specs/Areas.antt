-- The ledger that an area of bytes stands for, and the bytes of a ledger.
use Rattle.std.specs.Prelude.{ℕ, zero, suc, ◌+◌, ◌-◌, Bool, ◌&&◌, ◌||◌, List, [], ◌∷◌, ◌++◌, ltb, leb, length, take, drop, replicate}
use Rattle.rules.specs.declared.Finds.{Finds}
use Rattle.rules.specs.declared.Node.{Node}
use Rattle.rules.specs.declared.Ledger.{Ledger}
use Rattle.rules.specs.Joining.{finds}
use Rattle.rules.specs.Limits.{max_nodes}
use Rattle.rules.specs.Nodes.{make_node, blank}
use Rattle.layout.specs.Sizes.{head_size, node_size, area_size, slot_place, teams_place, room_place, used_place, progress_place, owner_place, left_place, own_place, joined_place, stage_place}
use Rattle.layout.specs.Numbers.{number_at, fours, signed_of, bits_of}

-- ---- reading

-- "A result is count, first label, last label."
unfoldable pub finds_at : List ℕ → ℕ → Finds
finds_at bs k = finds (number_at bs k) (number_at bs (k + 4)) (number_at bs (k + 8))

-- the node in the bytes from here on
unfoldable pub node_of : List ℕ → Node
node_of bs =
    make_node
    (number_at bs 0)
    (number_at bs 4)
    (signed_of (number_at bs progress_place))
    (number_at bs owner_place)
    (number_at bs left_place)
    (finds_at bs own_place)
    (finds_at bs joined_place)
    (number_at bs stage_place)

-- the node in slot i of an area
unfoldable pub slot_at : List ℕ → ℕ → Node
slot_at bs i = node_of (drop (slot_place i) bs)

-- the nodes in the bytes from here on
unfoldable pub nodes_of : ℕ → List ℕ → List Node
nodes_of zero bs = []
nodes_of (suc k) bs = node_of bs ∷ nodes_of k (drop node_size bs)

-- the ledger that an area stands for: the slots of its own room, and unused ones up to the largest
unfoldable pub decoded : List ℕ → Ledger
decoded bs =
    record {
      start = number_at bs 0;
      until = number_at bs 4;
      teams = number_at bs teams_place;
      room = number_at bs room_place;
      used = number_at bs used_place;
      nodes = nodes_of (number_at bs room_place) (drop head_size bs) ++ replicate (max_nodes - number_at bs room_place) blank;
    }

-- ---- writing

abbrev pub result_fields : Finds → List ℕ
result_fields f = f.count ∷ f.first ∷ f.last ∷ []

-- a node's twelve numbers
unfoldable pub node_fields : Node → List ℕ
node_fields x =
    x.start
    ∷ x.until
    ∷ bits_of x.progress
    ∷ x.owner
    ∷ x.left
    ∷ (result_fields x.own ++ (result_fields x.joined ++ (x.stage ∷ [])))

unfoldable pub node_bytes : Node → List ℕ
node_bytes x = fours (node_fields x)

unfoldable pub nodes_bytes : List Node → List ℕ
nodes_bytes [] = []
nodes_bytes (x ∷ xs) = node_bytes x ++ nodes_bytes xs

unfoldable pub head_bytes : Ledger → List ℕ
head_bytes l = fours (l.start ∷ l.until ∷ l.teams ∷ l.room ∷ l.used ∷ [])

-- the bytes of a ledger: its numbers, and the slots of its room
unfoldable pub encoded : Ledger → List ℕ
encoded l = head_bytes l ++ nodes_bytes (take l.room l.nodes)

-- "Bytes after the last node are untouched": a ledger's bytes, and those that follow the area bs
unfoldable pub over : List ℕ → Ledger → List ℕ
over bs l = encoded l ++ drop (area_size (decoded bs).room) bs

-- ---- lengths

-- "37, an area shorter than 20, or shorter than 20 + 48 × nodes where its nodes number is 1..1,023"
unfoldable pub too_short : List ℕ → Bool
too_short bs =
    ltb (length bs) head_size
    || (leb 1 (number_at bs room_place)
    && leb (number_at bs room_place) max_nodes
    && ltb (length bs) (area_size (number_at bs room_place)))
