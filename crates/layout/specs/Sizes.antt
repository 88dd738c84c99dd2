-- Sizes and places of the layout, in bytes: nothing else says what they are.
use Rattle.std.specs.Prelude.{ℕ, ◌+◌, ◌*◌}

-- "five ledger numbers (start, until, teams, nodes, used)"
abbrev pub head_size : ℕ
head_size = 20

-- "then 48 bytes a node"
abbrev pub node_size : ℕ
node_size = 48

-- "its answer's six numbers go to a lent area of 24 bytes"
abbrev pub answer_size : ℕ
answer_size = 24

-- "20 + 48 × nodes"
abbrev pub area_size : ℕ → ℕ
area_size nodes = head_size + node_size * nodes

-- slot i begins where the slots before it end
abbrev pub slot_place : ℕ → ℕ
slot_place i = area_size i

-- ---- where the ledger's numbers stand

abbrev pub teams_place : ℕ
teams_place = 8

abbrev pub room_place : ℕ
room_place = 12

abbrev pub used_place : ℕ
used_place = 16

-- ---- where a node's numbers stand in its 48 bytes: "start, until, progress, owner, left, own result, joined result, stage"

abbrev pub progress_place : ℕ
progress_place = 8

abbrev pub owner_place : ℕ
owner_place = 12

abbrev pub left_place : ℕ
left_place = 16

abbrev pub own_place : ℕ
own_place = 20

abbrev pub joined_place : ℕ
joined_place = 32

abbrev pub stage_place : ℕ
stage_place = 44
