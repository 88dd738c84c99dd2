-- A row of so many pieces: an array that is filled from its front.
use Rattle.std.specs.Prelude.{ℕ, ◌+◌, ◌-◌, cond, List, [], ◌∷◌, ◌++◌, leb, ltb, Option, Some, None, length, take, set, replicate}
use Rattle.sheet_order.specs.declared.Piece.{Piece}
use Rattle.sheet_order.specs.declared.Pieces.{Pieces}

-- the most pieces of a row
abbrev pub most : ℕ
most = 32

abbrev pub no_piece : Piece
no_piece = record { team = 0; node = 0; from = 0; to = 0 }

-- a list of pieces as a row
unfoldable pub row : List Piece → Pieces
row ps = record { count = length ps; items = ps ++ replicate (most - length ps) no_piece }

abbrev pub empty : Pieces
empty = record { count = 0; items = replicate most no_piece }

-- the pieces of a row
abbrev pub told : Pieces → List Piece
told g = take g.count g.items

-- the row with a piece more, where it has room; one past the most says that there was none
unfoldable pub with_piece : Pieces → Piece → Pieces
with_piece g p =
    cond
    (ltb g.count most)
    (record { count = g.count + 1; items = set g.items g.count p })
    (record { count = most + 1; items = g.items })

-- the row with one piece after another
unfoldable pub with_all : Pieces → List Piece → Pieces
with_all g [] = g
with_all g (p ∷ ps) = with_all (with_piece g p) ps

-- the row as an answer: none where a piece found no room
abbrev pub kept : Pieces → Option Pieces
kept g = cond (leb g.count most) (Some g) None
