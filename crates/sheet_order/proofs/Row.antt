-- A row that is filled piece after piece is the list of them, where they fit.
use Prim.Native.Nat.{ℕ, suc, ◌+◌, ◌-◌, ◌≤◌, ◌<◌}
use mathlib.Core.Path.{◌≡◌, refl, sym, ap, ◌∙◌}
use mathlib.Core.Logic.{◌≢◌}
use mathlib.Core.Bool.{cond}
use mathlib.Core.List.{List, [], ◌∷◌, ◌++◌, append-nil}
use native.Mathlib.Omega.{arith}
use native.Mathlib.Decide.{dec_lt, dec_le}
use borrow.Author.Tests.{lt-ltb, le-ltb, lt-leb, le-leb, ne_eqb}
use lib.Dec.{leb}
use lib.ListN.{length, replicate, length-append}
use lib.Seq.{set-append_seam, append_snoc}
use Rattle.std.specs.Prelude.{Some, None}
use Rattle.sheet_order.specs.declared.Piece.{Piece}
use Rattle.sheet_order.specs.declared.Pieces.{Pieces}
use Rattle.sheet_order.specs.Row.{most, no_piece, row, empty, with_piece, with_all, kept}
use Rattle.sheet_order.specs.Order.{answered}

-- pieces that stand in two lists, one list after the other
pub with_all_both : (g : Pieces) (ps qs : List Piece) → with_all g (ps ++ qs) ≡ with_all (with_all g ps) qs
unfolding with_all
with_all_both g [] qs = refl
with_all_both g (p ∷ ps) qs = with_all_both (with_piece g p) ps qs

pub with_all_one : (g : Pieces) (p : Piece) → with_all g (p ∷ []) ≡ with_piece g p
unfolding with_all
with_all_one g p = refl

pub with_all_none : (g : Pieces) → with_all g [] ≡ g
unfolding with_all
with_all_none g = refl

-- ---- with room

one_slot : (n k : ℕ) → n ≡ suc k → replicate n no_piece ≡ no_piece ∷ replicate k no_piece
one_slot n k e = rw e

no_row : row [] ≡ empty
unfolding row
no_row = refl

row_more : (ps : List Piece) (p : Piece) → length ps < most → with_piece (row ps) p ≡ row (ps ++ p ∷ [])
unfolding with_piece row
row_more ps p h =
    let e : most - length ps ≡ suc (most - (length ps + 1)) = omega arith in
    let f : length (ps ++ p ∷ []) ≡ length ps + 1 = length-append ps (p ∷ []) in
    let g = one_slot (most - length ps) (most - (length ps + 1)) e in
    rw (lt-ltb (length ps) most h, f, g, set-append_seam, append_snoc)

row_all : (qs ps : List Piece) → length qs + length ps ≤ most → with_all (row qs) ps ≡ row (qs ++ ps)
unfolding with_all
row_all qs [] h = rw append-nil
row_all qs (p ∷ ps) h =
    let e : length qs < most = omega arith in
    let k : length (qs ++ p ∷ []) + length ps ≤ most = omega (arith, length-append qs (p ∷ [])) in
    ap (λ (g : Pieces). with_all g ps) (row_more qs p e) ∙ row_all (qs ++ p ∷ []) ps k ∙ ap row (append_snoc qs p ps)

-- ---- without

one_more : (g : Pieces) (p : Piece) → g.count < most → (with_piece g p).count ≡ g.count + 1
unfolding with_piece
one_more g p h = rw (lt-ltb g.count most h)

no_room_lem : (g : Pieces) (p : Piece) → most ≤ g.count → (with_piece g p).count ≡ most + 1
unfolding with_piece
no_room_lem g p h = rw (le-ltb g.count most h)

full : (g : Pieces) (ps : List Piece) → g.count ≤ most + 1 → most < g.count + length ps → (with_all g ps).count ≡ most + 1
unfolding with_all
full g [] h k = omega arith
full g (p ∷ ps) h k = go (dec_lt g.count most) (λ a b. full (with_piece g p) ps a b)
  where
    go : Dec (g.count < most)
        → ((with_piece g p).count ≤ most + 1 → most < (with_piece g p).count + length ps → (with_all (with_piece g p) ps).count ≡ most + 1)
        → (with_all (with_piece g p) ps).count ≡ most + 1
    go (yes d) rest = rest (omega (arith, one_more g p d)) (omega (arith, one_more g p d))
    go (no d) rest = let e : (with_piece g p).count ≡ most + 1 = no_room_lem g p (omega arith) in rest (omega arith) (omega arith)

-- ---- as an answer

pub kept_is : (g : Pieces) {h : Pieces} → Some h ≡ kept g → (h ≡ g) × (h.count ≤ most)
kept_is g {h = h} e = go (dec_le g.count most)
  where
    go : Dec (g.count ≤ most) → (h ≡ g) × (h.count ≤ most)
    go (yes k) = let same : Some h ≡ Some g = e ∙ rw (le-leb g.count most k) in let i : h ≡ g = cc in (i, rw i k)
    go (no k) = let none : Some h ≡ None = e ∙ rw (lt-leb g.count most (omega arith)) in cc

pub kept_row : {g h : Pieces} → g ≡ h → g.count ≤ most → Some g ≡ kept h
kept_row {g = g} e k = rw (← e, le-leb g.count most k)

-- a row that found no room finds none later
stays_full : (g : Pieces) (ps : List Piece) → most < g.count → None ≡ kept (with_all g ps)
unfolding with_all
stays_full g [] h = rw (lt-leb g.count most h)
stays_full g (p ∷ ps) h = stays_full (with_piece g p) ps (omega (arith, no_room_lem g p (omega arith)))

pub kept_none : (g : Pieces) (ps : List Piece) → None ≡ kept g → None ≡ kept (with_all g ps)
kept_none g ps e = go (dec_le g.count most)
  where
    go : Dec (g.count ≤ most) → None ≡ kept (with_all g ps)
    go (yes k) = let some : None ≡ Some g = e ∙ rw (le-leb g.count most k) in cc
    go (no k) = stays_full g ps (omega arith)

-- ---- either way

pub filled : (ps : List Piece) → 0 < length ps → kept (with_all empty ps) ≡ answered (cond (leb (length ps) most) (row ps) empty)
unfolding row
filled ps some = go (dec_le (length ps) most)
  where
    go : Dec (length ps ≤ most) → kept (with_all empty ps) ≡ answered (cond (leb (length ps) most) (row ps) empty)
    go (yes h) =
        let e : with_all empty ps ≡ row ps = ap (λ (g : Pieces). with_all g ps) (sym no_row) ∙ row_all [] ps (omega arith) in
        let ne : length ps ≢ 0 = λ z. omega arith in
        rw (e, le-leb (length ps) most h) (rw (ne_eqb (length ps) 0 ne))
    go (no h) = rw (lt-leb (length ps) most (omega arith)) (let k : most < (with_all empty ps).count = omega (arith, full empty ps (omega arith) (omega arith)) in rw (lt-leb (with_all empty ps).count most k))
