-- 37, 1 and 0.
use mathlib.Core.Path.{◌≡◌, refl, sym}
use mathlib.Core.Bool.{Bool, true, false, ◌&&◌, ◌||◌, true≢false}
use mathlib.Core.List.{List}
use Prim.Native.Nat.{ℕ, ◌≤◌}
use native.Mathlib.Omega.{arith}
use lib.Dec.{leb, ltb}
use lib.ListN.{length}
use borrow.Author.Tests.{le-leb, ltb-false}
use Rattle.std.specs.Prelude.{Some, None}
use Rattle.rules.specs.declared.Ledger.{Ledger}
use Rattle.forms.specs.declared.head.Head.{Head}
use Rattle.forms.specs.Head.{headed, head_of}
use Rattle.rules.specs.Limits.{max_nodes}
use Rattle.rules.specs.Table.{stolen_in}
use Rattle.rules.specs.WellFormed.{numbers_rule, well_formed}
use Rattle.layout.specs.Sizes.{head_size, area_size, room_place}
use Rattle.layout.specs.Numbers.{number_at}
use Rattle.layout.specs.Areas.{decoded, too_short}
use Rattle.layout.proofs.Slots.{room_is}
use Rattle.forms.specs.Walk.{formed_stolen}
use Rattle.forms.proofs.Whole.{limited}
use Rattle.office_forms.specs.Measured.{Measured}
use Rattle.office_forms.specs.Codes.{Judged, formed_code, judged_of}

neither : (a b : Bool) → (a || b) ≡ false → (a ≡ false) × (b ≡ false)
neither true b e = absurd (true≢false e)
neither false b e = (refl, e)

abbrev judged : ℕ → ℕ → Judged
judged code stolen = record { code = code; stolen = stolen }

-- ---- well formed by its parts

pub bad_numbers : (l : Ledger) → numbers_rule l ≡ false → well_formed l ≡ false
unfolding well_formed
bad_numbers l e = rw e

-- ---- an area that is long enough

module _ (bs : List ℕ) (long : too_short bs ≡ false) where
  abbrev room : ℕ
  room = number_at bs room_place

  pub head_inside : head_size ≤ length bs
  unfolding too_short
  head_inside = ltb-false (length bs) head_size (neither (ltb (length bs) head_size) _ long).0

  all_inside : 1 ≤ room → room ≤ max_nodes → area_size room ≤ length bs
  unfolding too_short
  all_inside low high =
      let h = (neither (ltb (length bs) head_size) (leb 1 room && leb room max_nodes && ltb (length bs) (area_size room)) long).1 in
      ltb-false (length bs) (area_size room) (rw (le-leb 1 room low, le-leb room max_nodes high) at h)

  -- an area whose numbers are good is long enough for its nodes
  inside : numbers_rule (decoded bs) ≡ true → Measured bs (head_of (decoded bs))
  inside e =
      let n = limited (decoded bs) e in
      record {
        start_is = refl;
        until_is = refl;
        teams_is = refl;
        room_is = refl;
        used_is = refl;
        odd = n.odd;
        fits = n.fits;
        small = n.high;
        long = omega (arith, room_is bs, all_inside (omega (arith, n.low, room_is bs)) (omega (arith, n.high, room_is bs)));
      }

  pub measured : numbers_rule (decoded bs) ≡ true → {d : Head} → d ≡ head_of (decoded bs) → Measured bs d
  measured e is = rw is (inside e)

  code_1 : well_formed (decoded bs) ≡ false → formed_code bs ≡ 1
  unfolding formed_code
  code_1 e = rw (long, e)

  code_0 : well_formed (decoded bs) ≡ true → formed_code bs ≡ 0
  unfolding formed_code
  code_0 e = rw (long, e)

  pub judged_1 : well_formed (decoded bs) ≡ false → judged 1 0 ≡ judged_of bs
  unfolding judged_of
  judged_1 e = rw (code_1 e)

  pub judged_0 : formed_code bs ≡ 0 → {stolen : ℕ} → stolen ≡ stolen_in (decoded bs) → judged 0 stolen ≡ judged_of bs
  unfolding judged_of
  judged_0 e is = rw (e, is)

  -- ---- what good numbers tell, and the walk over the area then

  module _ {d : Head} (is : d ≡ head_of (decoded bs)) (good : true ≡ numbers_rule (headed d)) where
    numbered : numbers_rule (decoded bs) ≡ true
    numbered = sym (rw is at good)

    pub m : Measured bs d
    m = measured numbered is

    pub walked_some : {n : ℕ} → Some n ≡ formed_stolen (decoded bs) → (formed_code bs ≡ 0) × (n ≡ stolen_in (decoded bs))
    walked_some {n} w = go (well_formed (decoded bs)) refl
      where
        go : (t : Bool) → well_formed (decoded bs) ≡ t → (formed_code bs ≡ 0) × (n ≡ stolen_in (decoded bs))
        go true p = let same = rw p at w in (code_0 p, cc)
        go false p = let same = rw p at w in absurd (cc)

    pub walked_none : None ≡ formed_stolen (decoded bs) → judged 1 0 ≡ judged_of bs
    walked_none w = go (well_formed (decoded bs)) refl
      where
        go : (t : Bool) → well_formed (decoded bs) ≡ t → judged 1 0 ≡ judged_of bs
        go true p = let same = rw p at w in absurd (cc)
        go false p = judged_1 p

code_37 : (bs : List ℕ) → too_short bs ≡ true → formed_code bs ≡ 37
unfolding formed_code
code_37 bs e = rw e

pub judged_37 : (bs : List ℕ) → too_short bs ≡ true → judged 37 0 ≡ judged_of bs
unfolding judged_of
judged_37 bs e = rw (code_37 bs e)
