-- What an area tells that the tests let pass.
use mathlib.Core.Path.{◌≡◌, refl, ap}
use mathlib.Core.Bool.{Bool, true, false, not, cond}
use mathlib.Core.List.{List}
use Prim.Native.Nat.{ℕ, ◌≤◌}
use native.Mathlib.Omega.{arith}
use lib.ListN.{length}
use Rattle.std.specs.Prelude.{Err}
use Rattle.rules.specs.declared.Ledger.{Ledger}
use Rattle.rules.specs.declared.refusal.Refusal.{Refusal}
use Rattle.rules.specs.Refused.{code_of}
use Rattle.forms.specs.declared.head.Head.{Head}
use Rattle.forms.specs.Head.{head_of}
use Rattle.rules.specs.Limits.{max_nodes}
use Rattle.rules.specs.WellFormed.{numbers_rule, well_formed, Sound}
use Rattle.rules.proofs.Facts.{both}
use Rattle.rules.proofs.Record.{WF, rules, both_sound}
use Rattle.layout.specs.Sizes.{area_size}
use Rattle.layout.specs.Numbers.{Bytes}
use Rattle.layout.specs.Areas.{decoded, over, too_short}
use Rattle.layout.proofs.Slots.{slots_length}
use Rattle.layout.proofs.Stored.{area_is}
use Rattle.office_forms.specs.Codes.{Judged, formed_code, judged_of}
use Rattle.office_forms.specs.Told.{told}
use Rattle.office_forms.specs.Measured.{Measured}
use Rattle.office_forms.proofs.Codes.{measured}

pub record Held (bs : List ℕ) : Type 0 where
  pub short : too_short bs ≡ false
  pub formed : well_formed (decoded bs) ≡ true
  pub room : (decoded bs).room ≤ max_nodes
  pub used : (decoded bs).used ≤ (decoded bs).room
  pub long : area_size (decoded bs).room ≤ length bs
  pub sound : Sound (decoded bs)
  pub slots : length (decoded bs).nodes ≡ max_nodes

numbers_first : (l : Ledger) → well_formed l ≡ true → numbers_rule l ≡ true
unfolding well_formed
numbers_first l e = ((both (numbers_rule l) _).0 e).0

pub held : (bs : List ℕ) → formed_code bs ≡ 0 → Held bs
unfolding formed_code decoded
held bs e = go (too_short bs) (well_formed (decoded bs)) refl refl e
  where
    go : (s w : Bool) → too_short bs ≡ s → well_formed (decoded bs) ≡ w → ◌≡◌ {A = ℕ} (cond s 37 (cond (not w) 1 0)) 0 → Held bs
    go true w p q z = absurd (omega arith)
    go false false p q z = absurd (omega arith)
    go false true p q z =
        let m = measured bs p (numbers_first (decoded bs) q) refl in
        let slots = slots_length bs (omega (arith, m.small)) in
        record {
          short = p;
          formed = q;
          room = m.small;
          used = m.fits;
          long = m.long;
          sound = both_sound slots q;
          slots = slots;
        }

module _ (bs : List ℕ) (e : formed_code bs ≡ 0) where
  pub ruled : WF (decoded bs)
  ruled = rules (decoded bs) (held bs e).sound

  pub whole : Bytes bs → bs ≡ over bs (decoded bs)
  whole b = area_is bs (record { bytes = b; long = (held bs e).long })

-- the area of a well-formed ledger is measured
pub formed_area : (bs : List ℕ) → formed_code bs ≡ 0 → {d : Head} → d ≡ head_of (decoded bs) → Measured bs d
formed_area bs e is = let h = held bs e in measured bs h.short (numbers_first (decoded bs) h.formed) is

-- ---- what is judged

-- a refusal has the area's code
pub refused : (bs : List ℕ) (e : Refusal) → told (Err e) ≡ judged_of bs → code_of e ≡ formed_code bs
unfolding judged_of
refused bs e w = ap (λ (j : Judged). j.code) w
