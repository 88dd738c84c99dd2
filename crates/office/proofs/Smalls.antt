-- Codes are small: each fits a signed number, and so is told to C as it is.
use mathlib.Core.Path.{◌≡◌, refl}
use mathlib.Core.Bool.{Bool, true, false, cond, ◌&&◌}
use mathlib.Core.List.{List, [], ◌∷◌}
use Prim.Native.Nat.{ℕ, ◌≤◌}
use native.Mathlib.Omega.{arith}
use lib.Dec.{leb, eqb}
use lib.IntN.{pos}
use borrow.Author.Tests.{leb-true}
use mir.Syntax.{w32}
use mir.Val.{to_z}
use mir.Facts.{to_z_pos}
use Rattle.std.proofs.Common.{◌≢◌}
use Rattle.numbers.specs.Fields.{nat_of}
use Rattle.numbers.specs.Progress.{signed}
use Rattle.numbers.proofs.Laws.{signed_is}
use Rattle.rules.specs.declared.Outcome.{Outcome}
use Rattle.rules.specs.declared.Request.{Request}
use Rattle.rules.specs.declared.refusal.Refusal.{Refusal}
use Rattle.rules.specs.Refused as refused
use Rattle.rules.specs.declared.View.{View}
use Rattle.rules.specs.declared.Change.TheVariants.{Keep}
use Rattle.rules.specs.Asks.{by_kind}
use Rattle.rules.specs.Refusals.{all_tests, own_tests, advance_tests, mark_tests, expand_tests, report_tests, push_tests, own_code, advance_code, mark_code, expand_code, report_code, push_code, kind_code, refusal}
use Rattle.rules.specs.Requests.{outcome, refusing, owning, advancing, marking, expanding, looking, reporting, pushing, granted, decided}
use Rattle.rules.specs.Tests.{Test, first}
use Rattle.rules.specs.WellFormed.{well_formed}
use Rattle.rules.proofs.Facts.{both}
use Rattle.layout.specs.Areas.{decoded, too_short}
use Rattle.office_forms.specs.Codes.{formed_code}

-- the largest code that a request is refused with
abbrev most : ℕ
most = 37

few : (b : Bool) (m n : ℕ) → m ≤ most → n ≤ most → cond b m n ≤ most
few true m n p q = p
few false m n p q = q

-- each code of a list of tests, computed
abbrev smalls : List Test → Bool
smalls [] = true
smalls (t ∷ ts) = leb t.code most && smalls ts

small_first : (ts : List Test) (after : ℕ) → smalls ts ≡ true → after ≤ most → first ts after ≤ most
small_first [] after s h = h
small_first (t ∷ ts) after s h =
    let b = (both (leb t.code most) (smalls ts)).0 s in
    few t.holds t.code (first ts after) (leb-true t.code most b.0) (small_first ts after b.1 h)

-- one case for each kind
by_kind_lem : {A : Type 0} (P : A → Type 0) (k : ℕ) (a b c d e f g : A) → P a → P b → P c → P d → P e → P f → P g → P (by_kind k a b c d e f g)
by_kind_lem P k a b c d e f g pa pb pc pd pe pf pg = go (eqb k 1) (eqb k 2) (eqb k 3) (eqb k 4) (eqb k 5) (eqb k 6)
  where
    go : (s t u v w x : Bool) → P (cond s a (cond t b (cond u c (cond v d (cond w e (cond x f g))))))
    go true t u v w x = pa
    go false true u v w x = pb
    go false false true v w x = pc
    go false false false true w x = pd
    go false false false false true x = pe
    go false false false false false true = pf
    go false false false false false false = pg

module _ (v : View) (r : Request) where
  small_kind : kind_code v r ≤ most
  unfolding kind_code own_code advance_code mark_code expand_code report_code push_code
  small_kind =
      let z : 0 ≤ most = omega arith in
      by_kind_lem
      (λ (n : ℕ). n ≤ most)
      (nat_of r.kind)
      _
      _
      _
      _
      _
      _
      _
      (small_first (own_tests v.node) 0 refl z)
      (small_first (advance_tests v.node r) 0 refl z)
      (small_first (mark_tests v r) 0 refl z)
      (small_first (expand_tests v.node) 0 refl z)
      z
      (small_first (report_tests v.node r) 0 refl z)
      (small_first (push_tests v) 0 refl z)

  small_refusal : refusal v r ≤ most
  unfolding refusal
  small_refusal = small_first (all_tests v r) (kind_code v r) refl small_kind

  granted_zero : (granted v r).answer.code ≡ 0
  unfolding granted owning advancing marking expanding looking reporting pushing
  granted_zero = by_kind_lem (λ (o : Outcome). o.answer.code ≡ 0) (nat_of r.kind) _ _ _ _ _ _ _ refl refl refl refl refl refl refl

  pub small_code : (decided v r).answer.code ≤ most
  unfolding decided
  small_code = go (eqb (refusal v r) 0)
    where
      go : (b : Bool) → (cond b (granted v r) (outcome (refusing v (refusal v r)) Keep)).answer.code ≤ most
      go true = omega (arith, granted_zero)
      go false = small_refusal

pub as_number : (n : ℕ) → n ≤ 37 → signed n ≡ pos n
as_number n h = signed_is n (omega arith)

-- what an area is refused with
pub data Formed (bs : List ℕ) : Type 0 where
  passes : formed_code bs ≡ 0 → well_formed (decoded bs) ≡ true → too_short bs ≡ false → Formed bs
  broken : formed_code bs ≡ 1 → well_formed (decoded bs) ≡ false → too_short bs ≡ false → Formed bs
  short : formed_code bs ≡ 37 → too_short bs ≡ true → Formed bs

pub formed : (bs : List ℕ) → Formed bs
unfolding formed_code
formed bs = go (too_short bs) (well_formed (decoded bs)) refl refl
  where
    go : (s w : Bool) → too_short bs ≡ s → well_formed (decoded bs) ≡ w → Formed bs
    go true w p q = short (rw p) p
    go false true p q = passes (rw (p, q)) q p
    go false false p q = broken (rw (p, q)) q p

-- no refusal's code is 0
pub some_code : (e : Refusal) → refused.code_of e ≢ 0
some_code e = grind arith

-- a small code as a signed number
pub as_signed : {n k : ℕ} → n ≡ k → k ≤ 37 → to_z w32 n ≡ pos k
as_signed {n} {k} e h = rw e (to_z_pos w32 {n = k} (omega arith))
