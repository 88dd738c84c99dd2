-- What a granted text tells: each test was passed.
use mathlib.Core.Path.{◌≡◌, refl, sym, ◌∙◌}
use mathlib.Core.Bool.{Bool, true, false, cond, not, true≢false, false≢true}
use mathlib.Core.List.{List}
use Prim.Native.Nat.{ℕ, ◌≤◌}
use native.Mathlib.Omega.{arith}
use lib.Dec.{eqb, leb, ltb}
use lib.ListN.{length, get_or-eq_default}
use borrow.Author.Tests.{le-ltb, leb-true, leb-false, ltb-false, eq-eqb, ne_eqb, eqb-true}
use Rattle.rules.specs.Limits.{opens, max_program}
use Rattle.rules.proofs.Facts.{both, either}
use Rattle.text_rules.specs.Marks.{Mark}
use Rattle.text_rules.specs.Judgement.{Verdict, max_bytes, header_least, header_most, is_header, granted, is_granted, given, fault_from, opening_of, program_in, is_program, program_good, head_good, head_of, head_verdict, header_verdict, schedule_numbers, stranger_line, body_verdict, schedule_verdict}

-- a test that is passed
pub passed : (b : Bool) (v rest : Verdict) → is_granted v ≡ false → is_granted (given b v rest) ≡ true → (b ≡ false) × (is_granted rest ≡ true)
unfolding given
passed true v rest n g = absurd (false≢true (sym n ∙ g))
passed false v rest n g = (refl, g)

-- a judgement that grants goes on to the next
pub granted_first : (b : Bool) (v rest : Verdict) → is_granted v ≡ b → is_granted (given (not b) v rest) ≡ true → (b ≡ true) × (is_granted rest ≡ true)
unfolding given
granted_first true v rest e g = (refl, g)
granted_first false v rest e g = absurd (false≢true (sym e ∙ g))

not-not : (b : Bool) → not b ≡ false → b ≡ true
not-not true e = refl
not-not false e = absurd (true≢false e)

-- what a granted header tells
pub record HeaderGranted (n : ℕ) (ms : List Mark) : Type 0 where
  pub short : ltb max_bytes n ≡ false
  pub faultless : is_granted (fault_from 1 ms) ≡ true
  pub count : is_header (length (head_of ms)) ≡ true
  pub opening : opens (opening_of (head_of ms)) ≡ true
  pub program : program_good (length (head_of ms)) (program_in (head_of ms)) ≡ true

pub header_granted : (n : ℕ) (ms : List Mark) → is_granted (header_verdict n ms) ≡ true → HeaderGranted n ms
unfolding header_verdict head_verdict
header_granted n ms g =
    let first = passed _ _ _ refl g in
    let second = granted_first _ (fault_from 1 ms) _ refl first.1 in
    let third = passed _ _ _ refl second.1 in
    let fourth = passed _ _ _ refl third.1 in
    let ns = head_of ms in
    let good = (both (opens (opening_of ns)) (program_good (length ns) (program_in ns))).0 (not-not (head_good ns) fourth.0) in
    record {
      short = first.0;
      faultless = second.0;
      count = not-not (is_header (length ns)) third.0;
      opening = good.0;
      program = good.1;
    }

-- five numbers have no program, and six name one within the limit
pub record Named (ns : List ℕ) : Type 0 where
  pub most : program_in ns ≤ max_program
  pub counted : length ns ≡ cond (eqb (program_in ns) 0) header_least header_most

pub named : (ns : List ℕ) → is_header (length ns) ≡ true → program_good (length ns) (program_in ns) ≡ true → Named ns
named ns h g = go (leb (length ns) header_least) refl
  where
    count : (leb header_least (length ns) ≡ true) × (leb (length ns) header_most ≡ true)
    count = (both (leb header_least (length ns)) (leb (length ns) header_most)).0 h

    go : (b : Bool) → leb (length ns) header_least ≡ b → Named ns
    go true e =
        let few = leb-true (length ns) header_least e in
        let none : program_in ns ≡ 0 = get_or-eq_default ns 0 few in
        let five : length ns ≡ header_least = omega (arith, few, leb-true header_least (length ns) count.0) in
        record { most = omega (arith, none); counted = rw none five }
    go false e =
        let some = (either (leb (length ns) header_least) (is_program (program_in ns))).0 g e in
        let one = (both (leb 1 (program_in ns)) (leb (program_in ns) max_program)).0 some in
        let least = leb-true 1 (program_in ns) one.0 in
        let six : length ns ≡ header_most = omega (arith, leb-false (length ns) header_least e, leb-true (length ns) header_most count.1) in
        record {
          most = leb-true (program_in ns) max_program one.1;
          counted = rw (ne_eqb (program_in ns) 0 (λ z. omega (arith, z, least))) six;
        }

-- what a granted schedule tells
pub record Granted (room n : ℕ) (ms : List Mark) : Type 0 where
  pub header : is_granted (header_verdict n ms) ≡ true
  pub teams : stranger_line ms ≡ 0
  pub fits : length (schedule_numbers ms) ≤ room

body_granted : (room : ℕ) (ms : List Mark) → is_granted (body_verdict room ms) ≡ true → (stranger_line ms ≡ 0) × (length (schedule_numbers ms) ≤ room)
unfolding body_verdict
body_granted room ms g =
    let first = passed _ _ _ refl g in
    let second = passed _ _ _ refl first.1 in
    (eqb-true (stranger_line ms) 0 (not-not (eqb (stranger_line ms) 0) first.0), ltb-false room (length (schedule_numbers ms)) second.0)

pub schedule_granted : (room n : ℕ) (ms : List Mark) → is_granted (schedule_verdict room n ms) ≡ true → Granted room n ms
unfolding schedule_verdict
schedule_granted room n ms g =
    let first = granted_first (is_granted (header_verdict n ms)) (header_verdict n ms) (body_verdict room ms) refl g in
    let second = body_granted room ms first.1 in
    record { header = first.0; teams = second.0; fits = second.1 }

pub granted_is : (room n : ℕ) (ms : List Mark) → Granted room n ms → schedule_verdict room n ms ≡ granted
unfolding schedule_verdict body_verdict given
granted_is room n ms g = rw (g.header, eq-eqb (stranger_line ms) 0 g.teams, le-ltb room (length (schedule_numbers ms)) g.fits)
