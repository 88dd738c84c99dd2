-- Laws of the line writer's answer and of the area after it: each call ends in one of three ways.
use mathlib.Core.Path.{◌≡◌, refl}
use mathlib.Core.Bool.{Bool, true, false}
use mathlib.Core.List.{List}
use Prim.Native.Nat.{ℕ, ◌≤◌, ◌<◌}
use native.Mathlib.Omega.{arith}
use borrow.Author.Tests.{lt-ltb, le-ltb, ltb-true, ltb-false, ne_eqb}
use lib.Dec.{ltb}
use lib.ListN.{length, drop}
use lib.Seq.{drop-append_seam}
use Rattle.line_rules.specs.Line.{Part, word_of, parts_of, whole, any_negative}
use Rattle.line_rules.specs.Written.{Written, refusal, refused, granted, answer_to, at_start, area_after}
use Rattle.line_rules.specs.Demands.{NegativeFirst, ShortSecond, BytesAfterStay}

module _ (w : List ℕ) (ps : List Part) (room : ℕ) where
  negative-code : any_negative ps ≡ true → refusal w ps room ≡ 25
  unfolding refusal
  negative-code e = rw e

  short_code : any_negative ps ≡ false → room < length (whole w ps) → refusal w ps room ≡ 28
  unfolding refusal
  short_code e h = rw (e, lt-ltb room (length (whole w ps)) h)

  no_code : any_negative ps ≡ false → length (whole w ps) ≤ room → refusal w ps room ≡ 0
  unfolding refusal
  no_code e h = rw (e, le-ltb room (length (whole w ps)) h)

module _ (w : List ℕ) (ps : List Part) (area : List ℕ) where
  -- the answer and the area that an equation each of specs/Written.antt names
  pub record Ends (r : Written) (later : List ℕ) : Type 0 where
    pub answered : r ≡ answer_to w ps (length area)
    pub left : later ≡ area_after w ps area

  refuses : (code : ℕ) → 0 < code → refusal w ps (length area) ≡ code → Ends (refused code) area
  unfolding answer_to area_after
  refuses code some e =
      let n = ne_eqb code 0 (λ z. omega arith) in
      record { answered = rw (e, n); left = rw (e, n) }

  pub ends_negative : any_negative ps ≡ true → Ends (refused 25) area
  ends_negative e = refuses 25 (omega arith) (negative-code w ps (length area) e)

  pub ends_short : any_negative ps ≡ false → length area < length (whole w ps) → Ends (refused 28) area
  ends_short e h = refuses 28 (omega arith) (short_code w ps (length area) e h)

  pub ends_written : any_negative ps ≡ false → length (whole w ps) ≤ length area
      → Ends (granted (length (whole w ps))) (at_start (whole w ps) area)
  unfolding answer_to area_after
  ends_written e h = let n = no_code w ps (length area) e h in record { answered = rw n; left = rw n }

  -- what holds of those three ways holds of the answer
  pub by_ways : (P : Written → List ℕ → Type 0)
      → ((code : ℕ) → P (refused code) area)
      → (length (whole w ps) ≤ length area → P (granted (length (whole w ps))) (at_start (whole w ps) area))
      → P (answer_to w ps (length area)) (area_after w ps area)
  by_ways P bad good = go (any_negative ps) (ltb (length area) (length (whole w ps))) refl refl
    where
      told : {r : Written} {later : List ℕ} → Ends r later → P r later → P (answer_to w ps (length area)) (area_after w ps area)
      told e p = rw (e.answered, e.left) at p

      go : (a b : Bool) → any_negative ps ≡ a → ltb (length area) (length (whole w ps)) ≡ b → P (answer_to w ps (length area)) (area_after w ps area)
      go true b e f = told (ends_negative e) (bad 25)
      go false true e f = told (ends_short e (ltb-true _ _ f)) (bad 28)
      go false false e f = let h = ltb-false (length area) (length (whole w ps)) f in told (ends_written e h) (good h)

  after_stays : drop (answer_to w ps (length area)).length (area_after w ps area) ≡ drop (answer_to w ps (length area)).length area
  after_stays =
      by_ways
      (λ r later. drop r.length later ≡ drop r.length area)
      (λ code. refl)
      (λ h. drop-append_seam (whole w ps) (drop (length (whole w ps)) area))

-- ---- what document 01 says of it

pub negative-first : NegativeFirst
unfolding answer_to
negative-first l room e = rw (negative-code (word_of l) (parts_of l) room e)

pub short_second : ShortSecond
unfolding answer_to
short_second l room e h = rw (short_code (word_of l) (parts_of l) room e h)

pub bytes_after_stay : BytesAfterStay
bytes_after_stay l area = after_stays (word_of l) (parts_of l) area
