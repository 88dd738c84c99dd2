-- What the code on a node needs of the definitions, over plain variables.
use mathlib.Core.Path.{◌≡◌, sym, ap, ◌∙◌}
use mathlib.Core.Bool.{Bool, true, false, cond}
use Prim.Native.Nat.{ℕ, ◌≤◌, ◌<◌, ◌^◌}
use native.Mathlib.Omega.{arith}
use lib.IntN.{ℤ, pos, negsuc}
use lib.Signed.{mag}
use mir.Syntax.{w32}
use mir.Val.{hbits, to_z, of_z}
use Rattle.numbers.specs.Fields.{nat_of}
use Rattle.numbers.specs.Progress.{position}
use Rattle.numbers.proofs.Signed.{told}

-- a signed field that was tested
pub natural_small : (z : ℤ) → mag z < 2 ^ hbits w32 → nat_of z ≤ 2147483647
natural_small (pos n) h = omega arith
natural_small (negsuc n) h = omega arith

pub position_small : (z : ℤ) → mag z < 2 ^ hbits w32 → position z ≤ 2147483647
position_small (pos n) h = omega arith
position_small (negsuc n) h = omega arith

-- a signed field as it was read, and then converted
pub natural_held : (z : ℤ) (k : ℕ) → mag z < 2 ^ hbits w32 → k ≡ nat_of (to_z w32 (of_z w32 z)) → nat_of z ≡ k
natural_held z k h e = sym (e ∙ ap nat_of (told z h))

-- a choice that was made
pub chosen : {A : Type 0} (b : Bool) (x y z : A) → b ≡ true → z ≡ x → z ≡ cond b x y
chosen b x y z e h = rw e h

pub passed_by : {A : Type 0} (b : Bool) (x y z : A) → b ≡ false → z ≡ y → z ≡ cond b x y
passed_by b x y z e h = rw e h
