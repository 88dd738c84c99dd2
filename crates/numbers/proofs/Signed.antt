-- A signed local holds bits: reading z back is `to_z w32 (of_z w32 z)`, which is z where z fits.
use mathlib.Core.Path.{◌≡◌}
use Prim.Native.Nat.{◌<◌, ◌^◌}
use lib.IntN.{ℤ}
use lib.Signed.{mag}
use mir.Syntax.{w32}
use mir.Val.{SFits, to_z, of_z, hbits}
use mir.Facts.{to_z-of_z}

pub held : (z : ℤ) → SFits w32 z → to_z w32 (of_z w32 z) ≡ z
held z f = to_z-of_z f

-- a signed field of a struct, by what the struct's rule tells of it
pub told : (z : ℤ) → mag z < 2 ^ hbits w32 → to_z w32 (of_z w32 z) ≡ z
told z h = to_z-of_z {w = w32} (record { sfits = h })
