-- A repeated value, at any length.
use mathlib.Core.Path.{◌≡◌, sym}
use Prim.Native.Nat.{ℕ}
use lib.ListN.{length, replicate, length-replicate}

pub repeat_length : (A : Type 0) (a : A) (n : ℕ) → n ≡ length (replicate n a)
repeat_length A a n = sym (length-replicate n a)
