-- The bytes stand in the part that they were copied to.
use Rattle.std.proofs.Common.{◌≡◌, ◌+◌, ◌-◌, length, refl, arith, append_assoc, drop-drop}
use Rattle.lines.specs.Area.{over}
use Rattle.lines.proofs.put.Goals as goal

pub returns : goal.returns
unfolding over
returns c =
    let a = c.args in
    let k : a.at + length a.bytes.now - a.at ≡ length a.bytes.now = omega arith in
    record { place = refl; bytes = rw (c.copy_from_slice.ensures.after, k, append_assoc, drop-drop) }
