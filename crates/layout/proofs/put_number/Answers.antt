-- The four bytes were copied to their place.
use Rattle.std.proofs.Common.{arith, ◌∙◌}
use Rattle.layout.proofs.Words.{four_length, to_four}
use Rattle.layout.proofs.Writing.{copied}
use Rattle.layout.proofs.put_number.Goals as goal

pub returns : goal.returns
returns c =
    let new = c.copy_from_slice.ensures.after ∙ (c.to_le_bytes.ensures ∙ to_four c.args.n) in
    rw (← new) (copied c.args.bytes.now c.copy_from_slice.new.self c.args.at _ (rw new (omega (arith, four_length c.args.n))))
