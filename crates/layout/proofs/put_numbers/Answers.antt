-- Nothing is written at first; each time round one number more.
use Rattle.std.proofs.Common.{arith, refl, ap, ◌∙◌, ◌+◌, ◌*◌, length, get_or}
use Rattle.layout.specs.Numbers.{four}
use Rattle.layout.proofs.Words.{four_length}
use Rattle.layout.proofs.Writing.{written_length}
use Rattle.layout.proofs.Fours.{fours_none, fours_more}
use Rattle.layout.proofs.put_numbers.Goals as goal

pub loop-i-init : goal.loop-i-init
loop-i-init c = record { is = fours_none c.args.bytes.now c.args.at; size = refl }

pub loop-i-preserved : goal.loop-i-preserved
loop-i-preserved c =
    let a = c.args in
    let loop = c.loop-i in
    let n = four (get_or a.ns.now loop.i 0) in
    record {
      is = fours_more a.bytes.now a.at loop.i a.ns.now (omega arith) refl c.requires loop.invariant.is c.put_number.ensures;
      size =
          ap length c.put_number.ensures
          ∙ (written_length loop.bytes (a.at + 4 * loop.i) n (omega (arith, four_length (get_or a.ns.now loop.i 0))) ∙ loop.invariant.size);
    }
