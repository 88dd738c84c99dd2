-- Where the longest numbers have room these have; else they are measured.
use Rattle.std.proofs.Common.{◌+◌, sym, arith, length}
use borrow.Author.Tests.{le-leb}
use Rattle.lines.specs.Fields.{fields}
use Rattle.lines.proofs.Ending.{fields_most}
use Rattle.lines.proofs.fits.Goals as goal

pub returns-then-words-numbers : goal.returns-then-words-numbers
returns-then-words-numbers c =
    let s = c.args in
    let most = fields_most s.numbers.now (λ i. omega (arith, c.type_inv.numbers i)) in
    sym (le-leb (s.at + (s.words + length (fields s.numbers.now))) s.room (omega arith))
