-- The word is put and what comes after it, where there is room.
use Rattle.std.proofs.Common.{◌++◌}
use Rattle.line_rules.specs.Line.{line_end}
use Rattle.lines.specs.Fields.{fields}
use Rattle.lines.proofs.Added.{run_room, byte_room, line_put, no_line}
use Rattle.lines.proofs.Ending.{line_is, line_size}
use Rattle.lines.proofs.add.Goals as goal

pub returns-then-not-fits : goal.returns-then-not-fits
returns-then-not-fits c =
    let s = c.args in
    let w = s.word.now in
    let ns = s.numbers.now in
    let e = no_line (w ++ fields ns) line_end s.area.now s.at (line_is w ns) (line_size w ns) c.fits.ensures c.if-not-fits.true in
    record { value = e.place; area_after = e.bytes }

pub put_run-next-requires : goal.put_run-next-requires
put_run-next-requires c =
    let s = c.args in
    let w = s.word.now in
    let ns = s.numbers.now in
    run_room (w ++ fields ns) line_end s.area.now s.at (line_is w ns) (line_size w ns) c.fits.ensures c.if-not-fits.false

pub put_byte-requires : goal.put_byte-requires
put_byte-requires c =
    let s = c.args in
    let w = s.word.now in
    let ns = s.numbers.now in
    byte_room (w ++ fields ns) line_end s.area.now s.at (line_is w ns) (line_size w ns) c.fits.ensures c.if-not-fits.false c.put_run-next.ensures

pub returns : goal.returns
returns c =
    let s = c.args in
    let w = s.word.now in
    let ns = s.numbers.now in
    let e = line_put (w ++ fields ns) line_end s.area.now s.at (line_is w ns) (line_size w ns) c.fits.ensures c.if-not-fits.false c.put_run-next.ensures c.put_byte.ensures in
    record { value = e.place; area_after = e.bytes }
