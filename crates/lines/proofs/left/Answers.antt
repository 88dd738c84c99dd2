-- The two words are put, each with its number after it, where there is room.
use Rattle.std.proofs.Common.{◌++◌, [], ◌∷◌}
use Rattle.line_rules.specs.Line.{space, line_end}
use Rattle.line_rules.specs.Words.{left_word, stopped_word}
use Rattle.lines.specs.Fields.{fields}
use Rattle.lines.proofs.Area.{first_room, second_room, both_put}
use Rattle.lines.proofs.Added.{run_room, byte_room, line_put, no_line}
use Rattle.lines.proofs.Ending.{left_is_lem, left_size}
use Rattle.lines.proofs.left.Goals as goal

pub returns-then-not-fits : goal.returns-then-not-fits
returns-then-not-fits c =
    let s = c.args in
    let first = left_word ++ fields (s.count ∷ []) in
    let second = (space ∷ stopped_word) ++ fields (s.stopped ∷ []) in
    let e = no_line (first ++ second) line_end s.area.now s.at (left_is_lem s.count s.stopped) (left_size s.count s.stopped) c.fits.ensures c.if-not-fits.true in
    record { value = e.place; area_after = e.bytes }

pub put_run-next-requires : goal.put_run-next-requires
put_run-next-requires c =
    let s = c.args in
    let first = left_word ++ fields (s.count ∷ []) in
    let second = (space ∷ stopped_word) ++ fields (s.stopped ∷ []) in
    let room = run_room (first ++ second) line_end s.area.now s.at (left_is_lem s.count s.stopped) (left_size s.count s.stopped) c.fits.ensures c.if-not-fits.false in
    first_room s.area.now s.at first second room

pub put_run-next-requires-2 : goal.put_run-next-requires-2
put_run-next-requires-2 c =
    let s = c.args in
    let first = left_word ++ fields (s.count ∷ []) in
    let second = (space ∷ stopped_word) ++ fields (s.stopped ∷ []) in
    let room = run_room (first ++ second) line_end s.area.now s.at (left_is_lem s.count s.stopped) (left_size s.count s.stopped) c.fits.ensures c.if-not-fits.false in
    second_room s.area.now s.at first second room c.put_run-next.ensures

pub put_byte-requires : goal.put_byte-requires
put_byte-requires c =
    let s = c.args in
    let first = left_word ++ fields (s.count ∷ []) in
    let second = (space ∷ stopped_word) ++ fields (s.stopped ∷ []) in
    let room = run_room (first ++ second) line_end s.area.now s.at (left_is_lem s.count s.stopped) (left_size s.count s.stopped) c.fits.ensures c.if-not-fits.false in
    let both = both_put s.area.now s.at first second room c.put_run-next.ensures c.put_run-next-2.ensures in
    byte_room (first ++ second) line_end s.area.now s.at (left_is_lem s.count s.stopped) (left_size s.count s.stopped) c.fits.ensures c.if-not-fits.false both

pub returns : goal.returns
returns c =
    let s = c.args in
    let first = left_word ++ fields (s.count ∷ []) in
    let second = (space ∷ stopped_word) ++ fields (s.stopped ∷ []) in
    let room = run_room (first ++ second) line_end s.area.now s.at (left_is_lem s.count s.stopped) (left_size s.count s.stopped) c.fits.ensures c.if-not-fits.false in
    let both = both_put s.area.now s.at first second room c.put_run-next.ensures c.put_run-next-2.ensures in
    let e = line_put (first ++ second) line_end s.area.now s.at (left_is_lem s.count s.stopped) (left_size s.count s.stopped) c.fits.ensures c.if-not-fits.false both c.put_byte.ensures in
    record { value = e.place; area_after = e.bytes }
