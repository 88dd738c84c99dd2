use Rattle.std.proofs.Common.{◌≡◌, arith}
use Rattle.numbers.proofs.Signed.{told}
use Rattle.text.proofs.Stepping.{SaysLine, SaysNumber, at_line, at_number, at_wrong, at_none}
use Rattle.text.proofs.Passing.{read_line, read_number, read_large, read_wrong, read_room, read_none}
use Rattle.text.proofs.read_numbers.Goals as goal

pub returns-in-End : goal.returns-in-End
returns-in-End c =
    let l = c.loop-tally in
    let a = c.args in
    read_none a.text.now a.from a.teams a.kept.now l.spot l.tally l.kept l.invariant c.requires _ (at_none a.text.now _ l.invariant.within _ c.token_at-token.ensures c.in-End.is)

pub loop-tally-smaller-in-LineEnd : goal.loop-tally-smaller-in-LineEnd
loop-tally-smaller-in-LineEnd c =
    let l = c.loop-tally in
    let y : SaysLine c.args.text.now l.spot.place c.token_at-token.result.end = at_line c.args.text.now _ l.invariant.within _ c.token_at-token.ensures c.in-LineEnd.is in
    omega (arith, y.said.further, y.said.within)

pub loop-tally-preserved-in-LineEnd : goal.loop-tally-preserved-in-LineEnd
loop-tally-preserved-in-LineEnd c =
    let l = c.loop-tally in
    let a = c.args in
    read_line a.text.now _ a.from a.teams a.kept.now l.spot l.tally l.kept l.invariant _ (at_line a.text.now _ l.invariant.within _ c.token_at-token.ensures c.in-LineEnd.is)

pub returns-in-Number : goal.returns-in-Number
returns-in-Number c =
    let l = c.loop-tally in
    let a = c.args in
    rw c.refused.ensures
    (read_large a.text.now _ a.from a.teams a.kept.now l.spot l.tally l.kept l.invariant _ _ (at_number a.text.now _ l.invariant.within _ c.token_at-token.ensures _ c.in-Number.is) c.if-value-gt-LARGEST.true)

-- there is a place for the number
pub bounds-kept-tally : goal.bounds-kept-tally
bounds-kept-tally c =
    let l = c.loop-tally in
    let a = c.args in
    read_room a.text.now a.from a.teams a.kept.now l.spot l.tally l.kept l.invariant c.requires _ _ (at_number a.text.now _ l.invariant.within _ c.token_at-token.ensures _ c.in-Number.is)

pub offset_bounds-kept-tally : goal.offset_bounds-kept-tally
offset_bounds-kept-tally c = omega (arith, bounds-kept-tally c, c.loop-tally.invariant.size, c.requires.enough)

pub note-requires : goal.note-requires
note-requires c =
    let l = c.loop-tally in
    let a = c.args in
    let room = read_room a.text.now a.from a.teams a.kept.now l.spot l.tally l.kept l.invariant c.requires _ _ (at_number a.text.now _ l.invariant.within _ c.token_at-token.ensures _ c.in-Number.is) in
    omega (arith, room, l.invariant.size, c.requires.enough)

pub loop-tally-smaller : goal.loop-tally-smaller
loop-tally-smaller c =
    let l = c.loop-tally in
    let y : SaysNumber c.args.text.now l.spot.place c.in-Number.value c.token_at-token.result.end = at_number c.args.text.now _ l.invariant.within _ c.token_at-token.ensures _ c.in-Number.is in
    omega (arith, y.said.further, y.said.within)

pub loop-tally-preserved : goal.loop-tally-preserved
loop-tally-preserved c =
    let l = c.loop-tally in
    let a = c.args in
    let same : c.in-Number-2.value ≡ c.in-Number.value = cc in
    rw
    (told c.to_signed.result c.to_signed.type_inv, c.to_signed.ensures, c.note.ensures, same)
    (read_number a.text.now _ a.from a.teams a.kept.now l.spot l.tally l.kept l.invariant _ _ (at_number a.text.now _ l.invariant.within _ c.token_at-token.ensures _ c.in-Number.is) c.if-value-gt-LARGEST.false)

pub returns-in-Wrong : goal.returns-in-Wrong
returns-in-Wrong c =
    let l = c.loop-tally in
    let a = c.args in
    rw c.refused-in-Wrong.ensures
    (read_wrong a.text.now _ a.from a.teams a.kept.now l.spot l.tally l.kept l.invariant _ (at_wrong a.text.now _ l.invariant.within _ c.token_at-token.ensures c.in-Wrong.is))
