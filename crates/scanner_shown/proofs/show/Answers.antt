use Rattle.std.proofs.Common.{◌≡◌, ◌<◌, length, refl, ap, arith}
use Rattle.text_rules.specs.Tokens.{token_at}
use Rattle.text_rules.proofs.Marks.{moves}
use Rattle.scanner_shown.proofs.show.Goals as goal

pub loop-scanner-smaller : goal.loop-scanner-smaller
loop-scanner-smaller g c =
    let s = c.loop-scanner.scanner in
    let same : length s.text.now ≡ length c.args.text.now = ap length c.loop-scanner.invariant in
    let before : s.place < length s.text.now = omega (arith, same, c.loop-scanner-test.true) in
    let m = moves s.text.now s.place before (token_at s.text.now s.place) refl in
    rw c.next-token.ensures.1 (omega (arith, same, m.further, m.within))
