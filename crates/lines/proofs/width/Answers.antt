-- The logarithm says how many digits there are.
use Rattle.std.proofs.Common.{arith}
use Rattle.line_rules.proofs.Decimal.{decimal_length, decimal_one}
use Rattle.lines.proofs.width.Goals as goal

pub returns-in-Some : goal.returns-in-Some
returns-in-Some c =
    let k = c.in-Some.ensures in
    let e = decimal_length c.in-Some.k c.args.n k.power_le k.next_power_gt in
    (omega arith, omega (arith, k.bound))

pub returns-in-None : goal.returns-in-None
returns-in-None c = let e = decimal_one c.args.n (omega (arith, c.in-None.ensures.none)) in (omega arith, omega arith)
