use Rattle.std.proofs.Common.{◌<◌, length, refl, sym, ◌∙◌, rules, arith, get_or, length-set, take_all, pos, SFits, w32}
use Rattle.std.proofs.lemmas.List.{length-replicate}
use Rattle.numbers.proofs.Signed.{held}
use Rattle.lines.proofs.Ending.{none_more, one_negative, natural_more}
use Rattle.lines.proofs.natural.Goals as goal

pub returns-then-is_negative : goal.returns-then-is_negative
returns-then-is_negative N c =
    let zs = c.args.numbers.now in
    let i = c.loop-i.i in
    let f : SFits w32 (get_or zs i (pos 0)) = search rules in
    let here = sym (rw (held _ f) at c.is_negative.ensures) ∙ c.if-is_negative.true in
    (one_negative zs i (pos 0) (omega (arith, c.told-numbers)) c.loop-i.invariant.0 here, refl)

pub loop-i-init : goal.loop-i-init
loop-i-init N c = (refl, rw length-replicate (sym c.told-numbers), refl)

pub loop-i-preserved : goal.loop-i-preserved
loop-i-preserved N c =
    let zs = c.args.numbers.now in
    let i = c.loop-i.i in
    let more : i < length zs = omega (arith, c.told-numbers) in
    let f : SFits w32 (get_or zs i (pos 0)) = search rules in
    let here = sym (rw (held _ f) at c.is_negative.ensures) ∙ c.if-is_negative.false in
    let v = c.from.ensures ∙ rw (held _ f) at c.natural.ensures in (
      none_more zs i (pos 0) more c.loop-i.invariant.0 here,
      length-set c.loop-i.natural _ _ ∙ c.loop-i.invariant.1,
      rw v (natural_more zs c.loop-i.natural i (pos 0) more c.loop-i.invariant.1 c.loop-i.invariant.2),
    )

pub returns : goal.returns
returns N c =
    let zs = c.args.numbers.now in
    let all = take_all c.loop-i.i zs (omega (arith, c.told-numbers)) in
    let stand = take_all c.loop-i.i c.loop-i.natural (omega (arith, c.told-numbers)) in
    (rw all at c.loop-i.invariant.0, sym stand ∙ rw all at c.loop-i.invariant.2)
