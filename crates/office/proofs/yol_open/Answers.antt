-- The ways out of an opening.
use Rattle.std.proofs.Common.{arith, ◌++◌, drop, sym, ap, ◌∙◌}
use mir.Facts.{to_z-of_z}
use lib.IntN.{pos}
use Rattle.numbers.specs.Fields.{nat_of}
use Rattle.rules.specs.declared.Opening.{Opening}
use Rattle.rules.specs.Limits.{opens}
use Rattle.rules.specs.Opening.{ledger_of}
use Rattle.layout.specs.Sizes.{area_size}
use Rattle.layout.specs.Areas.{encoded}
use Rattle.office.specs.Calls.{opening_of}
use Rattle.office.proofs.Smalls.{as_signed}
use Rattle.office.proofs.Opening.{bad_code, few_code, good_code, kept_area, good_area, opening_held}
use Rattle.office.proofs.yol_open.Goals as goal

-- ---- numbers outside the limits

pub returns-then-not-is_good : goal.returns-then-not-is_good
returns-then-not-is_good c =
    let a = c.args in
    let f = c.ranges in
    let o = opening_of a.start a.until a.teams a.cap a.nodes in
    let same = opening_held a.start a.until a.teams a.cap a.nodes f.start f.until f.teams f.cap f.nodes in
    let code = bad_code a.ledger.now o (sym (c.if-not-is_good.ensures ∙ ap opens same)) in
    record {
      code = as_signed c.code.ensures (omega arith) ∙ ap pos (sym code);
      area = sym (kept_area a.ledger.now o 20 code (λ z. omega arith));
    }

-- ---- an area that is too short

pub returns-then-ledger-natural : goal.returns-then-ledger-natural
returns-then-ledger-natural c =
    let a = c.args in
    let f = c.ranges in
    let o = opening_of a.start a.until a.teams a.cap a.nodes in
    let same = opening_held a.start a.until a.teams a.cap a.nodes f.start f.until f.teams f.cap f.nodes in
    let room = c.natural.ensures ∙ ap nat_of (to_z-of_z f.nodes) in
    let code = few_code a.ledger.now o (sym (c.if-not-is_good.ensures ∙ ap opens same)) (rw room at c.if-ledger-natural.true) in
    record {
      code = as_signed c.code-then-ledger-natural.ensures (omega arith) ∙ ap pos (sym code);
      area = sym (kept_area a.ledger.now o 37 code (λ z. omega arith));
    }

-- ---- an opening that is granted

pub put_new-requires : goal.put_new-requires
put_new-requires c = (sym c.if-not-is_good.ensures, rw c.natural.ensures at c.if-ledger-natural.false)

pub returns : goal.returns
returns c =
    let a = c.args in
    let f = c.ranges in
    let o = opening_of a.start a.until a.teams a.cap a.nodes in
    let same = opening_held a.start a.until a.teams a.cap a.nodes f.start f.until f.teams f.cap f.nodes in
    let room = c.natural.ensures ∙ ap nat_of (to_z-of_z f.nodes) in
    let code = good_code a.ledger.now o (sym (c.if-not-is_good.ensures ∙ ap opens same)) (rw room at c.if-ledger-natural.false) in
    let opened = ap (λ (p : Opening). encoded (ledger_of p) ++ drop (area_size (nat_of p.nodes)) a.ledger.now) same in
    record { code = ap pos (sym code); area = c.put_new.ensures ∙ (opened ∙ good_area a.ledger.now o code) }
