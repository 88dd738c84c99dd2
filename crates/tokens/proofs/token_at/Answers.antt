-- The byte that is found makes the token: by itself, or with the run of digits that it begins.
use Rattle.std.proofs.Common.{sym, ◌∙◌, length}
use native.Mathlib.Omega.{arith}
use borrow.Author.Tests.{ne_eqb}
use Rattle.tokens.proofs.Finding.{found, found_none}
use Rattle.tokens.proofs.Skipping.{token_none, token_number, token_line, token_wrong}
use Rattle.tokens.proofs.token_at.Goals as goal

pub returns-in_default : goal.returns-in_default
returns-in_default c =
    let text = c.args.text.now in
    token_none text _ (length text) (found_none text c.args.place (sym c.skipped.ensures ∙ c.in_default.is)) (omega arith)

pub returns-then-b-eq10 : goal.returns-then-b-eq10
returns-then-b-eq10 c =
    let byte = found c.args.text.now c.args.place _ (sym c.skipped.ensures ∙ c.in-Some.is) in
    token_line c.args.text.now _ c.in-Some.at byte.skips byte.there (byte.is ∙ c.if-b-eq10.true)

pub returns-then-is_ascii_digit : goal.returns-then-is_ascii_digit
returns-then-is_ascii_digit c =
    let byte = found c.args.text.now c.args.place _ (sym c.skipped.ensures ∙ c.in-Some.is) in
    c.number_token.ensures ∙ token_number c.args.text.now _ c.in-Some.at byte.skips byte.there (rw byte.is (sym c.if-is_ascii_digit.ensures.value))

pub returns : goal.returns
returns c =
    let byte = found c.args.text.now c.args.place _ (sym c.skipped.ensures ∙ c.in-Some.is) in
    token_wrong c.args.text.now _ c.in-Some.at byte.skips byte.there (rw byte.is (sym c.if-is_ascii_digit.ensures.value)) (rw byte.is (ne_eqb _ 10 c.if-b-eq10.false))
