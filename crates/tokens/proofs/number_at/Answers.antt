-- What the run is read as is its number, and past the text there is none.
use Rattle.std.proofs.Common.{◌≡◌, ◌∙◌, ◌<◌, ◌⊎◌, ℕ, length, drop, refl, inl, inr, arith}
use Rattle.tokens.proofs.Says.{rest_is}
use Rattle.tokens.proofs.Values.{run_number, no_number}
use Rattle.tokens.proofs.number_at.Goals as goal

pub returns-in_default : goal.returns-in_default
returns-in_default c =
    let past : length c.args.text.now < c.args.from = by c.in_default.ensures.lookup.0 in
    no_number c.args.text.now c.args.from past
  where
    by : {a b : ℕ} → (a < b) ⊎ (a < a) → a < b
    by (inl past) = past
    by (inr never) = omega (arith, never)

pub returns : goal.returns
returns c =
    let text = c.args.text.now in
    let from = c.args.from in
    let here : c.in-Some.rest.now ≡ drop from text = c.in-Some.ensures.lookup.0.2 ∙ rest_is text from in
    run_number text from c.run-count.result _ _ (rw here at c.run-count.ensures) c.read_as.ensures refl
