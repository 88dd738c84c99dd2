-- The listing's length is one of the area, so its part can be lent.
use Rattle.std.proofs.Common.{◌≡◌, ℕ, ◌≤◌, List, length, sym, ◌∙◌, ap, arith, length-take-le, Result}
use Rattle.std.specs.Result.{result_unwrap_or}
use Rattle.rules.specs.declared.refusal.Refusal.{Refusal}
use Rattle.listing_rules.specs.Lent.{Listed, told, answer_to, out_after}
use Rattle.listing_rules.proofs.Demands.{inside}
use Rattle.sheets.proofs.Bytes.{length_told}
use Rattle.sheets.proofs.print_listing.Goals as goal

-- the length that is answered is one of the area as it then is
fits : (r : Result ℕ Refusal) (n steps : ℕ) (bytes out later : List ℕ) → told r ≡ answer_to steps bytes (length out) → later ≡ out_after steps bytes out
    → n ≡ result_unwrap_or r 0 → n ≤ length later
fits r n steps bytes out later e f g =
    let i = inside steps bytes out in
    let h : n ≡ (answer_to steps bytes (length out)).length = g ∙ length_told r ∙ ap (λ (l : Listed). l.length) e in
    rw (h, f) (omega (arith, i.within, i.same))

pub slice_bounds-listing-end : goal.slice_bounds-listing-end
slice_bounds-listing-end g c = let l = c.list.ensures in fits c.list.result _ _ _ _ _ l.value l.out_after c.unwrap_or-length.ensures

pub slice_bounds-listing-end-2 : goal.slice_bounds-listing-end-2
slice_bounds-listing-end-2 g c = let l = c.list.ensures in sym (length-take-le _ _ (fits c.list.result _ _ _ _ _ l.value l.out_after c.unwrap_or-length.ensures))
