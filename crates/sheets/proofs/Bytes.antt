-- What is read and written in turns, and what stands at the front of an area.
use Rattle.std.proofs.Common.{◌≡◌, Result, OnOk, ◌⊎◌, inl, inr, take_at, ◌*◌, ℕ, ◌+◌, ◌-◌, ◌≤◌, ◌<◌, List, [], ◌++◌, None, Some, IfSome, length, take, refl, sym, ap, ◌∙◌, subst, arith, append-nil, take_all, length-take-le}
use Rattle.std.proofs.Math.Nat.{eq-or-lt_of_le}
use lib.Seq.{take-append-add, take-append_seam}
use Rattle.std.specs.Prelude.{Option}
use Rattle.std.specs.Io.KnownBytes.{Keeps, Appends, Consumes, IsAtEnd}
use Rattle.std.proofs.KnownBytes.{Consumes-trans, Consumes-kept}
use borrow.Rule.Slice.PartMut.{put_mid}
use Rattle.std.proofs.lemmas.Slice.{take-put_mid_below}
use Rattle.std.proofs.lemmas.List.{take-append-le}
use Rattle.std.proofs.Common.{length-append, length-drop}
use Rattle.text_rules.specs.Demands.{schedule_room}
use Rattle.rules.specs.declared.refusal.Refusal.{Refusal}
use Rattle.std.specs.Prelude.{Ok, Err, IfOk, MatchResult}
use Rattle.std.specs.Result.{result_unwrap_or, is_ok}
use mathlib.Core.Bool.{true≢false}
use Rattle.listing_rules.specs.Lent.{Listed, told, answer_to, out_after}
use Rattle.listing_rules.specs.Listing.{listing_of}
use Rattle.listing_rules.specs.Demands.{StandsIn, listing_room, short_schedule_room, short_listing_room}
use Rattle.sheets.specs.Rooms.{Enough}
use Rattle.listing_rules.proofs.Demands.{prints_the_listing, prints_the_same}

-- ---- an area into whose part from d on a read put `buf`

module _ (d k : ℕ) (area buf : List ℕ) (front : d ≤ length area) (rest : k ≡ length area - d) (same : length buf ≡ k) where
  abbrev now : List ℕ
  now = put_mid d k area buf

  part_length : length now ≡ length area
  part_length = simp (length-append, length-drop) (omega (arith, length-take-le d area front))

  -- n bytes were read
  more : (n : ℕ) → n ≤ length buf → take d area ++ take n buf ≡ take (d + n) now
  more n less =
      let joined : take (length (take d area) + n) now ≡ take d area ++ take n buf =
      take-append-add (take d area) _ n ∙ ap (λ l. take d area ++ l) (take-append-le n buf _ less) in
      sym (subst (λ m. take (m + n) now ≡ take d area ++ take n buf) (length-take-le d area front) joined)

  module _ (a b c : Option (List ℕ)) (so_far : Consumes a b (take d area)) (done : ℕ) where
    pub goes_on : (n : ℕ) → done ≡ d + n → n ≤ length buf → Consumes b c (take n buf) → (done ≤ length now) × Consumes a c (take done now)
    goes_on n e less read =
        (omega (arith, part_length), rw e (subst (Consumes a c) (more n less) (Consumes-trans a b c _ _ so_far read)))

    pub goes_again : done ≡ d → Keeps b c → (done ≤ length now) × Consumes a c (take done now)
    goes_again e kept =
        (omega (arith, part_length), rw (e, take-put_mid_below d k area buf d (omega arith) front) (Consumes-kept a b c _ so_far kept))

-- a front as long as the answer says is the listing
pub listing_at_front : (out listing : List ℕ) (r : Listed) (later : List ℕ) → StandsIn out listing r later → take r.length later ≡ listing
listing_at_front out listing r later s = rw (s.answer, s.bytes) (take-append_seam listing _)

-- a text that fills its area is the front of the input, and one that does not is all of it
front_by : (text xs ys : List ℕ) (n : ℕ) → n ≤ length text → xs ≡ take n text ++ ys → (n < length text → ys ≡ [])
    → (n ≡ length text) ⊎ (n < length text) → take n text ≡ take (length text) xs
front_by text xs ys n within split end (inl full) =
    sym (ap (take (length text)) split ∙ take_at (take n text) ys (length text) (length-take-le n text within ∙ full))
front_by text xs ys n within split end (inr short) =
    let whole : xs ≡ take n text = split ∙ ap (λ l. take n text ++ l) (end short) ∙ append-nil (take n text) in
    sym (ap (take (length text)) whole ∙ take_all (length text) (take n text) (rw (length-take-le n text within) within))

front_of : (text xs ys : List ℕ) (n : ℕ) → n ≤ length text → xs ≡ take n text ++ ys → (n < length text → ys ≡ []) → take n text ≡ take (length text) xs
front_of text xs ys n within split end = front_by text xs ys n within split end (eq-or-lt_of_le within)

pub of_input : (a b : Option (List ℕ)) (text : List ℕ) (n room : ℕ) (P : List ℕ → Type 0) → room ≡ length text → n ≤ length text
    → Consumes a b (take n text) → (n < length text → IsAtEnd b) → P (take n text) → IfSome a (λ xs. P (take room xs))
of_input None b text n room P long within read end p = tt
of_input (Some xs) None text n room P long within read end p = absurd read
of_input (Some xs) (Some ys) text n room P long within read end p =
    subst P (front_of text xs ys n within read end ∙ ap (λ k. take k xs) (sym long)) p

-- the length that a call answers, as it is read off its result
pub length_told : (r : Result ℕ Refusal) → result_unwrap_or r 0 ≡ (told r).length
length_told (Ok n) = refl
length_told (Err e) = refl

-- in areas that are enough the whole listing stands
whole_in : (n room : ℕ) (text out : List ℕ) → room ≡ length out → Enough n room text → take (answer_to n text (length out)).length (out_after n text out) ≡ listing_of text
whole_in n room text out f e = by e.lent
  where
    by : ((n ≡ schedule_room) × (room ≡ listing_room)) ⊎ ((n ≡ short_schedule_room) × (room ≡ short_listing_room) × (length text < 2 * n))
        → take (answer_to n text (length out)).length (out_after n text out) ≡ listing_of text
    by (inl (all, most)) =
        let long : listing_room ≤ length out = omega (arith, f, most) in
        rw all (listing_at_front out _ _ _ (prints_the_listing text out long))
    by (inr (few, least, short)) =
        let long : short_listing_room ≤ length out = omega (arith, f, least) in
        let less : length text < 2 * short_schedule_room = rw few at short in
        rw few (listing_at_front out _ _ _ (prints_the_same short_schedule_room text out (omega arith) less long))

pub listed : (n steps room : ℕ) (text out : List ℕ) → n ≡ steps → room ≡ length out → Enough n room text
    → take (answer_to steps text (length out)).length (out_after steps text out) ≡ listing_of text
listed n steps room text out e f enough = subst (λ k. take (answer_to k text (length out)).length (out_after k text out) ≡ listing_of text) e (whole_in n room text out f enough)

pub appended : {T E : Type 0} (r : Result T E) (a b : Option (List ℕ)) (bytes listing : List ℕ) → bytes ≡ listing → OnOk r (Appends a b bytes) → OnOk r (Appends a b listing)
appended r a b bytes listing e h = subst (λ l. OnOk r (Appends a b l)) e h

-- ---- a result whose error is made another

module _ {T E D : Type 0} where
  pub at_ok : (r : Result T E) (later : Result T D) (P : T → Type 0) (Q : E → Type 0) (x : T)
      → MatchResult r (λ y. later ≡ Ok y) Q → is_ok later ≡ is_ok r → later ≡ Ok x → IfOk r P → P x
  at_ok (Ok y) later P Q x m v e p = let same : y ≡ x = cc in subst P same p
  at_ok (Err d) later P Q x m v e p = absurd (true≢false (rw e at v))

  pub still_ok : (r : Result T E) (later : Result T D) (P : Type 0) → is_ok later ≡ is_ok r → OnOk r P → OnOk later P
  still_ok (Ok y) (Ok x) P v p = p
  still_ok (Ok y) (Err d) P v p = tt
  still_ok (Err e) (Ok x) P v p = absurd (true≢false v)
  still_ok (Err e) (Err d) P v p = tt
