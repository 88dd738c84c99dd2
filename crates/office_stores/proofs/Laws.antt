-- The area after each change: what the code writes is the changed ledger's bytes over the same tail.
use mathlib.Core.Path.{◌≡◌, refl, sym, ap, ◌∙◌}
use mathlib.Core.List.{List, ◌++◌}
use Prim.Native.Nat.{ℕ, ◌+◌, ◌-◌, ◌≤◌, max}
use native.Mathlib.Omega.{arith}
use lib.IntN.{ℤ, pos}
use lib.ListN.{length, drop}
use Rattle.numbers.specs.Progress.{mark, signed}
use Rattle.numbers.proofs.Laws.{signed_is}
use Rattle.rules.specs.declared.Change.TheVariants.{Keep, Own, Advance, Mark, Split, Report, Push}
use Rattle.rules.specs.declared.Finds.{Finds}
use Rattle.rules.specs.declared.Ledger.{Ledger}
use Rattle.rules.specs.declared.Node.{Node}
use Rattle.rules.specs.Limits.{max_until}
use Rattle.rules.specs.Nodes.{PREPARED, PUSHED, moved, parted, pushed, middle, left_part, right_part, joined_of}
use Rattle.rules.specs.Requests.{changed}
use Rattle.rules.specs.Table.{at, put, grown}
use Rattle.rules.proofs.Nodes.{put-length}
use Rattle.finds.specs.Held.{most_held}
use Rattle.nodes.specs.Makers.{held_right}
use Rattle.nodes.proofs.Makers.{right_within, pushed_within}
use Rattle.layout.specs.Sizes.{area_size, slot_place, used_place, progress_place, owner_place, left_place, own_place, joined_place, stage_place}
use Rattle.layout.specs.Numbers.{Bytes, four, fours, bits_of, written}
use Rattle.layout.specs.Areas.{decoded, encoded, over, node_bytes, result_fields}
use Rattle.layout.proofs.Stored.{owned_bytes, moved_bytes, parted_bytes, reported_bytes, pushed_bytes, stored_bytes, grown_bytes}
use Rattle.office_forms.specs.Codes.{formed_code}
use Rattle.office_forms.proofs.Held.{held, whole}
use Rattle.office_stores.specs.Changes.{Roomed, push_gives}

same_room : (l : Ledger) (n : ℕ) (x : Node) → (put l n x).room ≡ l.room
unfolding put
same_room l n x = refl

same_used : (l : Ledger) (n : ℕ) (x : Node) → (put l n x).used ≡ l.used
unfolding put
same_used l n x = refl

-- a slot after another node was stored
module _ (l : Ledger) (n : ℕ) (x : Node) where
  slots_kept : l.room ≤ length l.nodes → (put l n x).room ≤ length (put l n x).nodes
  slots_kept h = rw (same_room l n x, put-length l n x) h

  roomed_kept : (m : ℕ) → m ≤ l.room → m ≤ (put l n x).room
  roomed_kept m h = rw (same_room l n x) h

-- three nodes stored, and the count of slots in use
split_bytes : (l : Ledger) (n c : ℕ) (a b : Node) (t : List ℕ) → l.room ≤ length l.nodes → Roomed l n → Roomed l c → Roomed l (c + 1)
    → encoded (grown (put (put (put l n (parted (at l n) c)) c a) (c + 1) b) c) ++ t
    ≡ written (written (written (written (encoded l ++ t) (slot_place (n - 1) + left_place) (four c)) (slot_place (c - 1)) (node_bytes a)) (slot_place c) (node_bytes b)) used_place (four (max l.used (c + 1)))
split_bytes l n c a b t slots p q r =
    let x = parted (at l n) c in
    let l1 = put l n x in
    let l2 = put l1 c a in
    let l3 = put l2 (c + 1) b in
    let s1 = slots_kept l n x slots in
    let s2 = slots_kept l1 c a s1 in
    let one : c + 1 - 1 ≡ c = omega arith in
    let high : c + 1 ≤ l2.room = roomed_kept l1 c a (c + 1) (roomed_kept l n x (c + 1) r.1) in
    let e1 = parted_bytes l n t p.0 p.1 slots c in
    let e2 = stored_bytes l1 c t q.0 (roomed_kept l n x c q.1) s1 a in
    let e3 = stored_bytes l2 (c + 1) t (omega arith) high s2 b in
    rw (grown_bytes l3 c t, e3, e2, e1, one, same_used l2 (c + 1) b, same_used l1 c a, same_used l n x)

module _ (bs : List ℕ) (e : formed_code bs ≡ 0) (b : Bytes bs) (n : ℕ) where
  abbrev l : Ledger
  l = decoded bs

  abbrev tail : List ℕ
  tail = drop (area_size l.room) bs

  slots : l.room ≤ length l.nodes
  slots = let h = held bs e in omega (arith, h.room, h.slots)

  -- a slot of the room is inside the area
  pub slot_inside : Roomed l n → {s : ℕ} → s ≡ n - 1 → area_size (s + 1) ≤ length bs
  slot_inside r is = let h = held bs e in omega (arith, h.long, r.0, r.1)

  pub kept_area : bs ≡ over bs (changed l n Keep)
  unfolding changed
  kept_area = whole bs e b

  pub owned_area : Roomed l n → (team : ℕ) → written bs (slot_place (n - 1) + owner_place) (four team) ≡ over bs (changed l n (Own team))
  unfolding changed over
  owned_area r team =
      ap (λ (a : List ℕ). written a (slot_place (n - 1) + owner_place) (four team)) (whole bs e b)
      ∙ sym (owned_bytes l n tail r.0 r.1 slots team)

  moved_area : Roomed l n → (p q : ℤ) → p ≡ q
      → written bs (slot_place (n - 1) + progress_place) (four (bits_of p)) ≡ over bs (put l n (moved (at l n) q))
  unfolding over
  moved_area r p q same =
      ap (λ (a : List ℕ). written a (slot_place (n - 1) + progress_place) (four (bits_of p))) (whole bs e b)
      ∙ (ap (λ (z : ℤ). written (encoded l ++ tail) (slot_place (n - 1) + progress_place) (four (bits_of z))) same
      ∙ sym (moved_bytes l n tail r.0 r.1 slots q))

  pub advanced_area : Roomed l n → (p : ℕ) (z : ℤ) → p ≤ max_until → z ≡ signed p
      → written bs (slot_place (n - 1) + progress_place) (four (bits_of z)) ≡ over bs (changed l n (Advance p))
  unfolding changed
  advanced_area r p z h is = moved_area r z (pos p) (is ∙ signed_is p h)

  pub marked_area : Roomed l n → (p : ℕ) (z : ℤ) → p ≤ max_until → z ≡ mark (signed p)
      → written bs (slot_place (n - 1) + progress_place) (four (bits_of z)) ≡ over bs (changed l n (Mark p))
  unfolding changed
  marked_area r p z h is = moved_area r z (mark (pos p)) (is ∙ ap mark (signed_is p h))

  pub reported_area : Roomed l n → (f : Finds)
      → written (written bs (slot_place (n - 1) + own_place) (fours (result_fields f))) (slot_place (n - 1) + stage_place) (four PREPARED)
      ≡ over bs (changed l n (Report f))
  unfolding changed over
  reported_area r f =
      ap
      (λ (a : List ℕ). written (written a (slot_place (n - 1) + own_place) (fours (result_fields f))) (slot_place (n - 1) + stage_place) (four PREPARED))
      (whole bs e b)
      ∙ sym (reported_bytes l n tail r.0 r.1 slots f)

  pushed_so : Roomed l n → (f : Finds) → f ≡ joined_of (at l n) (at l (at l n).left) (at l ((at l n).left + 1))
      → written (written bs (slot_place (n - 1) + joined_place) (fours (result_fields f))) (slot_place (n - 1) + stage_place) (four PUSHED)
      ≡ over bs (changed l n Push)
  unfolding changed over
  pushed_so r f is =
      ap
      (λ (a : List ℕ). written (written a (slot_place (n - 1) + joined_place) (fours (result_fields f))) (slot_place (n - 1) + stage_place) (four PUSHED))
      (whole bs e b)
      ∙ (sym (pushed_bytes l n tail r.0 r.1 slots f)
      ∙ ap (λ (g : Finds). encoded (put l n (pushed (at l n) g)) ++ tail) is)

  pub pushed_area : Roomed l n → (joined_of (at l n) (at l (at l n).left) (at l ((at l n).left + 1))).count ≤ most_held → {f : Finds}
      → f ≡ push_gives l n
      → written (written bs (slot_place (n - 1) + joined_place) (fours (result_fields f))) (slot_place (n - 1) + stage_place) (four PUSHED)
      ≡ over bs (changed l n Push)
  pushed_area r small {f} ef =
      let made = pushed_within (at l n) (at l (at l n).left) (at l ((at l n).left + 1)) small in
      pushed_so r f (ef ∙ ap (λ (k : Node). k.joined) made)

  pub split_area : Roomed l n → (c : ℕ) → Roomed l c → Roomed l (c + 1) → l.used + 1 ≡ c → middle (at l n) ≤ max_until
      → {x left right : Node} {s1 s2 s3 s4 : List ℕ}
      → x ≡ at l n
      → left ≡ left_part x
      → right ≡ held_right x
      → s1 ≡ written bs (slot_place (n - 1) + left_place) (four c)
      → s2 ≡ written s1 (slot_place (c - 1)) (node_bytes left)
      → s3 ≡ written s2 (slot_place c) (node_bytes right)
      → s4 ≡ written s3 used_place (four (c + 1))
      → s4 ≡ over bs (changed l n (Split c))
  unfolding changed over
  split_area r c p q next small {x} {left} {right} ex el er e1 e2 e3 e4 =
      let most : max l.used (c + 1) ≡ c + 1 = omega arith in
      let one : left ≡ left_part (at l n) = el ∙ ap left_part ex in
      let two : right ≡ right_part (at l n) = er ∙ (ap held_right ex ∙ right_within (at l n) small) in
      let stored = split_bytes l n c left right tail slots r p q in
      e4
      ∙ (ap (λ (a : List ℕ). written a used_place (four (c + 1))) (e3
      ∙ ap (λ (a : List ℕ). written a (slot_place c) (node_bytes right)) (e2
      ∙ ap (λ (a : List ℕ). written a (slot_place (c - 1)) (node_bytes left)) (e1
      ∙ ap (λ (a : List ℕ). written a (slot_place (n - 1) + left_place) (four c)) (whole bs e b))))
      ∙ (sym (rw most at stored) ∙ rw (one, two) refl))
