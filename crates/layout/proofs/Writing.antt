-- Bytes written over an area.
use mathlib.Core.Path.{◌≡◌, refl, sym, ap, ◌∙◌}
use mathlib.Core.List.{List, ◌++◌, append_assoc}
use Prim.Native.Nat.{ℕ, ◌+◌, ◌≤◌}
use native.Mathlib.Omega.{arith}
use lib.ListN.{length, take, drop, length-append}
use lib.Seq.{sets, sets-eq, length-sets, length-take-le, take_at, take-append-add, drop-append-add, drop-drop}
use borrow.Rule.Slice.PartMut.{put_mid}
use Rattle.layout.specs.Numbers.{written}

-- stores one after the other
pub sets_written : (bs : List ℕ) (k : ℕ) (new : List ℕ) → k + length new ≤ length bs → sets bs k new ≡ written bs k new
unfolding written
sets_written bs k new h = sets-eq new bs k h ∙ append_assoc (take k bs) new (drop (k + length new) bs)

-- an area keeps its length
pub written_length : (bs : List ℕ) (k : ℕ) (new : List ℕ) → k + length new ≤ length bs → length (written bs k new) ≡ length bs
written_length bs k new h = rw (← sets_written bs k new h) (length-sets bs k new)

-- what is written right after other bytes is written with them
pub written_on : (bs : List ℕ) (k m : ℕ) (s t : List ℕ) → m ≡ k + length s → m + length t ≤ length bs
    → written (written bs k s) m t ≡ written bs k (s ++ t)
unfolding written
written_on bs k m s t e h =
    let lead : length (take k bs ++ s) ≡ m =
    length-append (take k bs) s ∙ (ap (◌+ length s) (length-take-le k bs (omega arith)) ∙ sym e) in
    let whole : take k bs ++ (s ++ drop (k + length s) bs) ≡ (take k bs ++ s) ++ drop m bs =
    rw e (sym (append_assoc (take k bs) s (drop (k + length s) bs))) in
    let upto : take m ((take k bs ++ s) ++ drop m bs) ≡ take k bs ++ s = take_at (take k bs ++ s) (drop m bs) m lead in
    let after : drop (m + length t) ((take k bs ++ s) ++ drop m bs) ≡ drop (m + length t) bs =
    ap (λ (j : ℕ). drop (j + length t) ((take k bs ++ s) ++ drop m bs)) (sym lead)
    ∙ (drop-append-add (take k bs ++ s) (drop m bs) (length t) ∙ drop-drop (length t) m bs) in
    let size : k + length (s ++ t) ≡ m + length t = rw (length-append s t) (omega arith) in
    rw (whole, upto, after, size, append_assoc (take k bs) s (t ++ drop (m + length t) bs), append_assoc s t (drop (m + length t) bs))

-- what is written past a front leaves the front
pub written_past : (p r : List ℕ) (n k : ℕ) (new : List ℕ) → length p ≡ n → written (p ++ r) (n + k) new ≡ p ++ written r k new
unfolding written
written_past p r n k new e =
    let s : n + k + length new ≡ length p + (k + length new) = omega arith in
    rw
    (s, ← e, take-append-add p r k, drop-append-add p r (k + length new))
    (append_assoc p (take k r) (new ++ drop (k + length new) r))

-- at the very front
pub written_front : (bs new : List ℕ) → written bs 0 new ≡ new ++ drop (length new) bs
unfolding written
written_front bs new = let z : 0 + length new ≡ length new = omega arith in rw z

-- what was copied into the part of an area that begins at a place
pub copied : (bs new : List ℕ) (at k : ℕ) → k ≡ length new → put_mid at k bs new ≡ written bs at new
unfolding written
copied bs new at k e = rw (drop-drop k at bs, e) refl
