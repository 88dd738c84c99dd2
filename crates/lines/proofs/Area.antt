-- Laws of bytes put into an area, one part after the other.
use mathlib.Core.Path.{◌≡◌, refl, sym, ap, ◌∙◌, subst}
use mathlib.Core.List.{List, [], ◌∷◌, ◌++◌, append_assoc, append-nil}
use Prim.Native.Nat.{ℕ, suc, ◌+◌, ◌≤◌, ◌<◌}
use native.Mathlib.Nat.{add-zero, add_assoc}
use native.Mathlib.Numerals.{add-one}
use native.Mathlib.Omega.{arith}
use lib.ListN.{length, get_or, set, take, drop, length-append, length-drop, take-append-drop}
use lib.Seq.{length-take-le, take_at, drop-append-add, drop-drop, take-suc, set_split, set_at}
use Rattle.lines.specs.Area.{over, Put}

pub over_nothing : (area : List ℕ) (at : ℕ) → over area at [] ≡ area
unfolding over
over_nothing area at = simp (add-zero, append-nil, take-append-drop)

front_length : (area s : List ℕ) (at : ℕ) → at ≤ length area → length (take at area ++ s) ≡ at + length s
front_length area s at h = simp (length-append, length-take-le at area h)

pub over_length : (area s : List ℕ) (at : ℕ) → at + length s ≤ length area → length (over area at s) ≡ length area
unfolding over
over_length area s at h =
    simp
    (length-append (take at area ++ s) (drop (at + length s) area), front_length area s at (omega arith), length-drop)
    (omega arith)

pub over_over : (area s t : List ℕ) (at : ℕ) → at + length s ≤ length area → over (over area at s) (at + length s) t ≡ over area at (s ++ t)
unfolding over
over_over area s t at h =
    let n : length (take at area ++ s) ≡ at + length s = front_length area s at (omega arith) in
    let front : take (at + length s) ((take at area ++ s) ++ drop (at + length s) area) ≡ take at area ++ s =
    take_at (take at area ++ s) (drop (at + length s) area) (at + length s) n in
    let back : drop (at + length s + length t) ((take at area ++ s) ++ drop (at + length s) area) ≡ drop (at + length (s ++ t)) area =
    subst
    (λ (k : ℕ). drop (k + length t) ((take at area ++ s) ++ drop (at + length s) area) ≡ drop (at + length (s ++ t)) area)
    n
    (drop-append-add (take at area ++ s) (drop (at + length s) area) (length t) ∙ simp (drop-drop, length-append, add_assoc)) in
    rw (front, back, append_assoc (take at area) s t)

over_byte : (area : List ℕ) (at b : ℕ) → at < length area → set area at b ≡ over area at (b ∷ [])
unfolding over
over_byte area at b h = set_split area at b h ∙ simp (add-one, append_assoc)

-- one byte in front of those that stand there
pub over_front : (area s : List ℕ) (at b : ℕ) → at + 1 + length s ≤ length area → set (over area (at + 1) s) at b ≡ over area at (b ∷ s)
unfolding over
over_front area s at b h =
    let n : length (take at area) ≡ at = length-take-le at area (omega arith) in
    let one : at + 1 + length s ≡ at + length (b ∷ s) = omega arith in
    rw
    (add-one at, take-suc area at 0 (omega arith), append_assoc (take at area) (get_or area at 0 ∷ []) s, append_assoc (take at area) (get_or area at 0 ∷ s) (drop (suc at + length s) area), set_at (take at area) (get_or area at 0) (s ++ drop (suc at + length s) area) b at n, append_assoc (take at area) (b ∷ s) (drop (at + length (b ∷ s)) area), ← one, add-one at)

pub put-nothing : (area : List ℕ) (at : ℕ) → Put area at [] at area
put-nothing area at = record { place = sym (add-zero at); bytes = sym (over_nothing area at) }

pub put_one : (area : List ℕ) (at b : ℕ) → at < length area → Put area at (b ∷ []) (at + 1) (set area at b)
put_one area at b h = record { place = refl; bytes = over_byte area at b h }

-- what is put keeps the area's length
pub put-length : {area later s : List ℕ} {at next : ℕ} → Put area at s next later → at + length s ≤ length area → length later ≡ length area
put-length {area} {later} {s} {at} p h = ap length p.bytes ∙ over_length area s at h

-- a part put after another
pub put_then : {a b c s t : List ℕ} {at m n : ℕ} → Put a at s m b → Put b m t n c → at + length s ≤ length a → Put a at (s ++ t) n c
put_then {a} {b} {c} {s} {t} {at} p q h =
    record {
      place = q.place ∙ rw (p.place, length-append) (add_assoc at (length s) (length t));
      bytes = q.bytes ∙ rw (p.place, p.bytes) (over_over a s t at h);
    }

-- after a part there is room for k bytes more
pub room_then : {a b s : List ℕ} {at next : ℕ} (k : ℕ) → Put a at s next b → at + (length s + k) ≤ length a → next + k ≤ length b
room_then k p h = let l = put-length p (omega arith) in omega (arith, p.place)

-- ---- two parts, one after the other

module _ (a : List ℕ) (at : ℕ) (s t : List ℕ) (room : at + length (s ++ t) ≤ length a) where
  pub first_room : at + length s ≤ length a
  first_room = omega (arith, length-append s t)

  module _ {b : List ℕ} {m : ℕ} (p : Put a at s m b) where
    pub second_room : m + length t ≤ length b
    second_room = room_then (length t) p (omega (arith, length-append s t))

    pub both_put : {c : List ℕ} {n : ℕ} → Put b m t n c → Put a at (s ++ t) n c
    both_put q = put_then p q first_room
