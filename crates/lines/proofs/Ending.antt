-- Laws of a line's numbers, one after the other.
use mathlib.Core.Path.{◌≡◌, refl, sym, ap, ◌∙◌}
use mathlib.Core.Bool.{true, false}
use mathlib.Core.List.{List, [], ◌∷◌, ◌++◌, append_assoc, append-nil}
use Prim.Native.Nat.{ℕ, suc, ◌+◌, ◌*◌, ◌^◌, ◌≤◌, ◌<◌}
use native.Mathlib.Numerals.{add-one}
use native.Mathlib.Omega.{arith}
use lib.IntN.{ℤ, pos}
use lib.ListN.{length, get_or, set, take, drop, length-append, take-append-drop}
use lib.Seq.{take-suc}
use Rattle.std.specs.Prelude.{map, sum_by}
use Rattle.std.specs.List.{list_any}
use Rattle.std.proofs.lemmas.List.{take_more, take_more_set, map-append}
use Rattle.std.proofs.lemmas.List.Sums.{sum_by-cons}
use Rattle.std.proofs.lemmas.List.Folds.{list_any_more, list_any-append}
use Rattle.numbers.specs.Fields.{nat_of}
use Rattle.numbers.specs.Progress.{negative}
use Rattle.line_rules.specs.Line.{number, left_line, space, line_end, spaced, whole, text, any_negative}
use Rattle.line_rules.specs.Words.{left_word, stopped_word}
use Rattle.line_rules.proofs.Decimal.{decimal_width}
use Rattle.lines.specs.Fields.{field, fields, parts}

-- ---- the line's definition

pub line_is : (w : List ℕ) (ns : List ℕ) → whole w (parts ns) ≡ (w ++ fields ns) ++ (line_end ∷ [])
unfolding whole fields
line_is w ns = refl

pub line_size : (w : List ℕ) (ns : List ℕ) → length w + 1 + length (fields ns) ≡ length ((w ++ fields ns) ++ (line_end ∷ []))
line_size w ns = simp length-append (omega arith)

fields_one : (n : ℕ) → fields (n ∷ []) ≡ field n
unfolding fields spaced
fields_one n = append-nil (field n)

regroup : (w a v b e : List ℕ) → (w ++ (a ++ (v ++ (b ++ [])))) ++ e ≡ ((w ++ a) ++ (v ++ b)) ++ e
regroup w a v b e = simp (append_assoc, append-nil)

pub left_is_lem : (count stopped : ℕ)
    → text (left_line (pos count) (pos stopped))
    ≡ ((left_word ++ fields (count ∷ [])) ++ ((space ∷ stopped_word) ++ fields (stopped ∷ []))) ++ (line_end ∷ [])
unfolding whole spaced
left_is_lem count stopped =
    rw (fields_one count, fields_one stopped) (regroup left_word (field count) (space ∷ stopped_word) (field stopped) (line_end ∷ []))

pub left_size : (count stopped : ℕ)
    → 13 + length (fields (count ∷ stopped ∷ []))
    ≡ length (((left_word ++ fields (count ∷ [])) ++ ((space ∷ stopped_word) ++ fields (stopped ∷ []))) ++ (line_end ∷ []))
unfolding fields spaced
left_size count stopped = simp length-append (omega arith)

-- ---- the first i numbers, and one more

fields_append : (ns ms : List ℕ) → fields (ns ++ ms) ≡ fields ns ++ fields ms
unfolding fields spaced
fields_append [] ms = refl
fields_append (n ∷ ns) ms = ap (λ (s : List ℕ). field n ++ s) (fields_append ns ms) ∙ sym (append_assoc (field n) (fields ns) (fields ms))

pub fields_more : (ns : List ℕ) (i : ℕ) → i < length ns → fields (take (i + 1) ns) ≡ fields (take i ns) ++ field (get_or ns i 0)
fields_more ns i more = rw (add-one, take-suc ns i 0 more, fields_append, fields_one)

pub fields_none : (ns : List ℕ) → fields (take 0 ns) ≡ []
unfolding fields spaced
fields_none ns = refl

-- where all have room, one more has it
pub fields_room : (ns : List ℕ) (i at room : ℕ) → i < length ns → at + length (fields ns) ≤ room
    → at + length (fields (take i ns)) + length (field (get_or ns i 0)) ≤ room
fields_room ns i at room more h =
    let split : length (fields ns) ≡ length (fields (take (i + 1) ns)) + length (fields (drop (i + 1) ns)) =
    rw (← length-append (fields (take (i + 1) ns)) (fields (drop (i + 1) ns)), ← fields_append (take (i + 1) ns) (drop (i + 1) ns), take-append-drop (i + 1) ns) in
    let one : length (fields (take (i + 1) ns)) ≡ length (fields (take i ns)) + length (field (get_or ns i 0)) = rw (fields_more ns i more, length-append) in
    omega arith

-- ---- the longest numbers

pub fields_most : (ns : List ℕ) → ((i : ℕ) → get_or ns i 0 < 10 ^ 20) → length (fields ns) ≤ 21 * length ns
unfolding fields spaced
fields_most [] small = omega arith
fields_most (n ∷ ns) small = omega (arith, decimal_width 19 n (small 0), fields_most ns (λ i. small (suc i)), length-append (field n) (fields ns))

pub fields_sum : (ns : List ℕ) → sum_by (λ n. length (field n)) ns ≡ length (fields ns)
unfolding fields spaced
fields_sum [] = refl
fields_sum (n ∷ ns) = omega (arith, sum_by-cons (λ m. length (field m)) n ns, fields_sum ns, length-append (field n) (fields ns))

-- ---- signed numbers, none of which is negative

pub any_signed : (zs : List ℤ) → any_negative (map number zs) ≡ list_any negative zs
unfolding any_negative
any_signed [] = refl
any_signed (z ∷ zs) = rw (any_signed zs)

pub line_signed : (w : List ℕ) (zs : List ℤ) → whole w (parts (map nat_of zs)) ≡ whole w (map number zs)
unfolding whole spaced
line_signed w zs = ap (λ (s : List ℕ). (w ++ s) ++ (line_end ∷ [])) (same zs)
  where
    same : (zs : List ℤ) → spaced (parts (map nat_of zs)) ≡ spaced (map number zs)
    same [] = refl
    same (z ∷ zs) = rw (same zs)

-- ---- the first i signed numbers, and one more

pub none_more : (zs : List ℤ) (i : ℕ) (d : ℤ) → i < length zs → list_any negative (take i zs) ≡ false → negative (get_or zs i d) ≡ false
    → list_any negative (take (i + 1) zs) ≡ false
none_more zs i d more none here = rw (list_any_more negative zs i d more, none, here)

pub one_negative : (zs : List ℤ) (i : ℕ) (d : ℤ) → i < length zs → list_any negative (take i zs) ≡ false → negative (get_or zs i d) ≡ true
    → list_any negative zs ≡ true
one_negative zs i d more none here =
    rw (take-append-drop, list_any_more negative zs i d more, none, here) at (list_any-append negative (take (i + 1) zs) (drop (i + 1) zs))

pub natural_more : (zs : List ℤ) (ns : List ℕ) (i : ℕ) (d : ℤ) → i < length zs → length ns ≡ length zs → take i ns ≡ map nat_of (take i zs)
    → take (i + 1) (set ns i (nat_of (get_or zs i d))) ≡ map nat_of (take (i + 1) zs)
natural_more zs ns i d more long e =
    let inside : i < length ns = omega arith in
    rw (take_more_set ns i (nat_of (get_or zs i d)) inside, take_more zs i d more, map-append, e)
