-- Lines no longer than the longest, one after the other.
use mathlib.Core.Path.{◌≡◌, refl, ap, sym, ◌∙◌}
use mathlib.Core.Bool.{true}
use mathlib.Core.List.{List, [], ◌∷◌, ◌++◌, append_assoc, append-nil}
use Prim.Native.Nat.{ℕ, ◌*◌, ◌≤◌}
use native.Mathlib.Omega.{arith}
use lib.ListN.{length, length-append}
use Rattle.line_rules.specs.Line.{Line, text}
use Rattle.line_rules.specs.Longest.{max_line}
use Rattle.line_rules.specs.Plain.{is_plain, all}
use Rattle.line_rules.proofs.Demands.{all_append, plain_lines}
use Rattle.listing_rules.specs.Listing.{bytes_of}

pub data AllShort : List Line → Type 0 where
  none : AllShort []
  more : {l : Line} {ls : List Line} → length (text l) ≤ max_line → AllShort ls → AllShort (l ∷ ls)

pub short_append : {xs ys : List Line} → AllShort xs → AllShort ys → AllShort (xs ++ ys)
short_append none t = t
short_append (more s r) t = more s (short_append r t)

pub plain_bytes : (ls : List Line) → all is_plain (bytes_of ls) ≡ true
unfolding bytes_of
plain_bytes [] = refl
plain_bytes (l ∷ ls) = all_append is_plain (text l) (bytes_of ls) (plain_lines l) (plain_bytes ls)

pub short_bytes : (ls : List Line) → AllShort ls → length (bytes_of ls) ≤ max_line * length ls
unfolding bytes_of
short_bytes [] none = omega arith
short_bytes (l ∷ ls) (more s r) = rw length-append (omega (arith, s, short_bytes ls r))

pub one_line : (l : Line) → bytes_of (l ∷ []) ≡ text l
unfolding bytes_of
one_line l = append-nil (text l)

pub bytes_append : (xs ys : List Line) → bytes_of (xs ++ ys) ≡ bytes_of xs ++ bytes_of ys
unfolding bytes_of
bytes_append [] ys = refl
bytes_append (x ∷ xs) ys =
    ap (λ (s : List ℕ). text x ++ s) (bytes_append xs ys) ∙ sym (append_assoc (text x) (bytes_of xs) (bytes_of ys))
