-- The byte that is found past the blanks, and past a comment, begins a token.
use mathlib.Core.Path.{◌≡◌, refl, sym, subst, ◌∙◌}
use mathlib.Core.Bool.{Bool, true, false, cond, ◌||◌}
use mathlib.Core.List.{List, [], ◌∷◌}
use Prim.Native.Nat.{ℕ, ◌+◌, ◌-◌, ◌≤◌, ◌<◌}
use native.Mathlib.Omega.{arith}
use native.Mathlib.Numerals.{add-one}
use lib.Dec.{eqb, ltb}
use lib.ListN.{length, get_or, drop, length-drop}
use lib.Seq.{drop-cons, drop-drop, get_or-drop}
use borrow.Author.Tests.{eqb-true, ltb-true, ltb-false}
use Rattle.std.specs.Prelude.{Option, Some, None}
use Rattle.std.specs.List.{prefix_len, take_while}
use Rattle.std.proofs.lemmas.List.Sums.{prefix_len_stops, prefix_len-le-length}
use Rattle.std.proofs.lemmas.List.Folds.{length-prefix_len}
use Rattle.text_rules.specs.Bytes.{is_blank}
use Rattle.text_rules.specs.Marks.{marks}
use Rattle.text_rules.proofs.Marks.{at_end}
use Rattle.tokens.specs.Scan.{in_line, comment_end, byte_at, past_blanks, skipped, Skipped}
use Rattle.tokens.proofs.Says.{blanks_say, comment_says, hash_says, no_more}

hash_same : (bs : List ℕ) → get_or bs 0 0 ≡ 35 → marks (drop (prefix_len in_line bs) bs) ≡ marks bs
hash_same [] e = absurd (omega (arith, e))
hash_same (b ∷ bs) e = comment_says (b ∷ bs) ∙ sym (hash_says b bs e)

module _ (text : List ℕ) (i : ℕ) where
  abbrev rest : List ℕ
  rest = drop i text

  left : length rest ≡ length text - i
  left = length-drop i text

  over : length (take_while in_line rest) ≡ prefix_len in_line rest
  over = length-prefix_len in_line rest

  -- blanks say nothing, nor does a comment
  pub blanks_same : marks (drop (past_blanks text i) text) ≡ marks rest
  blanks_same = rw (← drop-drop (prefix_len is_blank rest) i text) (blanks_say rest)

  pub comment_same : get_or text i 0 ≡ 35 → marks (drop (comment_end text i) text) ≡ marks rest
  unfolding comment_end
  comment_same e =
      let front : i + 0 ≡ i = omega arith in
      let byte : get_or rest 0 0 ≡ 35 = get_or-drop i text 0 0 ∙ rw front e in
      rw (← drop-drop _ i text, over) (hash_same rest byte)

  -- a comment has a byte, and ends within the text
  pub comment_spans : i < length text → get_or text i 0 ≡ 35 → (i < comment_end text i) × (comment_end text i ≤ length text)
  unfolding comment_end
  comment_spans h e =
      let most : prefix_len in_line rest ≤ length rest = prefix_len-le-length in_line rest in
      let parts : rest ≡ get_or text i 0 ∷ drop (i + 1) text = rw (add-one i) (drop-cons text i 0 h) in
      let some : prefix_len in_line rest ≡ 1 + prefix_len in_line (drop (i + 1) text) = rw (parts, e) in
      (omega (arith, over, some), omega (arith, h, over, most, left))

  -- the byte past blanks is no blank, and the byte past a comment begins neither
  no_blank : past_blanks text i < length text → is_blank (get_or text (past_blanks text i) 0) ≡ false
  no_blank h = rw (← get_or-drop i text (prefix_len is_blank rest) 0) (prefix_len_stops is_blank rest 0 (omega (arith, h, left)))

  neither_after : comment_end text i < length text → (eqb (get_or text (comment_end text i) 0) 35 || is_blank (get_or text (comment_end text i) 0)) ≡ false
  unfolding comment_end
  neither_after h = no_more (get_or text (comment_end text i) 0) (rw (← get_or-drop i text _ 0, over) (prefix_len_stops in_line rest 0 (omega (arith, h, over, left))))

module _ (text : List ℕ) (place : ℕ) where
  abbrev at : ℕ
  at = past_blanks text place

  same_by : (t : Bool) → eqb (get_or text at 0) 35 ≡ t → marks (drop (cond t (comment_end text at) at) text) ≡ marks (drop place text)
  same_by true e = comment_same text at (eqb-true (get_or text at 0) 35 e) ∙ blanks_same text place
  same_by false e = blanks_same text place

  first_by : (t : Bool) → eqb (get_or text at 0) 35 ≡ t → let r = cond t (comment_end text at) at in r < length text → (eqb (get_or text r 0) 35 || is_blank (get_or text r 0)) ≡ false
  first_by true e h = neither_after text at h
  first_by false e h = rw (e, no_blank text place h)

  pub skips : skipped text place < length text → Skipped text place (skipped text place)
  skips h = record { same = same_by _ refl; first = first_by _ refl; within = omega (arith, h) }

  -- where no byte is left, all was skipped
  pub skips_all : length text ≤ skipped text place → Skipped text place (length text)
  skips_all h =
      let none : marks (drop (length text) text) ≡ [] = at_end text (length text) false (omega arith) in
      record { same = none ∙ sym (at_end text (skipped text place) false h) ∙ same_by _ refl; first = λ l. absurd (omega (arith, l)); within = omega arith }

-- a token begins with that byte, at its place
pub record Begins (text : List ℕ) (place : ℕ) (found : ℕ × ℕ) : Type 0 where
  pub skips : Skipped text place found.0
  pub there : found.0 < length text
  pub is : get_or text found.0 0 ≡ found.1

-- what is known of a place by the byte that was found there
abbrev Told : List ℕ → ℕ → Option (ℕ × ℕ) → Type 0
Told text r None = length text ≤ r
Told text r (Some p) = (r < length text) × ((r, get_or text r 0) ≡ p)

told : (text : List ℕ) (r : ℕ) (o : Option (ℕ × ℕ)) → byte_at text r ≡ o → Told text r o
told text r o e = subst (Told text r) e (by (ltb r (length text)) refl)
  where
    by : (t : Bool) → ltb r (length text) ≡ t → Told text r (cond {A = Option (ℕ × ℕ)} t (Some (r, get_or text r 0)) None)
    by true t = (ltb-true r (length text) t, refl)
    by false t = ltb-false r (length text) t

module _ (text : List ℕ) (place : ℕ) where
  pub found : (p : ℕ × ℕ) → byte_at text (skipped text place) ≡ Some p → Begins text place p
  found p e =
      let t = told text (skipped text place) (Some p) e in
      subst (Begins text place) t.1 (record { skips = skips text place t.0; there = t.0; is = refl })

  pub found_none : byte_at text (skipped text place) ≡ None → Skipped text place (length text)
  found_none e = skips_all text place (told text (skipped text place) None e)
