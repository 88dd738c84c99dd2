-- Laws of the marks: what follows the first mark of a text, and where.
use mathlib.Core.Path.{◌≡◌, refl, sym, ap, ◌∙◌}
use mathlib.Core.Bool.{Bool, true, false, cond}
use lib.Dec.{eqb}
use mathlib.Core.List.{List, [], ◌∷◌}
use Prim.Native.Nat.{ℕ, zero, suc, ◌+◌, ◌-◌, ◌≤◌, ◌<◌}
use native.Mathlib.Numerals.{add-one}
use native.Mathlib.Omega.{arith}
use lib.ListN.{length, get_or, drop, length-drop, drop_of_length-le}
use lib.Seq.{drop-drop, drop-cons}
use Rattle.text_rules.specs.declared.Token.{Token}
use Rattle.text_rules.specs.Bytes.{Class, LineEnd, Hash, Blank, Digit, Other, is_numeral, is_blank, class_of}
use Rattle.text_rules.specs.Marks.{Mark, line_end, number, wrong, in_comment, starts_digit, longer, added, marks_from, marks}
use Rattle.text_rules.specs.Tokens.{token_of, token_at}

-- the marks after the first, and how many bytes come after the first
abbrev pub later : List Mark → List Mark
later [] = []
later (m ∷ ms) = ms

abbrev pub left_of : List Mark → ℕ
left_of [] = 0
left_of (line_end k ∷ ms) = k
left_of (number ds k ∷ ms) = k
left_of (wrong k ∷ ms) = k

-- ms are the marks of bs: the later ones are those of what is left of bs
record Parted (ms : List Mark) (bs : List ℕ) : Type 0 where
  left : left_of ms ≤ length bs - 1
  rest : later ms ≡ marks (drop (length bs - left_of ms) bs)

-- a byte that says nothing stands before
skips : (b : ℕ) (bs : List ℕ) (ms : List Mark) → Parted ms bs → Parted ms (b ∷ bs)
skips b bs ms p =
    let e : suc (length bs) - left_of ms ≡ suc (length bs - left_of ms) = omega (arith, p.left) in
    record { left = omega (arith, p.left); rest = rw e p.rest }

-- the first mark is of the first byte alone
begins : (b : ℕ) (bs : List ℕ) (ms : List Mark) → left_of ms ≡ length bs → later ms ≡ marks bs → Parted ms (b ∷ bs)
begins b bs ms l r =
    let e : suc (length bs) - left_of ms ≡ suc zero = omega (arith, l) in
    record { left = omega (arith, l); rest = rw e r }

longer_left : (b : ℕ) (ms : List Mark) → left_of (longer b ms) ≡ left_of ms
longer_left b [] = refl
longer_left b (line_end k ∷ ms) = refl
longer_left b (number ds k ∷ ms) = refl
longer_left b (wrong k ∷ ms) = refl

pub longer-later : (b : ℕ) (ms : List Mark) → later (longer b ms) ≡ later ms
longer-later b [] = refl
longer-later b (line_end k ∷ ms) = refl
longer-later b (number ds k ∷ ms) = refl
longer-later b (wrong k ∷ ms) = refl

lengthens : (b : ℕ) (bs : List ℕ) (ms : List Mark) → Parted ms (b ∷ bs) → Parted (longer b ms) (b ∷ bs)
lengthens b bs ms p =
    record { left = rw (longer_left b ms) p.left; rest = rw (longer_left b ms, longer-later b ms) p.rest }

digit_parted : (t : Bool) (b : ℕ) (bs : List ℕ) → Parted (marks bs) bs → Parted (cond t (longer b (marks bs)) (number (b ∷ []) (length bs) ∷ marks bs)) (b ∷ bs)
digit_parted true b bs p = lengthens b bs (marks bs) (skips b bs (marks bs) p)
digit_parted false b bs p = begins b bs (number (b ∷ []) (length bs) ∷ marks bs) refl refl

added_parted : (c : Bool) (k : Class) (b : ℕ) (bs : List ℕ) → Parted (marks_from (in_comment c k) bs) bs → Parted (added c k b bs (marks_from (in_comment c k) bs)) (b ∷ bs)
added_parted c LineEnd b bs p = begins b bs (line_end (length bs) ∷ marks bs) refl refl
added_parted c Hash b bs p = skips b bs _ p
added_parted c Blank b bs p = skips b bs _ p
added_parted true Digit b bs p = skips b bs _ p
added_parted false Digit b bs p = digit_parted (starts_digit bs) b bs p
added_parted true Other b bs p = skips b bs _ p
added_parted false Other b bs p = begins b bs (wrong (length bs) ∷ marks bs) refl refl

parted : (c : Bool) (bs : List ℕ) → Parted (marks_from c bs) bs
unfolding marks_from
parted c [] = record { left = omega arith; rest = refl }
parted c (b ∷ bs) = added_parted c (class_of b) b bs (parted (in_comment c (class_of b)) bs)

-- ---- the token at a place
token_end : (n : ℕ) (ms : List Mark) → (token_of n ms).end ≡ n - left_of ms
unfolding token_of
token_end n [] = omega arith
token_end n (line_end k ∷ ms) = refl
token_end n (number ds k ∷ ms) = refl
token_end n (wrong k ∷ ms) = refl

-- what a pass goes by from one token to the next
pub record Moves (text : List ℕ) (place : ℕ) (t : Token) : Type 0 where
  pub is : t ≡ token_of (length text) (marks (drop place text))
  pub rest : marks (drop t.end text) ≡ later (marks (drop place text))
  pub further : place < t.end
  pub within : t.end ≤ length text

pub moves : (text : List ℕ) (place : ℕ) → place < length text → (t : Token) → t ≡ token_at text place → Moves text place t
unfolding token_at
moves text place h t e =
    let ms = marks (drop place text) in
    let p = parted false (drop place text) in
    let end : t.end ≡ length text - left_of ms = ap (λ (u : Token). u.end) e ∙ token_end (length text) ms in
    let left : left_of ms ≤ length text - place - 1 = rw (length-drop place text) at p.left in
    let far : t.end ≡ place + (length text - place - left_of ms) = omega (arith, end, left) in
    record {
      is = e;
      rest = rw (far, ← drop-drop (length text - place - left_of ms) place text, ← length-drop place text) (sym p.rest);
      further = omega (arith, end, left);
      within = omega (arith, end, left);
    }

-- ---- byte by byte
pub at_byte : (text : List ℕ) (i : ℕ) (c : Bool) → i < length text → marks_from c (drop i text) ≡ added c (class_of (get_or text i 0)) (get_or text i 0) (drop (i + 1) text) (marks_from (in_comment c (class_of (get_or text i 0))) (drop (i + 1) text))
unfolding marks_from
at_byte text i c h = rw (add-one i, drop-cons text i 0 h)

pub at_end : (text : List ℕ) (i : ℕ) (c : Bool) → length text ≤ i → marks_from c (drop i text) ≡ []
unfolding marks_from
at_end text i c h = rw (drop_of_length-le text h)

-- ---- comments

-- inside a comment, a byte that is no LF says nothing, and the comment goes on
record Quiet (k : Class) : Type 0 where
  says : (b : ℕ) (bs : List ℕ) (ms : List Mark) → added true k b bs ms ≡ ms
  stays : in_comment true k ≡ true

quiet : (h w d : Bool) → Quiet (cond h Hash (cond w Blank (cond d Digit Other)))
quiet true w d = record { says = λ b bs ms. refl; stays = refl }
quiet false true d = record { says = λ b bs ms. refl; stays = refl }
quiet false false true = record { says = λ b bs ms. refl; stays = refl }
quiet false false false = record { says = λ b bs ms. refl; stays = refl }

quiet_byte : (b : ℕ) → eqb b 10 ≡ false → Quiet (class_of b)
unfolding class_of
quiet_byte b e = rw e (quiet (eqb b 35) (is_blank b) (is_numeral b))

pub passed_over : (b : ℕ) (bs : List ℕ) → eqb b 10 ≡ false → marks_from true (b ∷ bs) ≡ marks_from true bs
unfolding marks_from
passed_over b bs e = let q = quiet_byte b e in rw q.stays (q.says b bs (marks_from true bs))
