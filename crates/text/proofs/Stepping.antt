-- What a token says of the marks at its place, and how the text goes on after it.
use mathlib.Core.Path.{◌≡◌, refl, sym, ap, ◌∙◌}
use mathlib.Core.Bool.{Bool, true, false}
use mathlib.Core.List.{List, [], ◌∷◌}
use Prim.Native.Nat.{ℕ, ◌-◌, ◌≤◌, ◌<◌}
use lib.Dec.{ltb}
use lib.ListN.{length, drop}
use borrow.Author.Tests.{ltb-true, ltb-false}
use Rattle.text_rules.specs.declared.Kind.TheVariants as kind
use Rattle.text_rules.specs.declared.Token.{Token}
use Rattle.text_rules.specs.Marks.{Mark, line_end, number, wrong, marks}
use Rattle.text_rules.specs.Digits.{number_of}
use Rattle.text_rules.specs.Tokens.{token_of, token_at}
use Rattle.text_rules.proofs.Marks.{later, moves, at_end}

-- the text says m at a place, and goes on at next
pub record Says (text : List ℕ) (place : ℕ) (m : Mark) (next : ℕ) : Type 0 where
  pub here : marks (drop place text) ≡ m ∷ marks (drop next text)
  pub further : place < next
  pub within : next ≤ length text

pub record SaysLine (text : List ℕ) (place : ℕ) (next : ℕ) : Type 0 where
  pub left : ℕ
  pub said : Says text place (line_end left) next
  pub end : next ≡ length text - left

pub record SaysNumber (text : List ℕ) (place v next : ℕ) : Type 0 where
  pub digits : List ℕ
  pub left : ℕ
  pub said : Says text place (number digits left) next
  pub value : v ≡ number_of digits

pub record SaysWrong (text : List ℕ) (place next : ℕ) : Type 0 where
  pub left : ℕ
  pub said : Says text place (wrong left) next

-- nothing is left
pub record SaysNothing (text : List ℕ) (place next : ℕ) : Type 0 where
  pub here : marks (drop place text) ≡ []
  pub end : next ≡ length text

-- ---- the first mark, by the kind of the token that it makes
record LineFirst (n : ℕ) (ms : List Mark) : Type 0 where
  left : ℕ
  first : ms ≡ line_end left ∷ later ms
  end : (token_of n ms).end ≡ n - left

line_first : (n : ℕ) (ms : List Mark) → (token_of n ms).kind ≡ kind.LineEnd → LineFirst n ms
unfolding token_of
line_first n [] e = cc
line_first n (line_end k ∷ ms) e = record { left = k; first = refl; end = refl }
line_first n (number ds k ∷ ms) e = cc
line_first n (wrong k ∷ ms) e = cc

record NumberFirst (ms : List Mark) (v : ℕ) : Type 0 where
  digits : List ℕ
  left : ℕ
  first : ms ≡ number digits left ∷ later ms
  value : v ≡ number_of digits

number_first : (n v : ℕ) (ms : List Mark) → (token_of n ms).kind ≡ kind.Number v → NumberFirst ms v
unfolding token_of
number_first n v [] e = cc
number_first n v (line_end k ∷ ms) e = cc
number_first n v (number ds k ∷ ms) e = record { digits = ds; left = k; first = refl; value = cc }
number_first n v (wrong k ∷ ms) e = cc

record WrongFirst (ms : List Mark) : Type 0 where
  left : ℕ
  first : ms ≡ wrong left ∷ later ms

wrong_first : (n : ℕ) (ms : List Mark) → (token_of n ms).kind ≡ kind.Wrong → WrongFirst ms
unfolding token_of
wrong_first n [] e = cc
wrong_first n (line_end k ∷ ms) e = cc
wrong_first n (number ds k ∷ ms) e = cc
wrong_first n (wrong k ∷ ms) e = record { left = k; first = refl }

none_first : (n : ℕ) (ms : List Mark) → (token_of n ms).kind ≡ kind.End → (ms ≡ []) × ((token_of n ms).end ≡ n)
unfolding token_of
none_first n [] e = (refl, refl)
none_first n (line_end k ∷ ms) e = cc
none_first n (number ds k ∷ ms) e = cc
none_first n (wrong k ∷ ms) e = cc

module _ (text : List ℕ) (place : ℕ) (h : place ≤ length text) (t : Token) (is : t ≡ token_at text place) where
  abbrev here : List Mark
  here = marks (drop place text)

  token_is : t ≡ token_of (length text) here
  unfolding token_at
  token_is = is

  -- a mark stands before the text's end
  before_by : (b : Bool) → ltb place (length text) ≡ b → (m : Mark) (ms : List Mark) → here ≡ m ∷ ms → place < length text
  before_by true l m ms e = ltb-true place (length text) l
  before_by false l m ms e =
      let nothing : m ∷ ms ≡ [] = sym e ∙ at_end text place false (ltb-false place (length text) l) in
      cc

  says : (m : Mark) → here ≡ m ∷ later here → Says text place m t.end
  says m e =
      let y = moves text place (before_by (ltb place (length text)) refl m (later here) e) t is in
      record { here = e ∙ ap (λ (ms : List Mark). m ∷ ms) (sym y.rest); further = y.further; within = y.within }

  pub at_line : t.kind ≡ kind.LineEnd → SaysLine text place t.end
  at_line e =
      let f = line_first (length text) here (ap (λ (t : Token). t.kind) (sym token_is) ∙ e) in
      record { left = f.left; said = says (line_end f.left) f.first; end = ap (λ (t : Token). t.end) token_is ∙ f.end }

  pub at_number : (v : ℕ) → t.kind ≡ kind.Number v → SaysNumber text place v t.end
  at_number v e =
      let f = number_first (length text) v here (ap (λ (t : Token). t.kind) (sym token_is) ∙ e) in
      record { digits = f.digits; left = f.left; said = says (number f.digits f.left) f.first; value = f.value }

  pub at_wrong : t.kind ≡ kind.Wrong → SaysWrong text place t.end
  at_wrong e =
      let f = wrong_first (length text) here (ap (λ (t : Token). t.kind) (sym token_is) ∙ e) in
      record { left = f.left; said = says (wrong f.left) f.first }

  pub at_none : t.kind ≡ kind.End → SaysNothing text place t.end
  at_none e =
      let f = none_first (length text) here (ap (λ (t : Token). t.kind) (sym token_is) ∙ e) in
      record { here = f.0; end = ap (λ (t : Token). t.end) token_is ∙ f.1 }
