-- A text's marks by lines: the header's line, its numbers, and what comes after its line end.
use Rattle.std.specs.Prelude.{ℕ, ◌+◌, List, [], ◌∷◌}
use Rattle.text_rules.specs.Marks.{Mark, line_end, number, wrong}
use Rattle.text_rules.specs.Digits.{number_of}

-- the line of the first number, where the marks begin on the given line; 0 where there is none
unfoldable pub head_line : ℕ → List Mark → ℕ
head_line line [] = 0
head_line line (line_end k ∷ ms) = head_line (line + 1) ms
head_line line (number ds k ∷ ms) = line
head_line line (wrong k ∷ ms) = head_line line ms

-- the marks from the first number on
unfoldable pub from_head : List Mark → List Mark
from_head [] = []
from_head (line_end k ∷ ms) = from_head ms
from_head (number ds k ∷ ms) = number ds k ∷ ms
from_head (wrong k ∷ ms) = from_head ms

-- the numbers up to the line's end
unfoldable pub line_numbers : List Mark → List ℕ
line_numbers [] = []
line_numbers (line_end k ∷ ms) = []
line_numbers (number ds k ∷ ms) = number_of ds ∷ line_numbers ms
line_numbers (wrong k ∷ ms) = line_numbers ms

-- the marks after the line's end
unfoldable pub after_line : List Mark → List Mark
after_line [] = []
after_line (line_end k ∷ ms) = ms
after_line (number ds k ∷ ms) = after_line ms
after_line (wrong k ∷ ms) = after_line ms

-- how many bytes of the text come after the line's end
unfoldable pub left_after : List Mark → ℕ
left_after [] = 0
left_after (line_end k ∷ ms) = k
left_after (number ds k ∷ ms) = left_after ms
left_after (wrong k ∷ ms) = left_after ms

-- all numbers
unfoldable pub numbers_of : List Mark → List ℕ
numbers_of [] = []
numbers_of (line_end k ∷ ms) = numbers_of ms
numbers_of (number ds k ∷ ms) = number_of ds ∷ numbers_of ms
numbers_of (wrong k ∷ ms) = numbers_of ms
