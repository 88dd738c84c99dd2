-- What the line writer answers, and what it leaves in the area that it is lent.
-- "The line writer answers a code and the line's length, 0 when refused; bytes after the line stay."
use Rattle.std.specs.Prelude.{ℕ, cond, List, [], ◌∷◌, ◌++◌, ltb, eqb, length, drop, Result, Ok, Err}
use Rattle.rules.specs.declared.refusal.Refusal.{Refusal}
use Rattle.rules.specs.Refused.{code_of}
use Rattle.rules.specs.Tests.{◌when◌, first}
use Rattle.line_rules.specs.Line.{Line, Part, word_of, parts_of, whole, any_negative}

-- 25, a number to write is negative, is tested first; 28, the area is shorter than the line, second
unfoldable pub refusal : List ℕ → List Part → ℕ → ℕ
refusal w ps room = first ((25 when any_negative ps) ∷ (28 when ltb room (length (whole w ps))) ∷ []) 0

-- 0 and the line's length in bytes, or the code of a refusal and 0
pub record Written : Type 0 where
  pub code : ℕ
  pub length : ℕ

abbrev pub refused : ℕ → Written
refused code = record { code = code; length = 0 }

abbrev pub granted : ℕ → Written
granted n = record { code = 0; length = n }

-- what an answer as a result stands for
abbrev pub told : Result ℕ Refusal → Written
told (Ok n) = granted n
told (Err e) = refused (code_of e)

-- the answer for an area of `room` bytes
unfoldable pub answer_to : List ℕ → List Part → ℕ → Written
answer_to w ps room = cond (eqb (refusal w ps room) 0) (granted (length (whole w ps))) (refused (refusal w ps room))

-- a line at the start of an area, and the bytes that stood after it
abbrev pub at_start : List ℕ → List ℕ → List ℕ
at_start line area = line ++ drop (length line) area

-- the area afterwards: with the line, or all as it was
unfoldable pub area_after : List ℕ → List Part → List ℕ → List ℕ
area_after w ps area = cond (eqb (refusal w ps (length area)) 0) (at_start (whole w ps) area) area

abbrev pub answer : Line → ℕ → Written
answer l room = answer_to (word_of l) (parts_of l) room

abbrev pub after : Line → List ℕ → List ℕ
after l area = area_after (word_of l) (parts_of l) area
