-- What is written into an area, and where.
use Rattle.std.specs.Prelude.{ℕ, ◌+◌, ◌≡◌, cond, List, ◌++◌, leb, length, take, drop, Option, None, Some}

-- an area with the bytes s in it from `at` on
unfoldable pub over : List ℕ → ℕ → List ℕ → List ℕ
over area at s = take at area ++ s ++ drop (at + length s) area

-- the bytes s were put into an area from `at` on, and `next` is the place after them
pub record Put (area : List ℕ) (at : ℕ) (s : List ℕ) (next : ℕ) (later : List ℕ) : Type 0 where
  pub place : next ≡ at + length s
  pub bytes : later ≡ over area at s

-- a line added after the first `at` bytes of an area, where it has room, and else nothing
unfoldable pub added : List ℕ → ℕ → List ℕ → List ℕ
added line at area = cond (leb (at + length line) (length area)) (over area at line) area

-- the place after it, in an area of `room` bytes
unfoldable pub added_to : List ℕ → ℕ → ℕ → ℕ
added_to line at room = cond (leb (at + length line) room) (at + length line) at

-- the place after it, where it has room, and else none
unfoldable pub place_after : List ℕ → ℕ → ℕ → Option ℕ
place_after line at room = cond (leb (at + length line) room) (Some (at + length line)) None
