-- "The fixed words are open, batch, split, left, stopped and refused." Each is its letters in ASCII.
use Rattle.std.specs.Prelude.{ℕ, List, [], ◌∷◌}
use Prim.Native.Char.{code}
use Prim.Native.String.{String, [] as none, ◌∷◌ as ◌then◌}

abbrev pub ascii : String → List ℕ
ascii none = []
ascii (c then s) = code c ∷ ascii s

abbrev pub open_word : List ℕ
open_word = ascii "open"

abbrev pub batch_word : List ℕ
batch_word = ascii "batch"

abbrev pub split_word : List ℕ
split_word = ascii "split"

abbrev pub left_word : List ℕ
left_word = ascii "left"

abbrev pub stopped_word : List ℕ
stopped_word = ascii "stopped"

abbrev pub refused_word : List ℕ
refused_word = ascii "refused"
