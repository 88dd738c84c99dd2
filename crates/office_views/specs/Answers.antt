-- "its answer's six numbers go to a lent area of 24 bytes"
use Rattle.std.specs.Prelude.{ℕ, List, [], ◌∷◌}
use Rattle.rules.specs.declared.Answer.{Answer}
use Rattle.layout.specs.Numbers.{fours}

unfoldable pub answer_bytes : Answer → List ℕ
answer_bytes a = fours (a.code ∷ a.state ∷ a.from ∷ a.to ∷ a.owner ∷ a.left ∷ [])
