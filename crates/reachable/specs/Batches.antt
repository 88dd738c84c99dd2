-- The batches by which a team comes from one position to another: as large as they may be, and as few as that takes.
use Rattle.std.specs.Prelude.{ℕ, zero, suc, ◌+◌, ◌-◌, ◌/◌, min, List, [], ◌∷◌, pos}
use Rattle.rules.specs.declared.Request.{Request}
use Rattle.rules.specs.Asks.{advance}
use Rattle.rules.specs.Limits.{max_amount}

-- the next batch on the way from p to q
unfoldable pub batch_size : ℕ → ℕ → ℕ
batch_size p q = min max_amount (q - p)

-- how many there are on that way: q − p divided by 4,096, rounded up
unfoldable pub batch_count : ℕ → ℕ → ℕ
batch_count p q = (q - p + (max_amount - 1)) / max_amount

-- the first k of them, claimed of node n by team t
unfoldable pub claims : ℕ → ℕ → ℕ → ℕ → ℕ → List Request
claims zero t n p q = []
claims (suc k) t n p q = advance t n (pos p) (batch_size p q) ∷ claims k t n (p + batch_size p q) q
