-- How long a history is, read off the ledger: the requests that each node shows.
use Rattle.std.specs.Prelude.{ℕ, ◌+◌, ◌-◌, ◌*◌, ◌/◌, Bool, cond}
use Rattle.rules.specs.declared.Node.{Node}
use Rattle.rules.specs.declared.Ledger.{Ledger}
use Rattle.rules.specs.Limits.{max_amount}
use Rattle.rules.specs.Nodes.{marked, unowned, childless, position_of}
use Rattle.rules.specs.Table.{sum_by}
use Rattle.reachable.specs.Batches.{batch_count}
use Rattle.reachable.specs.Work.{has_report, was_pushed}

abbrev pub one_if : Bool → ℕ
one_if b = cond b 1 0

-- the owner's requests, a mark, a split, a report and a push
unfoldable pub work_count : Node → ℕ
work_count x = cond (unowned x) 0 (1 + batch_count x.start (position_of x))

unfoldable pub split_count : Node → ℕ
split_count x = cond (childless x) 0 1

unfoldable pub request_count : Node → ℕ
request_count x = work_count x + one_if (marked x) + split_count x + (one_if (has_report x) + one_if (was_pushed x))

-- all nodes' requests. An unused slot shows none
unfoldable pub worth : Ledger → ℕ
worth l = sum_by request_count l.nodes

-- Besides its full batches a node with children shows six requests at most: take, the last batch, mark, split, report, push. One without shows
-- four, since what is marked and not split is not pushed. Of n nodes in use one more has no children than has some, so these are 5 × n − 1.
abbrev pub per_node : ℕ
per_node = 5

-- a full batch is one request for 4,096 sheets of the range
abbrev pub longest : Ledger → ℕ
longest l = (l.until - l.start) / max_amount + per_node * l.used - 1
