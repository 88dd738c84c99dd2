-- "Twelve examples to prove together", in the document's order and letters. A progress `negsuc n` is −n−1.
use Rattle.std.specs.Prelude.{◌≡◌, List, [], ◌∷◌, ℕ, ℤ, pos, negsuc, take, replicate}
use Rattle.rules.specs.declared.Node.{Node}
use Rattle.rules.specs.declared.Ledger.{Ledger}
use Rattle.rules.specs.declared.Request.{Request}
use Rattle.rules.specs.declared.Answer.{Answer}
use Rattle.rules.specs.Asks.{own, advance, mark, expand}
use Rattle.rules.specs.Limits.{slots_after}
use Rattle.rules.specs.Joining.{none}
use Rattle.rules.specs.Nodes.{make_node, blank, stage_for, fresh}
use Rattle.rules.specs.Requests.{refused, ranged, split, requested}
use Rattle.rules.specs.Count.{counted}

-- ---- ledgers of two teams

-- a node of which nothing is reported
abbrev pub node : ℕ → ℕ → ℤ → ℕ → ℕ → Node
node a b p owner left = make_node a b p owner left none none (stage_for a b)

-- a ledger that has only its root, from 0, with an owner
abbrev pub rooted : ℕ → ℕ → ℤ → ℕ → Ledger
rooted room until p owner =
    record { start = 0; until = until; teams = 2; room = room; used = 1; nodes = node 0 until p owner 0 ∷ replicate (slots_after 1) blank }

-- the largest range, 0..2,147,483,647, at a progress of team 1
abbrev pub wide : ℤ → Ledger
wide p = rooted 7 2147483647 p 1

-- 0..8, split at 3: team 1 owns the left child, and the right one is STOLEN from team 2
abbrev pub full : Ledger
full =
    record {
      start = 0;
      until = 8;
      teams = 2;
      room = 5;
      used = 3;
      nodes = node 0 8 (negsuc 3) 1 2 ∷ node 3 5 (pos 3) 1 0 ∷ node 5 8 (negsuc 5) 2 0 ∷ replicate (slots_after 3) blank;
    }

-- ---- the examples

-- a ledger, how much of it is unclaimed, what is asked of it, the answer, and the nodes in use afterwards
pub record Example : Type 0 where
  pub ledger : Ledger
  pub rest : ℕ
  pub asked : Request
  pub answer : Answer
  pub nodes : List Node

abbrev pub example : Ledger → ℕ → Request → Answer → List Node → Example
example l rest r a nodes = record { ledger = l; rest = rest; asked = r; answer = a; nodes = nodes }

-- (a) range 0..0: unclaimed 0, own gives 6
abbrev pub example_a : Example
example_a = example (rooted 7 0 (pos 0) 0) 0 (own 1 1) (refused 6) (node 0 0 (pos 0) 0 0 ∷ [])

-- (b) owned 0..2,147,483,647, p 0, k 4,096: batch 0..4,096
abbrev pub example_b : Example
example_b = example (wide (pos 0)) 2147483647 (advance 1 1 (pos 0) 4096) (ranged 0 4096) (node 0 2147483647 (pos 4096) 1 0 ∷ [])

-- (c) position 2,147,483,645, until 2,147,483,647, k 4,096: batch ends at until
abbrev pub example_c : Example
example_c = example (wide (pos 2147483645)) 2 (advance 1 1 (pos 2147483645) 4096) (ranged 2147483645 2147483647) (node 0 2147483647 (pos 2147483647) 1 0 ∷ [])

-- (d) mark at 0 with two left: progress −1
abbrev pub example_d : Example
example_d = example (rooted 7 2 (pos 0) 1) 2 (mark 2 1 (pos 0)) (ranged 0 2) (node 0 2 (negsuc 0) 1 0 ∷ [])

-- (e) mark at 2,147,483,645 of (c): −2,147,483,646
abbrev pub example_e : Example
example_e = example (wide (pos 2147483645)) 2 (mark 2 1 (pos 2147483645)) (ranged 2147483645 2147483647) (node 0 2147483647 (negsuc 2147483645) 1 0 ∷ [])

-- (f) mark at 2,147,483,646 of (c): −2,147,483,647, since the last sheet too can be stolen
abbrev pub example_f : Example
example_f = example (wide (pos 2147483646)) 1 (mark 2 1 (pos 2147483646)) (ranged 2147483646 2147483647) (node 0 2147483647 (negsuc 2147483646) 1 0 ∷ [])

-- (g) expand, position 3, until 8: left 3..5, right 5..8
abbrev pub example_g : Example
example_g = example (rooted 7 8 (negsuc 3) 1) 5 (expand 2 1) (split 2 5) (node 0 8 (negsuc 3) 1 2 ∷ fresh 3 5 ∷ fresh 5 8 ∷ [])

-- (h) nodes 2: mark, otherwise good, gives 14
abbrev pub example_h : Example
example_h = example (rooted 2 5 (pos 0) 1) 5 (mark 2 1 (pos 0)) (refused 14) (node 0 5 (pos 0) 1 0 ∷ [])

-- (i) nodes 5, used 3, one STOLEN: mark gives 14
abbrev pub example_i : Example
example_i = example full 5 (mark 2 2 (pos 3)) (refused 14) (take 3 full.nodes)

-- (j) owner's advance after a mark, that of (d): 9
abbrev pub example_j : Example
example_j = example (rooted 7 2 (negsuc 0) 1) 2 (advance 1 1 (pos 0) 1) (refused 9) (node 0 2 (negsuc 0) 1 0 ∷ [])

-- (k) advance, amount 0, not the owner: 7
abbrev pub example_k : Example
example_k = example (rooted 7 5 (pos 0) 1) 5 (advance 2 1 (pos 0) 0) (refused 7) (node 0 5 (pos 0) 1 0 ∷ [])

-- (l) owner marks its own STOLEN node: 12
abbrev pub example_l : Example
example_l = example (rooted 7 2 (negsuc 0) 1) 2 (mark 1 1 (pos 0)) (refused 12) (node 0 2 (negsuc 0) 1 0 ∷ [])

abbrev pub examples : List Example
examples =
    example_a
    ∷ example_b
    ∷ example_c
    ∷ example_d
    ∷ example_e
    ∷ example_f
    ∷ example_g
    ∷ example_h
    ∷ example_i
    ∷ example_j
    ∷ example_k
    ∷ example_l
    ∷ []

-- the example is as it says
pub record Right (x : Example) : Type 0 where
  pub unclaimed : counted x.ledger ≡ record { code = 0; count = x.rest }
  pub answered : (requested x.ledger x.asked).answer ≡ x.answer
  pub afterwards : take (requested x.ledger x.asked).ledger.used (requested x.ledger x.asked).ledger.nodes ≡ x.nodes

-- and so is each of a list
abbrev pub AllRight : List Example → Type 0
AllRight [] = Unit {0}
AllRight (x ∷ xs) = Right x × AllRight xs
