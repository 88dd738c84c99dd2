-- Small ledgers with the history that the function gives, and ledgers that W3's list of rules alone lets in.
use Rattle.std.specs.Prelude.{◌≡◌, ◌≢◌, true, false, List, [], ◌∷◌, ℕ, pos, negsuc, length, replicate}
use Rattle.rules.specs.declared.Finds.{Finds}
use Rattle.rules.specs.declared.Ledger.{Ledger}
use Rattle.rules.specs.declared.Request.{Request}
use Rattle.rules.specs.Asks.{own, advance, mark, expand, report, push}
use Rattle.rules.specs.Examples.{full}
use Rattle.rules.specs.Joining.{none, finds}
use Rattle.rules.specs.Limits.{slots_after}
use Rattle.rules.specs.Nodes.{UNREPORTED, PREPARED, PUSHED, make_node, blank}
use Rattle.rules.specs.Opening.{opening}
use Rattle.rules.specs.WellFormed.{Sized}
use Rattle.laws.specs.Listing.{reached}
use Rattle.reachable.specs.Earlier.{listed_rules, strengthened}
use Rattle.reachable.specs.History.{opening_for, history}
use Rattle.reachable.specs.Length.{longest}
use Rattle.reachable.specs.Replay.{Real, all_granted}

-- a ledger, and the history that it has
pub record Example : Type 0 where
  pub ledger : Ledger
  pub listed : List Request

abbrev pub example : Ledger → List Request → Example
example l rs = record { ledger = l; listed = rs }

-- its history ends in the ledger, each request of it is granted, and it is the one that is listed
pub record Replayed (x : Example) : Type 0 where
  pub ends : reached (opening_for x.ledger) (history x.ledger) ≡ x.ledger
  pub granted : all_granted (opening (opening_for x.ledger)).ledger (history x.ledger) ≡ true
  pub listed : history x.ledger ≡ x.listed

-- no reports: document 01's ledger of 0..8, split at 3, whose right child is STOLEN
abbrev pub stolen_right : Example
stolen_right =
    example
    full
    (own 1 1
    ∷ advance 1 1 (pos 0) 3
    ∷ mark 2 1 (pos 3)
    ∷ expand 1 1
    ∷ own 1 2
    ∷ own 2 3
    ∷ mark 1 3 (pos 5)
    ∷ [])

-- 0..9,000 of team 1, at its end in three batches, reported and pushed: no history of one node and this range is longer
abbrev pub three_batches : Example
three_batches =
    example
    (record {
      start = 0;
      until = 9000;
      teams = 1;
      room = 1;
      used = 1;
      nodes = make_node 0 9000 (pos 9000) 1 0 (finds 5 17 8999) (finds 5 17 8999) PUSHED ∷ replicate (slots_after 1) blank;
    })
    (own 1 1
    ∷ advance 1 1 (pos 0) 4096
    ∷ advance 1 1 (pos 4096) 4096
    ∷ advance 1 1 (pos 8192) 808
    ∷ report 1 1 5 17 8999
    ∷ push 1 1
    ∷ [])

-- 0..8, split at 3: the left part is STOLEN at 4 and prepared, the right part is prepared, and the root's report waits
abbrev pub waiting : Example
waiting =
    example
    (record {
      start = 0;
      until = 8;
      teams = 3;
      room = 6;
      used = 3;
      nodes =
          make_node 0 8 (negsuc 3) 3 2 none none UNREPORTED
          ∷ make_node 3 5 (negsuc 4) 2 0 (finds 1 4 4) none PREPARED
          ∷ make_node 5 8 (pos 8) 1 0 none none PREPARED
          ∷ replicate (slots_after 3) blank;
    })
    (own 3 1
    ∷ advance 3 1 (pos 0) 3
    ∷ mark 1 1 (pos 3)
    ∷ expand 1 1
    ∷ own 2 2
    ∷ advance 2 2 (pos 3) 1
    ∷ own 1 3
    ∷ advance 1 3 (pos 5) 3
    ∷ mark 1 2 (pos 4)
    ∷ report 2 2 1 4 4
    ∷ report 1 3 0 0 0
    ∷ [])

-- 0..3 of which the last sheet was stolen: its left part is empty and pushed by itself, its right part and the root are pushed
abbrev pub last_sheet_pushed : Example
last_sheet_pushed =
    example
    (record {
      start = 0;
      until = 3;
      teams = 2;
      room = 3;
      used = 3;
      nodes =
          make_node 0 3 (negsuc 2) 1 2 (finds 2 7 8) (finds 3 7 9) PUSHED
          ∷ make_node 2 2 (pos 2) 0 0 none none PUSHED
          ∷ make_node 2 3 (pos 3) 2 0 (finds 1 9 9) (finds 1 9 9) PUSHED
          ∷ replicate (slots_after 3) blank;
    })
    (own 1 1
    ∷ advance 1 1 (pos 0) 2
    ∷ mark 2 1 (pos 2)
    ∷ expand 1 1
    ∷ own 2 3
    ∷ advance 2 3 (pos 2) 1
    ∷ report 1 1 2 7 8
    ∷ report 2 3 1 9 9
    ∷ push 1 3
    ∷ push 1 1
    ∷ [])

-- The examples are as they say.
pub record Examples : Type 0 where
  pub stolen_right_lem : Replayed stolen_right
  pub three_batches_lem : Replayed three_batches
  pub as_long_as_any : length (history three_batches.ledger) ≡ longest three_batches.ledger
  pub still_waiting : Replayed waiting
  pub last_sheet_pushed_lem : Replayed last_sheet_pushed

-- ---- a history is one of many

-- document 01's ledger by smaller batches, another splitter and another order
abbrev pub small_batches : List Request
small_batches =
    own 1 1
    ∷ advance 1 1 (pos 0) 1
    ∷ advance 1 1 (pos 1) 2
    ∷ mark 2 1 (pos 3)
    ∷ expand 2 1
    ∷ own 2 3
    ∷ mark 1 3 (pos 5)
    ∷ own 1 2
    ∷ []

-- the ledger with reports that wait, where other teams steal and split, and each node is reported as soon as it has ended
abbrev pub other_teams : List Request
other_teams =
    own 3 1
    ∷ advance 3 1 (pos 0) 3
    ∷ mark 2 1 (pos 3)
    ∷ expand 3 1
    ∷ own 1 3
    ∷ advance 1 3 (pos 5) 3
    ∷ report 1 3 0 0 0
    ∷ own 2 2
    ∷ advance 2 2 (pos 3) 1
    ∷ mark 3 2 (pos 4)
    ∷ report 2 2 1 4 4
    ∷ []

-- the ledger that is all pushed, where team 2 pushes, and two pushes are refused on the way: of a node with no report, and of an empty one
abbrev pub two_refused : List Request
two_refused =
    own 1 1
    ∷ push 2 1
    ∷ advance 1 1 (pos 0) 2
    ∷ mark 2 1 (pos 2)
    ∷ report 1 1 2 7 8
    ∷ expand 2 1
    ∷ push 1 2
    ∷ own 2 3
    ∷ advance 2 3 (pos 2) 1
    ∷ report 2 3 1 9 9
    ∷ push 2 3
    ∷ push 2 1
    ∷ []

-- these requests end in the ledger, and are not the history that it has
pub record Another (l : Ledger) (rs : List Request) : Type 0 where
  pub ends : reached (opening_for l) rs ≡ l
  pub another : history l ≢ rs

-- A ledger does not tell which list it was: neither the batches, nor who stole, split and pushed, nor the order, nor what was refused.
pub record OtherHistories : Type 0 where
  pub small_batches_lem : Another stolen_right.ledger small_batches
  pub other_teams_lem : Another waiting.ledger other_teams
  pub two_refused_lem : Another last_sheet_pushed.ledger two_refused

-- ---- ledgers that nothing makes

-- an empty root of 5..5 with these results at this stage
abbrev pub empty_root : Finds → Finds → ℕ → Ledger
empty_root f g stage =
    record {
      start = 5;
      until = 5;
      teams = 2;
      room = 3;
      used = 1;
      nodes = make_node 5 5 (pos 5) 0 0 f g stage ∷ replicate (slots_after 1) blank;
    }

-- one of each stage: unreported, prepared, and pushed with finds that nobody reported
abbrev pub others : List Ledger
others =
    empty_root none none UNREPORTED
    ∷ empty_root (finds 4 1 2) none PREPARED
    ∷ empty_root (finds 4 1 2) (finds 4 1 2) PUSHED
    ∷ []

abbrev pub All : (Ledger → Type 0) → List Ledger → Type 0
All P [] = Unit {0}
All P (l ∷ ls) = P l × All P ls

-- the rule for empty nodes tells it apart
pub record ToldApart (l : Ledger) : Type 0 where
  pub apart : strengthened l ≡ false

-- W3's list of rules alone lets it in, and no list of requests ends in it
pub record LetIn (l : Ledger) : Type 0 where
  pub sized : Sized l
  pub listed : listed_rules l ≡ true
  pub unreal : Real l → ⊥

-- The strengthened rule keeps these out.
abbrev pub OthersKeptOut : Type 0
OthersKeptOut = All ToldApart others

-- The earlier rule let them in.
abbrev pub EarlierRuleLetInOthers : Type 0
EarlierRuleLetInOthers = All LetIn others
