-- A node on its way: as it was made, worked on up to its position, and complete but for its report.
use mathlib.Core.Path.{◌≡◌, refl, sym, ◌∙◌}
use mathlib.Core.Bool.{true, false, true≢false}
use Prim.Native.Nat.{ℕ}
use lib.IntN.{ℤ, pos, negsuc}
use Rattle.numbers.specs.Progress.{negative, position}
use Rattle.rules.specs.declared.Node.{Node}
use Rattle.rules.specs.Examples.{node}
use Rattle.rules.specs.Nodes.{fresh, marked, position_of}
use Rattle.rules.specs.States.{stolen_of}
use Rattle.rules.proofs.States.{stolen_by}

-- as it was made
abbrev pub made : Node → Node
made x = fresh x.start x.until

-- worked on up to its position, and not stolen
abbrev pub worked : Node → Node
worked x = node x.start x.until (pos (position_of x)) x.owner 0

-- stolen, and not split
abbrev pub robbed : Node → Node
robbed x = node x.start x.until (negsuc (position_of x)) x.owner 0

-- complete, but nothing is reported of it
abbrev pub bare : Node → Node
bare x = node x.start x.until x.progress x.owner x.left

-- ---- a progress is its position, or the mark of it

pub is_mark : (z : ℤ) → negative z ≡ true → negsuc (position z) ≡ z
is_mark (pos n) e = absurd (true≢false (sym e))
is_mark (negsuc n) e = refl

pub is_position : (z : ℤ) → negative z ≡ false → pos (position z) ≡ z
is_position (pos n) e = refl
is_position (negsuc n) e = absurd (true≢false e)

-- ---- where these are the same

node_with : (a b o c d : ℕ) (p q : ℤ) → p ≡ q → c ≡ d → node a b p o c ≡ node a b q o d
node_with a b o c d p q e f = rw (e, f)

pub unmarked_bare : (x : Node) → marked x ≡ false → x.left ≡ 0 → worked x ≡ bare x
unmarked_bare x plain leaf = node_with _ _ _ _ _ _ _ (is_position x.progress plain) (sym leaf)

pub marked_bare : (x : Node) → marked x ≡ true → x.left ≡ 0 → robbed x ≡ bare x
marked_bare x mark leaf = node_with _ _ _ _ _ _ _ (is_mark x.progress mark) (sym leaf)

idle : (a b o : ℕ) (z : ℤ) → o ≡ 0 → z ≡ pos a → fresh a b ≡ node a b (pos (position z)) o 0
idle a b o z e f = rw (e, f)

pub unowned_made : (x : Node) → x.owner ≡ 0 → x.progress ≡ pos x.start → made x ≡ worked x
unowned_made x nobody still = idle x.start x.until x.owner x.progress nobody still

-- a report does not make a node STOLEN
pub bare_stolen : (x : Node) → stolen_of (bare x) ≡ stolen_of x
bare_stolen x = stolen_by (bare x) ∙ sym (stolen_by x)
