-- The bytes of a new ledger, the ways out of an opening, and those of the count.
use mathlib.Core.Path.{◌≡◌, refl, sym, ap, ◌∙◌}
use mathlib.Core.Bool.{true, false}
use mathlib.Core.List.{List, [], ◌∷◌, ◌++◌, append_assoc}
use Prim.Native.Nat.{ℕ, zero, suc, ◌+◌, ◌-◌, ◌*◌, ◌≤◌, ◌<◌}
use native.Mathlib.Omega.{arith}
use lib.IntN.{ℤ, pos, negsuc, ◌-ℤ◌}
use lib.ListN.{length, take, drop, replicate, length-append, length-drop, length-replicate, replicate-append-replicate}
use lib.Seq.{length-take-le}
use borrow.Author.Tests.{lt-ltb, le-ltb, ne_eqb}
use borrow.Rule.Slice.PartMut.{put_mid}
use mir.Syntax.{w32}
use mir.Val.{SFits, to_z, of_z}
use mir.Facts.{to_z-of_z}
use Rattle.numbers.specs.Fields.{nat_of}
use Rattle.rules.specs.declared.Node.{Node}
use Rattle.rules.specs.declared.Opening.{Opening}
use Rattle.rules.specs.Count.{unclaimed}
use Rattle.rules.specs.Limits.{max_nodes, opens}
use Rattle.rules.specs.Nodes.{blank, fresh}
use Rattle.rules.specs.Opening.{opened, ledger_of}
use Rattle.layout.specs.Sizes.{head_size, node_size, area_size}
use Rattle.layout.specs.Numbers.{four, fours, bits_of, written}
use Rattle.layout.specs.Areas.{decoded, encoded, head_bytes, node_fields, node_bytes, nodes_bytes}
use Rattle.layout.proofs.Fours.{fours-length}
use Rattle.layout.proofs.Whole.{node_length}
use Rattle.layout.proofs.Writing.{copied, written_length, written_on, written_front}
use Rattle.office_forms.specs.Codes.{formed_code}
use Rattle.office.specs.Calls.{count_of, opening_of, open_code, open_area}
use Rattle.office.proofs.Smalls.{Formed, passes, broken, short, formed}

-- ---- a new ledger

blank_bytes : (k : ℕ) → nodes_bytes (replicate k blank) ≡ replicate (node_size * k) 0
unfolding nodes_bytes node_bytes node_fields fours four bits_of
blank_bytes zero = refl
blank_bytes (suc k) =
    let e : node_size * suc k ≡ node_size + node_size * k = omega arith in
    rw (e, blank_bytes k) (replicate-append-replicate node_size (node_size * k) 0)

take_blank : (k z : ℕ) → k ≤ z → take k (replicate z blank) ≡ replicate k blank
take_blank zero z h = refl
take_blank (suc k) zero h = absurd (omega arith)
take_blank (suc k) (suc z) h = ap (blank ∷◌) (take_blank k z (omega arith))

-- a node and unused slots, at a number of them that is not computed
rows : (z m : ℕ) (x : Node) → 1 ≤ m → m ≤ z + 1 → nodes_bytes (take m (x ∷ replicate z blank)) ≡ node_bytes x ++ replicate (node_size * (m - 1)) 0
unfolding nodes_bytes
rows z zero x p q = absurd (omega arith)
rows z (suc k) x p q =
    let e : suc k - 1 ≡ k = omega arith in
    rw (e, take_blank k z (omega arith), blank_bytes k)

-- the five numbers of a new ledger
abbrev heads : ℕ → ℕ → ℕ → ℕ → List ℕ
heads a b t m = a ∷ b ∷ t ∷ m ∷ 1 ∷ []

new_bytes : (a b t m : ℕ) → 1 ≤ m → m ≤ max_nodes
    → encoded (opened a b t m) ≡ fours (heads a b t m) ++ (node_bytes (fresh a b) ++ replicate (node_size * (m - 1)) 0)
unfolding encoded head_bytes opened
new_bytes a b t m p q = ap (fours (heads a b t m) ++◌) (rows 1022 m (fresh a b) p q)

-- the slots after the root, up to the end
abbrev later : ℕ → ℕ
later m = area_size m - (head_size + node_size)

-- the numbers, the root and zeros over the slots after it, written one after the other
pub new_area : (bs : List ℕ) (a b t m : ℕ) {x : Node} {s1 s2 zs : List ℕ} → 1 ≤ m → m ≤ max_nodes → area_size m ≤ length bs
    → s1 ≡ written bs 0 (fours (heads a b t m))
    → x ≡ fresh a b
    → s2 ≡ written s1 head_size (node_bytes x)
    → zs ≡ replicate (length (take (later m) (drop (head_size + node_size) s2))) 0
    → put_mid (head_size + node_size) (later m) s2 zs ≡ encoded (opened a b t m) ++ drop (area_size m) bs
new_area bs a b t m {x} {s1} {s2} {zs} p q long e1 ex e2 ez =
    let k = node_size * (m - 1) in
    let hs = fours (heads a b t m) in
    let hl : length hs ≡ head_size = fours-length (heads a b t m) in
    let nl : length (node_bytes x) ≡ node_size = node_length x in
    let hn : length (hs ++ node_bytes x) ≡ head_size + node_size = length-append hs (node_bytes x) ∙ omega arith in
    let two : s2 ≡ written bs 0 (hs ++ node_bytes x) =
    e2 ∙ (ap (λ (d : List ℕ). written d head_size (node_bytes x)) e1 ∙ written_on bs 0 head_size hs (node_bytes x) (omega arith) (omega arith)) in
    let sized : length s2 ≡ length bs = ap length two ∙ written_length bs 0 (hs ++ node_bytes x) (omega arith) in
    let rest : length (take (later m) (drop (head_size + node_size) s2)) ≡ k =
    length-take-le (later m) (drop (head_size + node_size) s2) (omega (arith, length-drop (head_size + node_size) s2)) ∙ omega arith in
    let zeros : zs ≡ replicate k 0 = rw rest at ez in
    let size : length zs ≡ k = rw zeros (length-replicate k 0) in
    let three : put_mid (head_size + node_size) (later m) s2 zs ≡ written bs 0 ((hs ++ node_bytes x) ++ zs) =
    copied s2 zs (head_size + node_size) (later m) (omega arith)
    ∙ (ap (λ (d : List ℕ). written d (head_size + node_size) zs) two
    ∙ written_on bs 0 (head_size + node_size) (hs ++ node_bytes x) zs (omega arith) (omega arith)) in
    let all : length ((hs ++ node_bytes x) ++ zs) ≡ area_size m = length-append (hs ++ node_bytes x) zs ∙ omega arith in
    let same : (hs ++ node_bytes x) ++ zs ≡ encoded (opened a b t m) =
    append_assoc hs (node_bytes x) zs ∙ (rw (ex, zeros) (sym (new_bytes a b t m p q))) in
    three ∙ (written_front bs ((hs ++ node_bytes x) ++ zs) ∙ rw (all, same))

-- ---- the ways out of an opening

pub opening_held : (a b c d e : ℤ) → SFits w32 a → SFits w32 b → SFits w32 c → SFits w32 d → SFits w32 e
    → opening_of (to_z w32 (of_z w32 a)) (to_z w32 (of_z w32 b)) (to_z w32 (of_z w32 c)) (to_z w32 (of_z w32 d)) (to_z w32 (of_z w32 e)) ≡ opening_of a b c d e
opening_held a b c d e fa fb fc fd fe = rw (to_z-of_z fa, to_z-of_z fb, to_z-of_z fc, to_z-of_z fd, to_z-of_z fe)

module _ (bs : List ℕ) (o : Opening) where
  abbrev size : ℕ
  size = area_size (nat_of o.nodes)

  pub bad_code : opens o ≡ false → open_code bs o ≡ 20
  unfolding open_code
  bad_code e = rw e

  pub few_code : opens o ≡ true → length bs < size → open_code bs o ≡ 37
  unfolding open_code
  few_code e h = rw (e, lt-ltb (length bs) size h)

  pub good_code : opens o ≡ true → size ≤ length bs → open_code bs o ≡ 0
  unfolding open_code
  good_code e h = rw (e, le-ltb (length bs) size h)

  pub kept_area : (k : ℕ) → open_code bs o ≡ k → (k ≡ 0 → ⊥) → open_area bs o ≡ bs
  unfolding open_area
  kept_area k e ne = rw (e, ne_eqb k 0 ne)

  pub good_area : open_code bs o ≡ 0 → encoded (ledger_of o) ++ drop size bs ≡ open_area bs o
  unfolding open_area
  good_area e = rw e

-- ---- the count

pub count_given : (bs : List ℕ) → formed_code bs ≡ 0 → pos (unclaimed (decoded bs)) ≡ count_of bs
unfolding count_of
count_given bs e = rw e

count_refused : (bs : List ℕ) (k : ℕ) → formed_code bs ≡ suc k → negsuc k ≡ count_of bs
unfolding count_of
count_refused bs k e = let z : suc k - 1 ≡ k = omega arith in rw (e, ne_eqb (suc k) 0 (λ h. omega arith), z)

-- the code of a refusal, with a minus
pub minus_code : (bs : List ℕ) {n : ℕ} → n ≡ formed_code bs → (n ≡ 0 → ⊥) → to_z w32 (of_z w32 (pos 0 -ℤ to_z w32 n)) ≡ count_of bs
minus_code bs {n} is some = go (formed bs)
  where
    go : Formed bs → to_z w32 (of_z w32 (pos 0 -ℤ to_z w32 n)) ≡ count_of bs
    go (passes e q p) = absurd (some (is ∙ e))
    go (broken e q p) = rw (is ∙ e) (count_refused bs 0 e)
    go (short e p) = rw (is ∙ e) (count_refused bs 36 e)
