-- The statements of specs/Demands.antt, proved.
use Prim.Native.Nat.{ℕ, zero, suc, ◌<◌, ◌≤◌}
use mathlib.Core.Logic.{◌≢◌}
use mathlib.Core.Path.{◌≡◌, refl, ap, ◌∙◌}
use mathlib.Core.Bool.{Bool, true, false, cond, ◌&&◌}
use mathlib.Core.List.{List}
use native.Mathlib.Numerals.{add-one}
use native.Mathlib.Decide.{dec_lt}
use native.Mathlib.Omega.{arith}
use borrow.Author.Tests.{lt-ltb, le-leb, leb-true, eq-eqb, ne_eqb}
use lib.Dec.{leb}
use lib.ListN.{length, set}
use lib.Seq.{take-append_seam, get_or-set_same, get_or-set_other}
use Rattle.std.specs.Prelude.{IfSome, None}
use Rattle.rules.specs.declared.Ledger.{Ledger}
use Rattle.rules.specs.WellFormed.{well_formed, Sized, Sound}
use Rattle.rules.proofs.Facts.{both}
use Rattle.rules.specs.declared.Opening.{Opening}
use Rattle.rules.specs.declared.Request.{Request}
use Rattle.laws.specs.Listed.{listed}
use Rattle.laws.specs.Listing.{reached, batches}
use Rattle.rules.specs.Opening.{opening, ledger_of}
use Rattle.laws.proofs.Listed.{listed_lists}
use Rattle.laws.proofs.Runs.{run_good}
use Rattle.rules.proofs.Opens.{begun, opened_wf}
use Rattle.rules.proofs.Record.{WF, rules, both_sound, sound, root_used}
use Rattle.laws.proofs.Sheets.{every_sheet_once}
use Rattle.sheet_order.specs.declared.Piece.{Piece}
use Rattle.sheet_order.specs.declared.Pieces.{Pieces}
use Rattle.sheet_order.specs.Row.{most, no_piece, row, empty, told, with_piece, with_all, kept}
use Rattle.sheet_order.specs.Order.{Readable, most_nodes, granted_to, sheets_of, root_pieces, small, in_order, answered, history}
use Rattle.sheet_order.specs.Demands.{ReadsListing, ReadsSmall, NotesGrant, ReadsEverySheet}
use Rattle.sheet_order.proofs.Row.{filled}
use Rattle.sheet_order.proofs.Order.{some_piece, sheets-listed}

-- ---- the answer

told_row : (t : Bool) (ps : List Piece) → 0 < (cond t (row ps) empty).count → told (cond t (row ps) empty) ≡ ps
unfolding row
told_row true ps h = take-append_seam ps _
told_row false ps h = absurd (omega arith)

pub reads_listing : ReadsListing
unfolding in_order
reads_listing l g h =
    ap sheets_of (told_row (small l g && leb (length (root_pieces l g)) most) (root_pieces l g) h)
    ∙ sheets-listed l.used l (granted_to g.items g.count) 1

module _ (l : Ledger) (g : Pieces) where
  -- what the answer tells where there is one
  pub answer_reads : IfSome (answered (in_order l g)) (λ r. sheets_of (told r) ≡ listed l.used l (history g) 1)
  answer_reads = go (in_order l g) (dec_lt 0 (in_order l g).count) (reads_listing l g)
    where
      go : (r : Pieces)
          → Dec (0 < r.count)
          → (0 < r.count → sheets_of (told r) ≡ listed l.used l (history g) 1)
          → IfSome (answered r) (λ r. sheets_of (told r) ≡ listed l.used l (history g) 1)
      go r (yes h) reads = let ne : r.count ≢ 0 = λ z. omega arith in rw (ne_eqb r.count 0 ne) (reads h)
      go r (no h) reads = rw (eq-eqb r.count 0 (omega arith)) tt

  pub small_is : well_formed l ≡ true → l.used ≤ most_nodes → g.count ≤ most → small l g ≡ true
  unfolding small
  small_is e h k = rw (e, le-leb l.used most_nodes h, le-leb g.count most k)

  pub root_readable : Sized l → small l g ≡ true → Readable l g 1
  unfolding small
  root_readable sized e =
      let h = (both (well_formed l) _).0 e in
      let s : Sound l = both_sound sized h.0 in
      let k = (both (leb l.used most_nodes) _).0 h.1 in
      record {
        sound = s;
        grants = leb-true g.count most k.1;
        used = root_used l (rules l s);
      }

  pub small_answer : Sized l → small l g ≡ true → kept (with_all empty (root_pieces l g)) ≡ answered (in_order l g)
  unfolding in_order
  small_answer sized e =
      let w = rules l (root_readable sized e).sound in
      rw e (filled (root_pieces l g) (some_piece l (granted_to g.items g.count) w))

  pub large_answer : small l g ≡ false → None ≡ answered (in_order l g)
  unfolding in_order
  large_answer e = rw e

pub reads_small : ReadsSmall
unfolding in_order row
reads_small l g sized e fits =
    let r = root_readable l g sized e in
    let w = rules l r.sound in
    rw
    (e, le-leb (length (root_pieces l g)) most fits)
    (some_piece l (granted_to g.items g.count) w)

-- ---- a grant more

-- what was granted before a slot does not change with it
earlier : (ps : List Piece) (i k : ℕ) (p : Piece) → k ≤ i → granted_to (set ps i p) k ≡ granted_to ps k
unfolding granted_to
earlier ps i zero p h = refl
earlier ps i (suc k) p h =
    let other : k ≢ i = λ e. omega arith in
    rw (get_or-set_other ps i k p no_piece other, earlier ps i k p (omega arith))

pub notes_grant : NotesGrant
unfolding with_piece granted_to
notes_grant g p slots h =
    let room : g.count < length g.items = omega arith in
    rw
    (lt-ltb g.count most h, add-one g.count, get_or-set_same g.items g.count p no_piece room, earlier g.items g.count g.count p (omega arith))

-- ---- after any requests

reached_wf : (o : Opening) (rs : List Request) → (opening o).code ≡ 0 → WF (reached o rs)
reached_wf o rs c = let b = begun o c in rw b.ledger (run_good (ledger_of o) rs (opened_wf o b.good))

pub reads_every_sheet : ReadsEverySheet
reads_every_sheet o rs g c e h =
    let l = reached o rs in
    let w = reached_wf o rs c in
    reads_listing l g h
    ∙ rw e ((every_sheet_once o rs c).only _ (listed_lists l (batches (opening o).ledger rs) (sound l w)))
