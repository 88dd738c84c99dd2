-- The statements of specs/Demands, proved.
use mathlib.Core.Path.{◌≡◌, ap, ◌∙◌}
use mathlib.Core.Bool.{true}
use Prim.Native.Nat.{ℕ}
use native.Mathlib.Omega.{arith}
use Rattle.rules.specs.declared.Ledger.{Ledger}
use Rattle.rules.specs.declared.Opened.{Opened}
use Rattle.rules.specs.Limits.{opens}
use Rattle.rules.specs.Opening.{opened, opening, ledger_of}
use Rattle.rules.specs.WellFormed.{well_formed}
use Rattle.rules.proofs.Facts.{both}
use Rattle.rules.proofs.Opens.{opened_wf, begun}
use Rattle.rules.proofs.Record.{WF, rules, sound, both_sound}
use Rattle.laws.specs.Listing.{after_all, reached}
use Rattle.laws.proofs.Runs.{run_good, run_range}
use Rattle.reachable.specs.Demands.{WellFormedMeansReal, ListsKeepWellFormed, HistoryEndsHere, OneOpening, HistoryIsGranted, HistoryHasNoMore, HistoryIsShort, StrengthenedMeansReal}
use Rattle.reachable.specs.History.{opening_for, history}
use Rattle.reachable.specs.Replay.{all_granted}
use Rattle.reachable.proofs.Bound.{worth_most}
use Rattle.reachable.proofs.Earlier.{strengthened_by_empty_nodes}
use Rattle.reachable.proofs.Ends.{opened-worth, stretch_history}

-- ---- the first half

pub lists_keep_well_formed : ListsKeepWellFormed
lists_keep_well_formed o rs e =
    let b = begun o e in
    let new : WF (opening o).ledger = rw b.ledger (opened_wf o b.good) in
    sound (after_all (opening o).ledger rs) (run_good (opening o).ledger rs new)

-- ---- the second half

-- a well-formed ledger's numbers are within an opening's limits
limits_open : (l : Ledger) → well_formed l ≡ true → opens (opening_for l) ≡ true
unfolding well_formed
limits_open l e = ((both _ _).0 ((both _ _).0 e).0).0

opening_is : (l : Ledger) → well_formed l ≡ true → opening (opening_for l) ≡ record { code = 0; ledger = ledger_of (opening_for l) }
unfolding opening
opening_is l e = rw (limits_open l e)

pub history_ends_here : HistoryEndsHere
history_ends_here l s =
    let is = opening_is l s.formed in
    record {
      opens = ap (λ (o : Opened). o.code) is;
      ends = ap (λ (o : Opened). after_all o.ledger (history l)) is ∙ (stretch_history l (rules l s)).leads.goes;
    }

-- requests keep the numbers of an opening
opened_same : (a a' b b' t t' r r' : ℕ) → a ≡ a' → b ≡ b' → t ≡ t' → r ≡ r' → opened a b t r ≡ opened a' b' t' r'
opened_same a a' b b' t t' r r' e f g h = rw (e, f, g, h)

pub one_opening : OneOpening
one_opening o rs e =
    let b = begun o e in
    let s = lists_keep_well_formed o rs e in
    let new : WF (opening o).ledger = rw b.ledger (opened_wf o b.good) in
    let k = rw b.ledger at (run_range (opening o).ledger rs new) in
    ap (λ (p : Opened). p.ledger) (opening_is (reached o rs) s.formed)
    ∙ rw b.ledger (unfold opened in (opened_same _ _ _ _ _ _ _ _ k.start k.until k.teams k.room))

pub history-is_granted : HistoryIsGranted
history-is_granted l s =
    ap (λ (o : Opened). all_granted o.ledger (history l)) (opening_is l s.formed) ∙ (stretch_history l (rules l s)).leads.granted

-- ---- its length

pub history_has_no_more : HistoryHasNoMore
history_has_no_more l s =
    omega (arith, (stretch_history l (rules l s)).adds, opened-worth l.start l.until l.teams l.room)

pub history_is_short : HistoryIsShort
history_is_short l s = omega (arith, history_has_no_more l s, worth_most l (rules l s))

-- ---- the theorem

pub well_formed_means_real : WellFormedMeansReal
well_formed_means_real l sized = (
  (λ e.
      let h = history_ends_here l (both_sound sized e) in
      record { begun = opening_for l; asked = history l; opens = h.opens; ends = h.ends }),
  (λ r. rw r.ends at (lists_keep_well_formed r.begun r.asked r.opens).formed),
)

pub strengthened_means_real : StrengthenedMeansReal
strengthened_means_real l sized = rw (strengthened_by_empty_nodes l) (well_formed_means_real l sized)
