-- What holds of the ledger and the records of a run, and what a step makes of them: the laws of the loop over the schedule.
use mathlib.Core.Path.{◌≡◌, refl, sym, ap, ◌∙◌}
use mathlib.Core.Bool.{Bool, true, false, cond}
use mathlib.Core.List.{List, [], ◌∷◌, ◌++◌, append_assoc, append-nil}
use Prim.Native.Nat.{ℕ, ◌+◌, ◌≤◌, ◌<◌}
use native.Mathlib.Omega.{arith}
use native.Mathlib.Decide.{dec_le}
use lib.IntN.{ℤ, pos}
use lib.ListN.{length, get_or, set, take, replicate}
use lib.Seq.{take-suc, set-get_or}
use native.Mathlib.Numerals.{add-one}
use Rattle.numbers.specs.Fields.{nat_of, within}
use Rattle.numbers.proofs.Laws.{within_true}
use Rattle.rules.specs.declared.Node.{Node}
use Rattle.rules.specs.declared.Ledger.{Ledger}
use Rattle.rules.specs.declared.Opening.{Opening}
use Rattle.rules.specs.declared.Opened.{Opened}
use Rattle.rules.specs.declared.View.{View}
use Rattle.rules.specs.declared.Change.{Change}
use Rattle.rules.specs.Limits.{opens, max_cap, max_teams, max_program}
use Rattle.rules.specs.Nodes.{blank}
use Rattle.rules.specs.States.{stolen_of}
use Rattle.rules.specs.Requests.{view, alone, changed}
use Rattle.rules.specs.Table.{at, next_pair, stolen_in}
use Rattle.rules.proofs.Changed.{Changes, keeps, changes}
use Rattle.rules.specs.Opening.{opening, ledger_of}
use Rattle.rules.proofs.Opens.{opened_wf, opened_root}
use Rattle.rules.proofs.Nodes.{at_next}
use Rattle.rules.proofs.Sums.{sum_by-zero}
use Rattle.rules.proofs.Record.{WF, used_high}
use Rattle.rules.proofs.States.{fresh_none, blank_none}
use Rattle.steps.specs.declared.Team.{Team}
use Rattle.steps.specs.declared.Turned.{Turned}
use Rattle.steps.specs.Records.{program_of, fresh_team, no_team, is_stopped}
use Rattle.steps.specs.Step.{slot_of, record_of, lent_code, lent_step, step_unless, records_after}
use Rattle.steps.specs.Turn.{asks, moves, still, turning, turned, carried}
use Rattle.steps.specs.Run.{Run, step_team, run_steps}
use Rattle.steps.proofs.Fits.{Fit}
use Rattle.steps.proofs.Runs.{opened_used}
use Rattle.steps.proofs.Turns.{Moving, turn_moves, turn_alone, step_turn, asks_node}
use Rattle.places.specs.Clipped.{Limited}
use Rattle.teams.specs.Clipped.{clipped_turn, Ready}
use Rattle.teams.proofs.Laws.{in_limits, unclipped_turn}
use Rattle.listing_rules.specs.Steps.{run_with, run_from, step_line, note_of, notes}
use Rattle.ledger.specs.Table.{slot_for, node_for, view_by}
use Rattle.listing.specs.Table.{stolen_after}
use Rattle.ledger.specs.Slots.{Stores}
use Rattle.ledger.proofs.Reading.{node_is, view-is}
use Rattle.ledger.proofs.Slots.{in_limits as stores_in}
use Rattle.listing.proofs.Counting.{counts}
use Rattle.listing_rules.proofs.Runs.{Begun, Here, here}

-- the limits that a step's code counts on
module _ (l : Ledger) (w : WF l) (number : ℕ) (r : Team) (cap : ℕ) (fit : Fit cap l.used r) where
  ready : number ≤ l.teams → cap ≤ max_cap → Ready number r (alone (view l r.node))
  ready high small =
      let limited : Limited number r =
      record {
        number_high = omega (arith, w.limits.teams_high);
        node_high = omega (arith, fit.high, used_high l w);
        size_high = omega (arith, fit.most);
      } in
      let seen = in_limits l w number r r.node limited in
      record { limited = limited; left_high = seen.left_high; pair_high = seen.pair_high }

-- ---- a turn of a team

module _ (number cap : ℕ) (l : Ledger) (r : Team) where
  abbrev turn : Turned
  turn = turned number cap r (view l r.node)

  abbrev turn_by : Bool → Turned
  turn_by stopped = cond stopped (still r) (turning (view l r.node) (asks number r) (moves number cap r))

  pub turn_changes : Changes l r.node turn.change
  unfolding turned
  turn_changes = go (is_stopped r.place) refl
    where
      go : (b : Bool) → is_stopped r.place ≡ b → Changes l r.node (turn_by b).change
      go true e = keeps
      go false e = rw (asks_node number r e) at (changes l (asks number r))

  -- the node that is changed is that of the record
  turn_node : changed l turn.node turn.change ≡ changed l r.node turn.change
  unfolding turned
  turn_node = go (is_stopped r.place) refl
    where
      go : (b : Bool) → is_stopped r.place ≡ b → changed l (turn_by b).node (turn_by b).change ≡ changed l r.node (turn_by b).change
      go true e = unfold changed in refl
      go false e = rw (asks_node number r e)

-- ---- a step

module _ (cap : ℕ) (l : Ledger) (w : WF l) (rs : List Team) (number : ℤ) (passes : lent_code l number (pos cap) rs ≡ 0) where
  abbrev t : Turned
  t = turn (nat_of number) cap l (record_of rs number)

  lent_is : lent_step l number (pos cap) rs ≡ carried l t
  unfolding lent_step step_unless
  lent_is = rw passes (step_turn (nat_of number) cap l w (record_of rs number))

  pub step_is : step_team (pos cap) (run_with l rs) number
      ≡ run_with (changed l (record_of rs number).node t.change) (set rs (slot_of number) t.team)
  unfolding step_team records_after
  step_is = rw (lent_is, turn_node (nat_of number) cap l (record_of rs number))

  pub note_is : step_line number (lent_step l number (pos cap) rs) ≡ note_of number t.kind t.node t.answer
  note_is = rw lent_is

-- ---- a run one step longer

run_append : (cap : ℤ) (u : Run) (s t : List ℤ) → run_from cap u (s ++ t) ≡ run_from cap (run_from cap u s) t
unfolding run_steps
run_append cap u [] t = refl
run_append cap u (n ∷ s) t = run_append cap (step_team cap u n) s t

notes_append : (cap : ℤ) (u : Run) (s t : List ℤ) → notes cap u (s ++ t) ≡ notes cap u s ++ notes cap (run_from cap u s) t
unfolding run_steps notes
notes_append cap u [] t = refl
notes_append cap u (n ∷ s) t = rw (notes_append cap (step_team cap u n) s t) (simp append_assoc)

module _ (cap : ℤ) (u : Run) (s : List ℤ) (i : ℕ) (less : i < length s) where
  abbrev team : ℤ
  team = get_or s i (pos 0)

  abbrev sofar : Run
  sofar = run_from cap u (take i s)

  pub run_more : run_from cap u (take (i + 1) s) ≡ step_team cap sofar team
  run_more = rw (add-one, take-suc s i (pos 0) less, run_append) (unfold run_steps in refl)

  pub notes_more : notes cap u (take (i + 1) s) ≡ notes cap u (take i s) ++ step_line team (lent_step sofar.ledger team cap sofar.records)
  notes_more = rw (add-one, take-suc s i (pos 0) less, notes_append) (unfold notes in (rw append-nil))

-- ---- the loop's step

-- the table and the records after a step, and the STOLEN count k
pub record Goes (cap : ℕ) (u : Run) (s : List ℤ) (next : Ledger) (rs : List Team) (k : ℕ) : Type 0 where
  pub count : k ≡ stolen_in next
  pub run : run_with next rs ≡ run_from (pos cap) u s

-- what the change of node n makes is that, and it is stored within the table
pub record Made (cap : ℕ) (u : Run) (s : List ℤ) (l : Ledger) (rs : List Team) (n stolen : ℕ) (c : Change) : Type 0 where
  pub goes : Goes cap u s (changed l n c) rs (stolen_after stolen c)
  pub inside : Stores l n c

module _ {o : Opening} {program cap : ℕ} {u : Run} (b : Begun o program cap u) (s : List ℤ) (i : ℕ) (less : i < length s) (l : Ledger) (rs : List Team)
    (inv : run_with l rs ≡ run_from (pos cap) u (take i s)) (mine : within (get_or s i (pos 0)) 1 (nat_of o.teams) ≡ true) where
  abbrev number : ℤ
  number = get_or s i (pos 0)

  abbrev pub taken : Turned
  taken = turn (nat_of number) cap l (record_of rs number)

  stand : Here o cap l rs
  stand = here b (take i s) l rs inv

  -- the team has a record
  pub seat_inside : slot_of number < max_teams
  seat_inside =
      let h = within_true number 1 (nat_of o.teams) mine in
      let w = stand.wf in
      omega (arith, h.low, h.high, stand.teams_are, w.limits.teams_high)

  pub next_run : run_with (changed l (record_of rs number).node taken.change) (set rs (slot_of number) taken.team) ≡ run_from (pos cap) u (take (i + 1) s)
  next_run = rw (run_more (pos cap) u s i less, ← inv) (sym (step_is cap l stand.wf rs number (stand.passes number mine)))

  pub next_notes : notes (pos cap) u (take i s) ++ note_of number taken.kind taken.node taken.answer ≡ notes (pos cap) u (take (i + 1) s)
  next_notes = rw (notes_more (pos cap) u s i less, ← inv, note_is cap l stand.wf rs number (stand.passes number mine))

  -- a team that has stopped stays, and has no line
  pub rests : is_stopped (record_of rs number).place ≡ true
      → (run_with l rs ≡ run_from (pos cap) u (take (i + 1) s)) × (notes (pos cap) u (take (i + 1) s) ≡ notes (pos cap) u (take i s))
  unfolding turned changed note_of
  rests e =
      let still-is : taken ≡ still (record_of rs number) = rw e in (
        ap (λ (ts : List Team). run_with l ts) (sym (set-get_or rs (slot_of number) no_team)) ∙ rw still-is at next_run,
        sym (rw (still-is, append-nil) at next_notes),
      )

  -- the turn that the code takes is the step's
  pub taken_is : (slot place stolen pair k : ℕ) (x : Node) (v : View) (t : Turned)
      → slot ≡ slot_of number
      → place ≡ slot_for (get_or rs slot no_team).node
      → stolen ≡ stolen_in l
      → pair ≡ next_pair l
      → x ≡ node_for (get_or rs slot no_team).node (get_or l.nodes place blank)
      → v ≡ view_by l.teams l.room l.used stolen pair x
      → k ≡ nat_of number
      → t ≡ clipped_turn k cap (get_or rs slot no_team) v
      → t ≡ taken
  taken_is slot place stolen pair k x v t es ep ec eq ex ev ek et =
      let w = stand.wf in
      let r : Team = record_of rs number in
      let n : ℕ = r.node in
      let h = within_true number 1 (nat_of o.teams) mine in
      let node : x ≡ at l n = ex ∙ rw (ep, es) (node_is l n w.slots) in
      let seen : v ≡ alone (view l n) = ev ∙ view-is l n stolen pair x ec eq node in
      let good : Ready k (get_or rs slot no_team) v =
      rw (ek, es, seen) (ready l w (nat_of number) r cap (stand.fits number mine) (omega (arith, h.high, stand.teams_are)) stand.small) in
      et ∙ unclipped_turn _ _ _ _ good ∙ rw (ek, es, seen) (turn_alone (nat_of number) cap (record_of rs number) (view l (record_of rs number).node))

  pub made : (slot stolen : ℕ) (t : Turned) → slot ≡ slot_of number → stolen ≡ stolen_in l → t ≡ taken
      → Made cap u (take (i + 1) s) l (set rs slot t.team) (get_or rs slot no_team).node stolen t.change
  made slot stolen t es ec et =
      let r : Team = record_of rs number in
      let c : Changes l r.node taken.change = turn_changes (nat_of number) cap l r in
      -- no step reports or pushes
      let moving : Moving taken.change = turn_moves (nat_of number) cap r (view l r.node) in
      rw
      (et, es, ec)
      (record { goes = record { count = counts l stand.wf r.node c moving; run = next_run }; inside = stores_in l stand.wf r.node c })

-- ---- before the loop

pub begun_with : (o : Opening) (program cap : ℕ) (d : Opened) (rs : List Team)
    → opens o ≡ true
    → program ≤ max_program
    → cap ≡ nat_of o.cap
    → d ≡ opening o
    → rs ≡ replicate max_teams (fresh_team (program_of program))
    → Begun o program cap (run_with d.ledger rs)
unfolding opening
begun_with o program cap d rs ok known ec ed er = record { ok = ok; known = known; cap_is = ec; start_is = rw (ed, ok, er) }

pub none_stolen : (o : Opening) (program cap : ℕ) (l : Ledger) (rs : List Team) → Begun o program cap (run_with l rs) → ◌≡◌ {A = ℕ} 0 (stolen_in l)
unfolding stolen_in
none_stolen o program cap l rs b =
    let e : l ≡ ledger_of o = ap (λ (u : Run). u.ledger) b.start_is in
    rw e (sym (sum_by-zero stolen_of (ledger_of o).nodes blank (λ i h. rw (← at_next (ledger_of o) i) (go i (dec_le (i + 1) 1)))))
  where
    go : (i : ℕ) → Dec (i + 1 ≤ 1) → stolen_of (at (ledger_of o) (i + 1)) ≡ 0
    go i (yes h) =
        let z : i + 1 ≡ 1 = omega arith in
        rw (z, opened_root (nat_of o.start) (nat_of o.until) (nat_of o.teams) (nat_of o.nodes)) (fresh_none (nat_of o.start) (nat_of o.until))
    go i (no h) = rw ((opened_wf o b.ok).blank (i + 1) (omega (arith, opened_used o))) blank_none
