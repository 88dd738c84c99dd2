-- The lines of a run are no longer than the longest line, so that those of so many steps have room.
use mathlib.Core.Path.{◌≡◌}
use mathlib.Core.Bool.{Bool, true, false, cond}
use mathlib.Core.List.{List, ◌∷◌}
use Prim.Native.Nat.{ℕ, ◌+◌, ◌*◌, ◌≤◌, ◌<◌}
use native.Mathlib.Omega.{arith}
use lib.IntN.{ℤ, pos}
use lib.ListN.{length, get_or}
use Rattle.numbers.specs.Fields.{nat_of, within}
use Rattle.rules.specs.declared.Ledger.{Ledger}
use Rattle.rules.specs.declared.Opening.{Opening}
use Rattle.rules.specs.Limits.{opens, max_until, max_teams, max_program}
use Rattle.laws.specs.Listing.{batches}
use Rattle.rules.proofs.Counting.{at_most}
use Rattle.rules.proofs.Opens.{opens_facts}
use Rattle.steps.specs.declared.Team.{Team}
use Rattle.steps.specs.Run.{Run, stopped_teams}
use Rattle.line_rules.specs.Line.{Line, open_line, open_with_line, text}
use Rattle.line_rules.specs.Longest.{max_line}
use Rattle.line_rules.proofs.Demands.{no_line_longer}
use Rattle.listing_rules.specs.Steps.{run_with, start_of, is_named, head_line, notes, last_line}
use Rattle.listing_rules.specs.Listing.{bytes_of}
use Rattle.listing_rules.specs.Grants.{asked}
use Rattle.listing_rules.proofs.Lines.{AllShort, more, short_bytes}
use Rattle.listing_rules.proofs.Noted.{Noted, run_tells}
use Rattle.listing_rules.proofs.Runs.{Begun, Here, start_fits}
use Rattle.listing_rules.proofs.Stopped.{stopped_few}

pub head_short : (o : Opening) (program : ℕ) → opens o ≡ true → program ≤ max_program → length (text (head_line o program)) ≤ max_line
head_short o program ok known = go (is_named program)
  where
    start_high : nat_of o.start ≤ max_until
    start_high = let f = opens_facts o ok in omega (arith, f.start.high, f.until.high)

    five : Line
    five = open_line o.start o.until o.teams o.cap o.nodes

    six : Line
    six = open_with_line o.start o.until o.teams o.cap o.nodes (pos program)

    go : (b : Bool) → length (text (cond b six five)) ≤ max_line
    go false =
        let f = opens_facts o ok in
        no_line_longer five (start_high, (f.until.high, (f.teams.high, (f.cap.high, (f.nodes.high, tt)))))
    go true =
        let f = opens_facts o ok in
        no_line_longer six (start_high, (f.until.high, (f.teams.high, (f.cap.high, (f.nodes.high, (known, tt))))))

module _ {o : Opening} {cap : ℕ} {l : Ledger} {rs : List Team} (h : Here o cap l rs) where
  pub stopped_most : stopped_teams (run_with l rs) ≤ max_teams
  stopped_most = omega (arith, stopped_few rs l.teams, h.wf.limits.teams_high)

  pub last_short : length (text (last_line (run_with l rs))) ≤ max_line
  last_short = no_line_longer (last_line (run_with l rs)) (omega (arith, at_most l h.wf, h.wf.limits.until_limit), (omega (arith, stopped_most, h.wf.limits.teams_high), tt))

-- the open line and the lines of some steps
module _ {o : Opening} {program cap : ℕ} {u : Run} (b : Begun o program cap u) (s : List ℤ)
    (each : (i : ℕ) → i < length s → within (get_or s i (pos 0)) 1 (nat_of o.teams) ≡ true) where
  told : Noted (length s) (notes (pos (nat_of o.cap)) (start_of o program) s) (batches (start_of o program).ledger (asked (pos (nat_of o.cap)) (start_of o program) s))
  told = (run_tells o b.ok (start_of o program) s each (start_fits o b.ok program)).told

  pub begun_short : AllShort (head_line o program ∷ notes (pos cap) u s)
  begun_short = rw (b.cap_is, b.start_is) (more (head_short o program b.ok b.known) told.short)

  pub begun_few : length (head_line o program ∷ notes (pos cap) u s) ≤ length s + 1
  begun_few = rw (b.cap_is, b.start_is) (omega (arith, told.few))

  pub begun_bytes : length (bytes_of (head_line o program ∷ notes (pos cap) u s)) ≤ max_line * (length s + 1)
  begun_bytes = omega (arith, short_bytes (head_line o program ∷ notes (pos cap) u s) begun_short, begun_few)
