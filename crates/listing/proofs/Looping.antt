-- What the loop over a schedule knows at each of its places, over plain variables: before it begins, at a step, after a turn, and at its end.
use Rattle.std.proofs.Common.{◌≡◌, refl, ◌∙◌, ℕ, ◌+◌, ◌≤◌, ◌<◌, List, length, get_or, take, ℤ, pos, true, arith}
use Rattle.std.proofs.Common.{◌^◌, to_z, of_z, w32}
use lib.ListN.{set}
use lib.Signed.{mag}
use mir.Val.{hbits}
use Rattle.numbers.proofs.Signed.{told}
use Rattle.numbers.specs.Fields.{nat_of, within}
use Rattle.rules.specs.declared.Ledger.{Ledger}
use Rattle.rules.specs.declared.Node.{Node}
use Rattle.rules.specs.declared.Opened.{Opened}
use Rattle.rules.specs.declared.Opening.{Opening}
use Rattle.rules.specs.declared.View.{View}
use Rattle.rules.specs.Limits.{max_teams, max_nodes}
use Rattle.rules.specs.Nodes.{blank}
use Rattle.rules.specs.Opening.{opening}
use Rattle.rules.specs.Requests.{changed}
use Rattle.rules.specs.Table.{next_pair, stolen_in}
use Rattle.rules.specs.WellFormed.{well_formed}
use Rattle.rules.proofs.Record.{rules_back}
use Rattle.steps.specs.declared.Team.{Team}
use Rattle.steps.specs.declared.Turned.{Turned}
use Rattle.steps.specs.Records.{program_of, fresh_team, no_team, is_stopped}
use Rattle.steps.specs.Step.{slot_of}
use Rattle.steps.specs.Run.{Run, run_steps}
use Rattle.teams.specs.Clipped.{clipped_turn}
use Rattle.ledger.specs.Slots.{Stores}
use Rattle.ledger.specs.Table.{slot_for, node_for, view_by}
use Rattle.line_rules.specs.Line.{text}
use Rattle.lines.specs.Area.{Put}
use Rattle.lines.proofs.Area.{put-nothing}
use Rattle.listing_rules.specs.Steps.{run_with, run_from, note_of, head_line, last_line, notes, run_lines}
use Rattle.listing_rules.specs.Listing.{bytes_of}
use Rattle.listing_rules.specs.Lent.{room_for}
use Rattle.listing_rules.proofs.Runs.{Begun, Here, here}
use Rattle.listing.specs.Table.{Runnable, stolen_after}
use Rattle.listing.proofs.Stepping.{begun_with, none_stolen, seat_inside, taken, taken_is, Made, made, rests}
use Rattle.listing.proofs.Writing.{head_room, note_room, note_put, last_room, last_put}
use Rattle.std.specs.Prelude.{replicate}

-- the run that is begun, and the area that it is written into
pub record Starts (s : List ℤ) (count : ℕ) (o : Opening) (program : ℕ) (area : List ℕ) (cap : ℕ) (u : Run) : Type 0 where
  pub runnable : Runnable o program count s
  pub room : room_for count ≤ length area
  pub begun : Begun o program cap u

-- the open line is written
pub record Headed (s : List ℤ) (count : ℕ) (o : Opening) (program : ℕ) (area : List ℕ) (cap : ℕ) (u : Run) (first : ℕ) (headed : List ℕ) : Type 0 where
  pub starts : Starts s count o program area cap u
  pub put : Put area 0 (text (head_line o program)) first headed

-- what the loop keeps, after i steps
abbrev pub Kept : List ℤ → ℕ → ℕ → Run → ℕ → List ℕ → ℕ → ℕ → ℕ → Ledger → List Team → List ℕ → Type 0
Kept s count cap u first headed i stolen end l rs out =
    (i ≤ count)
    × (length out ≡ length headed)
    × (stolen ≡ stolen_in l)
    × (run_with l rs ≡ run_from (pos cap) u (take i s))
    × Put headed first (bytes_of (notes (pos cap) u (take i s))) end out

-- at the loop's test, after i steps
pub record At (s : List ℤ) (count : ℕ) (o : Opening) (program : ℕ) (area : List ℕ) (cap : ℕ) (u : Run) (first : ℕ) (headed : List ℕ) (i stolen end : ℕ) (l : Ledger) (rs : List Team) (out : List ℕ) : Type 0 where
  pub before : Headed s count o program area cap u first headed
  pub same : length out ≡ length headed
  pub count_is : stolen ≡ stolen_in l
  pub run : run_with l rs ≡ run_from (pos cap) u (take i s)
  pub lines : Put headed first (bytes_of (notes (pos cap) u (take i s))) end out

-- ---- the cap is a signed local

pub starting : {s : List ℤ} {count : ℕ} {o : Opening} {program : ℕ} {area : List ℕ} {cap : ℕ} {d : Opened} {rs : List Team}
    → Runnable o program count s × (room_for count ≤ length area)
    → mag o.cap < 2 ^ hbits w32
    → cap ≡ nat_of (to_z w32 (of_z w32 o.cap))
    → d ≡ opening o
    → rs ≡ replicate max_teams (fresh_team (program_of program))
    → Starts s count o program area cap (run_with d.ledger rs)
starting {o = o} {program = program} {cap = cap} {d = d} {rs = rs} p m ec ed er =
    record {
      runnable = p.0;
      room = p.1;
      begun = begun_with o program cap d rs p.0.opened p.0.known (rw (told o.cap m) at ec) ed er;
    }

pub heading : {s : List ℤ} {count : ℕ} {o : Opening} {program : ℕ} {area : List ℕ} {cap : ℕ} {d : Opened} {rs : List Team} {first : ℕ} {headed : List ℕ}
    → Runnable o program count s × (room_for count ≤ length area)
    → mag o.cap < 2 ^ hbits w32
    → cap ≡ nat_of (to_z w32 (of_z w32 o.cap))
    → d ≡ opening o
    → rs ≡ replicate max_teams (fresh_team (program_of program))
    → Put area 0 (text (head_line o program)) first headed
    → Headed s count o program area cap (run_with d.ledger rs) first headed
heading p m ec ed er h = record { starts = starting p m ec ed er; put = h }

pub looping : {s : List ℤ} {count : ℕ} {o : Opening} {program : ℕ} {area : List ℕ} {cap : ℕ} {u : Run} {first : ℕ} {headed : List ℕ} {i stolen end : ℕ} {l : Ledger} {rs : List Team} {out : List ℕ}
    → Headed s count o program area cap u first headed
    → Kept s count cap u first headed i stolen end l rs out
    → At s count o program area cap u first headed i stolen end l rs out
looping h k = record { before = h; same = k.1; count_is = k.2; run = k.3; lines = k.4 }

-- ---- before the loop

module _ {s : List ℤ} {count : ℕ} {o : Opening} {program : ℕ} {area : List ℕ} {cap : ℕ} {u : Run} (z : Starts s count o program area cap u) where
  pub room_for_head : 0 + length (text (head_line o program)) ≤ length area
  room_for_head = head_room z.begun s count z.runnable.inside z.runnable.teams area z.room

module _ {s : List ℤ} {count : ℕ} {o : Opening} {program : ℕ} {area : List ℕ} {cap : ℕ} {l : Ledger} {rs : List Team} {first : ℕ} {headed : List ℕ}
    (h : Headed s count o program area cap (run_with l rs) first headed) where
  pub no_step : Kept s count cap (run_with l rs) first headed 0 0 first l rs headed
  unfolding run_steps notes bytes_of
  no_step = (omega arith, refl, none_stolen o program cap l rs h.starts.begun, refl, put-nothing headed first)

module _ {s : List ℤ} {count : ℕ} {o : Opening} {program : ℕ} {area : List ℕ} {cap : ℕ} {u : Run} {first : ℕ} {headed : List ℕ} {i stolen end : ℕ} {l : Ledger} {rs : List Team} {out : List ℕ}
    (a : At s count o program area cap u first headed i stolen end l rs out) where
  abbrev z : Starts s count o program area cap u
  z = a.before.starts

  stands : Here o cap l rs
  stands = here z.begun (take i s) l rs a.run

  pub few : stolen ≤ max_nodes
  few = let w = stands.wf in omega (arith, a.count_is, w.loaded, w.limits.room_high)

  pub used_few : l.used ≤ max_nodes
  used_few = let w = stands.wf in omega (arith, w.loaded, w.limits.room_high)

  -- ---- at the end

  module _ (e : i ≡ count) where
    pub last_good : (end + length (text (last_line (run_with l rs))) ≤ length out) × (well_formed l ≡ true) × (l.teams ≤ max_teams)
    last_good =
        let w = stands.wf in (
          last_room z.begun s count z.runnable.inside z.runnable.teams area z.room a.before.put l rs (rw e at a.run) (rw e at a.lines),
          rules_back l w,
          w.limits.teams_high,
        )

    pub whole : {last : ℕ} {done : List ℕ} → Put out end (text (last_line (run_with l rs))) last done
        → Put area 0 (bytes_of (run_lines o program (take count s))) last done
    whole q =
        last_put z.begun s count z.runnable.inside z.runnable.teams area z.room a.before.put l rs (rw e at a.run) (rw e at a.lines) q

  -- ---- at a step, whose number is a signed local

  module _ (more : i < count) (m : mag (get_or s i (pos 0)) < 2 ^ hbits w32) {slot : ℕ} (at_slot : slot ≡ slot_of (to_z w32 (of_z w32 (get_or s i (pos 0))))) where
    abbrev number : ℤ
    number = get_or s i (pos 0)

    less : i < length s
    less = omega (arith, z.runnable.inside)

    mine : within number 1 (nat_of o.teams) ≡ true
    mine = z.runnable.teams i more

    es : slot ≡ slot_of number
    es = rw (told number m) at at_slot

    pub seat : slot < max_teams
    seat = rw es (seat_inside z.begun s i less l rs a.run mine)

    -- a team that has stopped
    pub stays : is_stopped (get_or rs slot no_team).place ≡ true → Kept s count cap u first headed (i + 1) stolen end l rs out
    stays e =
        let r = rests z.begun s i less l rs a.run mine (rw es at e) in
        (omega (arith, more), a.same, a.count_is, r.0, rw r.1 a.lines)

    -- the turn is taken
    module _ {place pair k : ℕ} {x : Node} {v : View} {t : Turned}
        (ep : place ≡ slot_for (get_or rs slot no_team).node)
        (eq : pair ≡ l.used + 1)
        (ex : x ≡ node_for (get_or rs slot no_team).node (get_or l.nodes place blank))
        (ev : v ≡ view_by l.teams l.room l.used stolen pair x)
        (named : k ≡ nat_of (to_z w32 (of_z w32 number)))
        (et : t ≡ clipped_turn k cap (get_or rs slot no_team) v) where
      ek : k ≡ nat_of number
      ek = rw (told number m) at named

      turns : t ≡ taken z.begun s i less l rs a.run mine
      turns =
          taken_is z.begun s i less l rs a.run mine slot place stolen pair k x v t es ep a.count_is (eq ∙ unfold next_pair in refl) ex ev ek et

      pub room_for_note : end + length (bytes_of (note_of (pos k) t.kind t.node t.answer)) ≤ length out
      room_for_note =
          note_room z.begun s count z.runnable.inside z.runnable.teams area z.room a.before.put i more l rs a.run k t ek turns a.lines

      -- what the change makes
      makes : Made cap u (take (i + 1) s) l (set rs slot t.team) (get_or rs slot no_team).node stolen t.change
      makes = made z.begun s i less l rs a.run mine slot stolen t es a.count_is turns

      pub storable : Stores l (get_or rs slot no_team).node t.change
      storable = makes.inside

      -- the line is written and the change is stored
      pub steps_on : {last more_stolen : ℕ} {done : List ℕ} {next : Ledger}
          → Put out end (bytes_of (note_of (pos k) t.kind t.node t.answer)) last done
          → length done ≡ length out
          → more_stolen ≡ stolen_after stolen t.change
          → next ≡ changed l (get_or rs slot no_team).node t.change
          → Kept s count cap u first headed (i + 1) more_stolen last next (set rs slot t.team) done
      steps_on q same en el = (
        omega (arith, more),
        same ∙ a.same,
        rw (en, el) makes.goes.count,
        rw el makes.goes.run,
        note_put z.begun s count z.runnable.inside z.runnable.teams area z.room a.before.put i more l rs a.run k t ek turns a.lines q,
      )
