-- What a run writes: its lines so far stand at the front of the area, and the next one has room.
use mathlib.Core.Path.{◌≡◌, refl, sym, ap, ◌∙◌}
use mathlib.Core.Logic.{◌≢◌}
use mathlib.Core.Bool.{Bool, true, false, false≢true, ◌&&◌, cond}
use mathlib.Core.List.{List, [], ◌∷◌, ◌++◌}
use Prim.Native.Nat.{ℕ, ◌+◌, ◌*◌, ◌≤◌, ◌<◌}
use native.Mathlib.Omega.{arith}
use lib.IntN.{ℤ, pos}
use lib.ListN.{length, get_or, take, length-append}
use lib.Seq.{length-take-le, get_or-take}
use borrow.Author.Tests.{ne_eqb}
use lib.Dec.{eqb}
use Rattle.numbers.specs.Fields.{nat_of, within}
use Rattle.numbers.proofs.Laws.{within_true}
use Rattle.rules.specs.declared.Answer.{Answer}
use Rattle.rules.specs.declared.Ledger.{Ledger}
use Rattle.rules.specs.declared.Opening.{Opening}
use Rattle.rules.specs.Asks.{ADVANCE, EXPAND}
use Rattle.rules.proofs.Opens.{opens_facts}
use Rattle.steps.specs.declared.Team.{Team}
use Rattle.steps.specs.declared.Turned.{Turned}
use Rattle.steps.specs.Run.{Run}
use Rattle.line_rules.specs.Line.{Line, open_line, open_with_line, batch_line, split_line, text, spaced, whole}
use Rattle.std.specs.Prelude.{Option, None, Some}
use Rattle.text_rules.specs.Judgement.{is_program, may_name}
use Rattle.text_rules.specs.Answers.{told_program}
use Rattle.line_rules.specs.Longest.{max_line}
use Rattle.lines.specs.Area.{Put}
use Rattle.lines.proofs.Area.{put_then, put-length}
use Rattle.listing_rules.specs.Steps.{run_with, run_from, note_of, is_named, open_by, head_line, notes, last_line, run_lines}
use Rattle.listing_rules.specs.Listing.{bytes_of}
use Rattle.listing_rules.specs.Lent.{room_for}
use Rattle.listing_rules.proofs.Lines.{one_line, bytes_append}
use Rattle.listing_rules.proofs.Runs.{Begun, here}
use Rattle.listing_rules.proofs.Short.{last_short, begun_bytes}
use Rattle.listing.proofs.Stepping.{taken, next_notes}

-- ---- the line of a step

module _ (team : ℤ) (kind node : ℕ) (a : Answer) where
  pub refused_note : a.code ≢ 0 → bytes_of (note_of team kind node a) ≡ []
  unfolding note_of bytes_of
  refused_note bad = rw (ne_eqb a.code 0 bad, no_and (eqb kind ADVANCE), no_and (eqb kind EXPAND))
    where
      no_and : (b : Bool) → (b && false) ≡ false
      no_and true = refl
      no_and false = refl

  pub batch_note : a.code ≡ 0 → kind ≡ ADVANCE
      → bytes_of (note_of team kind node a) ≡ text (batch_line team (pos node) (pos a.«from») (pos a.to))
  unfolding note_of
  batch_note e f = rw (e, f, one_line)

  pub split_note : a.code ≡ 0 → kind ≡ EXPAND → bytes_of (note_of team kind node a) ≡ text (split_line (pos node) (pos a.left) (pos a.«from»))
  unfolding note_of
  split_note e f = rw (e, f, one_line)

  pub no_note : kind ≢ ADVANCE → kind ≢ EXPAND → bytes_of (note_of team kind node a) ≡ []
  unfolding note_of bytes_of
  no_note e f = rw (ne_eqb kind ADVANCE e, ne_eqb kind EXPAND f)

-- ---- the open line

module _ (start until teams cap nodes : ℤ) {program : ℕ} where
  open_six : program ≢ 0 → open_by start until teams cap nodes program ≡ open_with_line start until teams cap nodes (pos program)
  open_six ne = rw (ne_eqb program 0 ne)

-- a line tells of a number what is written of it
open_text : (start until teams cap nodes : ℤ) (program : ℕ)
    → text (open_by (pos (nat_of start)) (pos (nat_of until)) (pos (nat_of teams)) (pos (nat_of cap)) (pos (nat_of nodes)) program)
    ≡ text (open_by start until teams cap nodes program)
unfolding whole spaced
open_text start until teams cap nodes program = go (is_named program)
  where
    by : Bool → (ℤ → ℤ) → Line
    by b f =
        cond
        b
        (open_with_line (f start) (f until) (f teams) (f cap) (f nodes) (pos program))
        (open_line (f start) (f until) (f teams) (f cap) (f nodes))

    go : (b : Bool) → text (by b (λ z. pos (nat_of z))) ≡ text (by b (λ z. z))
    go true = refl
    go false = refl

-- the open line of a header, by whether it names a program
pub head_five : (o : Opening) (p : Option ℕ) → p ≡ None
    → text (open_line (pos (nat_of o.start)) (pos (nat_of o.until)) (pos (nat_of o.teams)) (pos (nat_of o.cap)) (pos (nat_of o.nodes)))
    ≡ text (head_line o (told_program p))
head_five o p e = rw e (open_text o.start o.until o.teams o.cap o.nodes 0)

pub head_six : (o : Opening) (p : Option ℕ) (n : ℕ) → p ≡ Some n → may_name p ≡ true
    → text (open_with_line (pos (nat_of o.start)) (pos (nat_of o.until)) (pos (nat_of o.teams)) (pos (nat_of o.cap)) (pos (nat_of o.nodes)) (pos n))
    ≡ text (head_line o (told_program p))
head_six o p n e named =
    let known : is_program n ≡ true = rw e at named in
    let some : n ≢ 0 = λ z. false≢true (rw z at known) in
    rw e (ap (λ (l : Line). text l) (sym (open_six _ _ _ _ _ some)) ∙ open_text o.start o.until o.teams o.cap o.nodes n)

-- ---- lines put after others

module _ {area later : List ℕ} {at next : ℕ} (xs ys zs : List Line) (is : xs ++ ys ≡ zs) (room : at + length (bytes_of zs) ≤ length area)
    (p : Put area at (bytes_of xs) next later) where
  size : length (bytes_of zs) ≡ length (bytes_of xs) + length (bytes_of ys)
  size = rw (← is, bytes_append xs ys, length-append)

  fits : at + length (bytes_of xs) ≤ length area
  fits = omega (arith, size)

  pub lines_room : next + length (bytes_of ys) ≤ length later
  lines_room = omega (arith, size, p.place, put-length p fits)

  pub lines_put : {last : ℕ} {done : List ℕ} → Put later next (bytes_of ys) last done → Put area at (bytes_of zs) last done
  lines_put q = rw (← is, bytes_append xs ys) (put_then p q fits)

-- ---- the lines of a run from an opening, over a schedule of team numbers, in an area that has room for them

module _ {o : Opening} {program cap : ℕ} {u : Run} (b : Begun o program cap u) (s : List ℤ) (count : ℕ) (inside : count ≤ length s)
    (teams : (i : ℕ) → i < count → within (get_or s i (pos 0)) 1 (nat_of o.teams) ≡ true) (area : List ℕ) (room : room_for count ≤ length area) where
  abbrev pub sofar : ℕ → List Line
  sofar i = notes (pos cap) u (take i s)

  sofar_bytes : (i : ℕ) → i ≤ count → length (text (head_line o program)) + length (bytes_of (sofar i)) ≤ max_line * (i + 1)
  unfolding bytes_of
  sofar_bytes i h =
      let n : length (take i s) ≡ i = length-take-le i s (omega arith) in
      rw (n, length-append) at
      (begun_bytes b (take i s) (λ k less. let below : k < i = omega arith in rw (get_or-take i s k (pos 0) below) (teams k (omega arith))))

  pub head_room : 0 + length (text (head_line o program)) ≤ length area
  head_room = omega (arith, sofar_bytes 0 (omega arith))

  -- the open line stands
  module _ {first : ℕ} {headed : List ℕ} (h : Put area 0 (text (head_line o program)) first headed) where
    sofar_room : (i : ℕ) → i ≤ count → first + length (bytes_of (sofar i)) ≤ length headed
    sofar_room i less = omega (arith, sofar_bytes i less, h.place, put-length h head_room)

    -- the line of the next step
    module _ (i : ℕ) (more : i < count) (l : Ledger) (rs : List Team) (inv : run_with l rs ≡ run_from (pos cap) u (take i s)) (name : ℕ) (t : Turned)
        (named : name ≡ nat_of (get_or s i (pos 0)))
        (turns : t ≡ taken b s i (omega arith) l rs inv (teams i more))
        {end : ℕ} {out : List ℕ} (p : Put headed first (bytes_of (sofar i)) end out) where
      next_lines : sofar i ++ note_of (pos name) t.kind t.node t.answer ≡ sofar (i + 1)
      next_lines =
          let is : get_or s i (pos 0) ≡ pos name = (within_true (get_or s i (pos 0)) 1 (nat_of o.teams) (teams i more)).is ∙ ap pos (sym named) in
          rw (turns, ← is) (next_notes b s i (omega arith) l rs inv (teams i more))

      pub note_room : end + length (bytes_of (note_of (pos name) t.kind t.node t.answer)) ≤ length out
      note_room = lines_room (sofar i) _ (sofar (i + 1)) next_lines (sofar_room (i + 1) (omega arith)) p

      pub note_put : {last : ℕ} {done : List ℕ} → Put out end (bytes_of (note_of (pos name) t.kind t.node t.answer)) last done
          → Put headed first (bytes_of (sofar (i + 1))) last done
      note_put q = lines_put (sofar i) _ (sofar (i + 1)) next_lines (sofar_room (i + 1) (omega arith)) p q

    -- the left line
    module _ (l : Ledger) (rs : List Team) (inv : run_with l rs ≡ run_from (pos cap) u (take count s))
        {end : ℕ} {out : List ℕ} (p : Put headed first (bytes_of (sofar count)) end out) where
      abbrev ended : List Line
      ended = sofar count ++ (last_line (run_with l rs) ∷ [])

      ended_room : first + length (bytes_of ended) ≤ length headed
      ended_room =
          rw (bytes_append (sofar count) (last_line (run_with l rs) ∷ []), length-append, one_line)
          (omega (arith, sofar_bytes count (omega arith), last_short (here b (take count s) l rs inv), h.place, put-length h head_room))

      pub last_room : end + length (text (last_line (run_with l rs))) ≤ length out
      last_room = rw (one_line (last_line (run_with l rs))) at (lines_room (sofar count) _ ended refl ended_room p)

      all_lines : head_line o program ∷ ended ≡ run_lines o program (take count s)
      unfolding run_lines
      all_lines =
          let c : pos cap ≡ o.cap = rw b.cap_is (sym (opens_facts o b.ok).cap.is) in
          ap (λ (r : Run). head_line o program ∷ (sofar count ++ (last_line r ∷ []))) inv ∙ rw (c, b.start_is)

      pub last_put : {last : ℕ} {done : List ℕ} → Put out end (text (last_line (run_with l rs))) last done
          → Put area 0 (bytes_of (run_lines o program (take count s))) last done
      unfolding bytes_of
      last_put q =
          rw (← all_lines)
          (put_then h (lines_put (sofar count) _ ended refl ended_room p (rw (one_line (last_line (run_with l rs))) q)) head_room)
