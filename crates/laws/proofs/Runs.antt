-- A list of requests keeps a ledger well formed, and its range.
use mathlib.Core.Path.{◌≡◌, refl, ◌∙◌}
use Prim.Native.Nat.{ℕ}
use mathlib.Core.List.{List, [], ◌∷◌, ◌++◌}
use Rattle.rules.specs.declared.Ledger.{Ledger}
use Rattle.rules.specs.declared.Request.{Request}
use Rattle.rules.specs.Requests.{requested}
use Rattle.rules.specs.Table.{put, grown}
use Rattle.laws.specs.Listing.{after_all}
use Rattle.rules.proofs.Effects.{Becomes, same, stored, forked, becomes_of}
use Rattle.rules.proofs.Keeps.{requested_wf, requested_good}
use Rattle.rules.proofs.Record.{WF}

pub run_good : (l : Ledger) (rs : List Request) → WF l → WF (after_all l rs)
unfolding after_all
run_good l [] w = w
run_good l (r ∷ rs) w = run_good (requested l r).ledger rs (requested_good l r w)

-- the ledger's own numbers stay
pub record SameRange (l k : Ledger) : Type 0 where
  pub start : k.start ≡ l.start
  pub until : k.until ≡ l.until
  pub teams : k.teams ≡ l.teams
  pub room : k.room ≡ l.room

becomes_range : {l : Ledger} {n : ℕ} {k : Ledger} → Becomes l n k → SameRange l k
unfolding put grown
becomes_range same = record { start = refl; until = refl; teams = refl; room = refl }
becomes_range (stored y u h) = record { start = refl; until = refl; teams = refl; room = refl }
becomes_range (forked u f) = record { start = refl; until = refl; teams = refl; room = refl }

pub run_range : (l : Ledger) (rs : List Request) → WF l → SameRange l (after_all l rs)
unfolding after_all
run_range l [] w = record { start = refl; until = refl; teams = refl; room = refl }
run_range l (r ∷ rs) w =
    let one : SameRange l (requested l r).ledger = rw (requested_wf l r w) (becomes_range (becomes_of l r w)) in
    let all = run_range (requested l r).ledger rs (requested_good l r w) in
    record {
      start = all.start ∙ one.start;
      until = all.until ∙ one.until;
      teams = all.teams ∙ one.teams;
      room = all.room ∙ one.room;
    }

pub after_append : (l : Ledger) (rs qs : List Request) → after_all l (rs ++ qs) ≡ after_all (after_all l rs) qs
unfolding after_all
after_append l [] qs = refl
after_append l (r ∷ rs) qs = after_append (requested l r).ledger rs qs
