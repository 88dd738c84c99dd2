-- The table of codes by example, by computation.
use mathlib.Core.Path.{◌≡◌, refl}
use mathlib.Core.Bool.{true}
use mathlib.Core.List.{List, [], ◌∷◌}
use Prim.Native.Nat.{ℕ, ◌-◌}
use lib.ListN.{drop, replicate, length-replicate}
use Rattle.rules.specs.Joining.{finds, none, same_finds, reportable, join_all, join}
use Rattle.rules.specs.declared.Ledger.{Ledger}
use Rattle.rules.specs.declared.Node.{Node}
use Rattle.rules.specs.declared.Request.{Request}
use Rattle.rules.specs.Codes.{Reply, new, of_new, empty, of_empty, held, of_held, done, of_done, stolen, of_stolen, tight, of_tight, of_full, prepared, of_prepared, pushed, of_pushed, unsplit, of_unsplit, split_at, of_one_waits, both_pushed, of_both_pushed, Answering, EachCode, EndedFirst, becomes, ByHand, RefusedOpening}
use Rattle.rules.specs.Count.{counted}
use Rattle.rules.specs.Examples.{full}
use Rattle.rules.specs.Limits.{opens, max_nodes, slots_after}
use Rattle.rules.specs.Nodes.{PREPARED, PUSHED, blank, middle, left_part, right_part, joined_of}
use Rattle.rules.specs.Opening.{closed, opening}
use Rattle.rules.specs.Refusals.{own_code, advance_code, mark_code, expand_code, kind_code, refusal, report_code, push_code}
use Rattle.rules.specs.Requests.{owning, expanding, looking, granted, decided, view, changed, answered, requested, reporting, pushing}
use Rattle.rules.specs.States.{state_of, stolen_of, unready, ended}
use Rattle.rules.specs.Table.{at, put, next_pair, grown, sum_by, stolen_in}
use Rattle.rules.specs.WellFormed.{up_to, alone_rule, child_rule, node_rule, left_is, pair_rule, well_formed, stage_rule}
use Rattle.rules.proofs.Examples.{in_use, good}
use Rattle.rules.proofs.Opens.{all_blank}

-- on a well-formed ledger the replies are those of the tests
abbrev Replying : Ledger → List Reply → Type 0
Replying l [] = Unit {0}
Replying l (q ∷ qs) = ((answered l q.asked).answer ≡ q.answer) × Replying l qs

from_tests : (l : Ledger) (qs : List Reply) → well_formed l ≡ true → Replying l qs → Answering l qs
unfolding requested
from_tests l [] w h = tt
from_tests l (q ∷ qs) w h = (rw w h.0, from_tests l qs w h.1)

replies : (l : Ledger) (k : ℕ) (qs : List Reply) → drop l.used l.nodes ≡ replicate k blank → in_use l ≡ true → Replying l qs → Answering l qs
replies l k qs e t h = from_tests l qs (good l k e t) h

pub each-code : EachCode
unfolding opens middle state_of stolen_of at sum_by stolen_in up_to alone_rule child_rule node_rule left_is pair_rule well_formed own_code advance_code mark_code expand_code kind_code refusal owning expanding looking granted decided view answered requested counted stage_rule same_finds reportable joined_of join_all join unready ended report_code push_code reporting pushing next_pair
each-code =
    record {
      of_broken = (refl, (refl, tt));
      count_broken = refl;
      of_new_lem = replies new (slots_after 1) of_new refl refl (refl, (refl, (refl, (refl, (refl, (refl, (refl, (refl, (refl, (refl, (refl, (refl, (refl, (refl, (refl, (refl, tt))))))))))))))));
      of_empty_lem = replies empty (slots_after 1) of_empty refl refl (refl, (refl, (refl, (refl, tt))));
      of_held_lem = replies held (slots_after 1) of_held refl refl (refl, (refl, (refl, (refl, (refl, (refl, (refl, (refl, (refl, (refl, (refl, (refl, tt))))))))))));
      of_done_lem = replies done (slots_after 1) of_done refl refl (refl, (refl, (refl, (refl, (refl, (refl, (refl, (refl, (refl, (refl, (refl, (refl, (refl, (refl, (refl, (refl, (refl, (refl, tt))))))))))))))))));
      of_stolen_lem = replies stolen (slots_after 1) of_stolen refl refl (refl, (refl, (refl, (refl, (refl, (refl, (refl, (refl, (refl, (refl, tt))))))))));
      of_tight_lem = replies tight (slots_after 1) of_tight refl refl (refl, (refl, tt));
      of_full_lem = replies full (slots_after 3) of_full refl refl (refl, (refl, tt));
      of_prepared_lem = replies prepared (slots_after 1) of_prepared refl refl (refl, (refl, (refl, tt)));
      of_pushed_lem = replies pushed (slots_after 1) of_pushed refl refl (refl, (refl, tt));
      of_past_pushed = (refl, tt);
      of_unsplit_lem = replies unsplit (slots_after 1) of_unsplit refl refl (refl, (refl, (refl, tt)));
      left_waits = replies (split_at PREPARED none PUSHED (finds 3 1 9)) (slots_after 3) of_one_waits refl refl (refl, tt);
      right_waits = replies (split_at PUSHED (finds 1 7 5) PREPARED none) (slots_after 3) of_one_waits refl refl (refl, tt);
      both_pushed_lem = replies both_pushed (slots_after 3) of_both_pushed refl refl (refl, (refl, tt));
    }

pub ended_first : EndedFirst
unfolding report_code ended
ended_first = refl

-- what the root becomes is what a well-formed ledger makes of it
root_after : (l : Ledger) (k : ℕ) (r : Request) (x : Node) → drop l.used l.nodes ≡ replicate k blank → in_use l ≡ true → at (answered l r).ledger 1 ≡ x → becomes l r ≡ x
unfolding requested
root_after l k r x e t h = rw (good l k e t) h

pub by_hand : ByHand
unfolding opens middle state_of stolen_of at sum_by stolen_in up_to alone_rule child_rule node_rule left_is pair_rule well_formed expand_code kind_code refusal granted decided view answered stage_rule same_finds reportable joined_of join_all join unready ended report_code push_code reporting pushing expanding changed put grown left_part right_part next_pair
by_hand =
    record {
      nothing = refl;
      around = refl;
      labels = refl;
      kept = root_after done (slots_after 1) _ _ refl refl refl;
      lone = root_after prepared (slots_after 1) _ _ refl refl refl;
      parent = root_after both_pushed (slots_after 3) _ _ refl refl refl;
      survives = root_after unsplit (slots_after 1) _ _ refl refl refl;
    }

pub refused_opening : RefusedOpening
unfolding opening closed at
refused_opening o e =
    rw
    e (
      refl,
      record {
        start = refl;
        until = refl;
        teams = refl;
        room = refl;
        used = refl;
        sized = length-replicate max_nodes blank;
        nodes = λ n. all_blank max_nodes (n - 1);
      },
    )
