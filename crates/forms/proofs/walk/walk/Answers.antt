-- The walk before the first slot, one slot more, and all of them.
use Rattle.std.proofs.Common.{arith, ◌≡◌, ◌+◌, ◌*◌, ◌/◌, ◌<◌, Bool, true, false, refl, ap}
use lib.Dec.{leb}
use lib.ListN.{replicate}
use Rattle.rules.specs.Limits.{max_nodes}
use Rattle.rules.specs.WellFormed.{up_to, node_rule}
use Rattle.forms.specs.declared.head.Head.{Head}
use Rattle.forms.specs.Walk.{even_once}
use Rattle.forms.proofs.UpTo.{up_to_none, up_to_more}
use Rattle.forms.proofs.Pairs.{Placed, zeros, counted_none, counted_more}
use Rattle.forms.proofs.Whole.{limited, node_here, no_node, walked_by}
use Rattle.forms.proofs.walk.walk.Goals as goal
use Rattle.forms.proofs.walk.walk.Goals.{then-not-alone_ok-via-then-not-alone_ok, then-not-alone_ok-via-else-not-alone_ok+then-not-family_ok, else-has_room-via-then-has_room+else-pairs_ok, else-has_room-via-else-has_room}

pub loop-i-init : goal.loop-i-init
loop-i-init g c =
    let l = g.T.Table.ledger c.args.t.now in
    record { passed = up_to_none (node_rule l); counted = counted_none l.nodes (replicate (max_nodes / 2 + 1) 0) refl (zeros (max_nodes / 2 + 1)) }

pub returns-then-not-alone_ok : goal.returns-then-not-alone_ok
returns-then-not-alone_ok g c =
    let l = g.T.Table.ledger c.args.t.now in
    let i = c.loop-i.i in
    let u : c.head-head.result.used ≡ l.used = ap (λ (h : Head). h.used) c.head-head.ensures in
    let h : i < l.used = omega (arith, c.loop-i-test.true, u) in
    let x = c.slot-x.ensures in
    elim c.then-not-alone_ok.branch [
      | then-not-alone_ok-via-then-not-alone_ok w ↦ no_node l i h (node_here l i c.head-head.ensures x w.if-not-alone_ok.ensures refl)
      | then-not-alone_ok-via-else-not-alone_ok+then-not-family_ok w ↦
          no_node l i h (node_here l i c.head-head.ensures x w.if-not-alone_ok.ensures w.if-not-family_ok.ensures)
    ]

pub loop-i-preserved : goal.loop-i-preserved
loop-i-preserved g c =
    let l = g.T.Table.ledger c.args.t.now in
    let loop = c.loop-i in
    let x = c.slot-x in
    let place = c.half_slot-half in
    let one = c.stolen_one-stolen in
    let placed : Placed x.result.left place.result =
    record { inside = place.ensures.0; even = place.ensures.1; large = place.ensures.2; odd = place.ensures.3 } in
    record {
      passed =
          up_to_more (node_rule l) loop.i loop.invariant.passed
          (node_here l loop.i c.head-head.ensures x.ensures c.if-not-alone_ok.ensures c.if-not-family_ok.ensures);
      counted = counted_more l loop.i loop.seen loop.stolen loop.invariant.counted x.ensures place.result one.result c.once_more.result placed one.ensures c.once_more.ensures;
    }

-- ---- all slots in use have passed

pub pairs_ok-requires : goal.pairs_ok-requires
pairs_ok-requires g c =
    let n = limited (g.T.Table.ledger c.args.t.now) c.requires in
    let u = ap (λ (h : Head). h.used) c.head-head.ensures in
    (omega (arith, u, n.odd), omega (arith, u, n.fits, n.high))

pub returns-then-pairs_ok : goal.returns-then-pairs_ok
returns-then-pairs_ok g c =
    let blanks = c.if-not-blanks_ok.ensures in
    walked_by (g.T.Table.ledger c.args.t.now) c.head-head.ensures c.requires c.if-not-root_ok.ensures blanks.value blanks.past (omega arith) c.loop-i.invariant.passed c.loop-i.invariant.counted c.if-has_room.ensures c.if-pairs_ok.ensures

pub returns-else-has_room : goal.returns-else-has_room
returns-else-has_room g c =
    let d = c.head-head.result in
    let loop = c.loop-i in
    let blanks = c.if-not-blanks_ok.ensures in
    let all = λ (f p : Bool) (ef : f ≡ leb (d.used + 2 * loop.stolen) d.room) (ep : p ≡ up_to (even_once loop.seen) d.used).
    walked_by (g.T.Table.ledger c.args.t.now) c.head-head.ensures c.requires c.if-not-root_ok.ensures blanks.value blanks.past (omega arith) loop.invariant.passed loop.invariant.counted {fits = f} {pairs = p} ef ep in
    elim c.else-has_room.branch [
      | else-has_room-via-then-has_room+else-pairs_ok w ↦ all true false w.if-has_room.ensures w.if-pairs_ok.ensures
      | else-has_room-via-else-has_room w ↦ all false _ w.if-has_room.ensures refl
    ]
