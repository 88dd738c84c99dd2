-- Each number is within its limits, and the used count is odd.
use Rattle.forms.specs.Head.{headed}
use Rattle.forms.proofs.Laws.{contains_is, numbers_are}
use Rattle.forms.proofs.head.Head.is_good.Goals as goal

pub returns : goal.returns
returns c =
    let s = c.args.self in
    numbers_are (headed s)
    (contains_is c.new.result s.until _ c.new.ensures.start c.new.ensures.end c.new.ensures.exhausted c.contains-range.ensures.value)
    (contains_is c.new-2.result s.teams _ c.new-2.ensures.start c.new-2.ensures.end c.new-2.ensures.exhausted c.contains-teams.ensures.value)
    (contains_is c.new-3.result s.room _ c.new-3.ensures.start c.new-3.ensures.end c.new-3.ensures.exhausted c.contains-room.ensures.value)
