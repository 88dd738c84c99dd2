-- The word is put, and the numbers after it.
use Rattle.lines.specs.Fields.{fields}
use Rattle.lines.proofs.Area.{first_room, second_room, both_put}
use Rattle.lines.proofs.put_run.Goals as goal

pub put-next-requires : goal.put-next-requires
put-next-requires c = let s = c.args in first_room s.area.now s.at s.word.now (fields s.numbers.now) c.requires

pub put_fields-requires : goal.put_fields-requires
put_fields-requires c = let s = c.args in second_room s.area.now s.at s.word.now (fields s.numbers.now) c.requires c.put-next.ensures

pub returns : goal.returns
returns c = let s = c.args in both_put s.area.now s.at s.word.now (fields s.numbers.now) c.requires c.put-next.ensures c.put_fields.ensures
