-- One byte is stored.
use Rattle.lines.proofs.Area.{put_one}
use Rattle.lines.proofs.put_byte.Goals as goal

pub returns : goal.returns
returns c = put_one c.args.area.now c.args.at c.args.byte c.requires
