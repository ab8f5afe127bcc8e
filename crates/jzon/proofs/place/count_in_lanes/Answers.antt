use Rattle.jzon.proofs.Texts.ByteCounts.{in_lanes}
use Rattle.jzon.proofs.place.count_in_lanes.Goals as goal

pub returns : goal.returns
returns c = in_lanes c.args.bytes.now c.args.start c.args.turn c.args.bound c.requires
