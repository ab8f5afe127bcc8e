use Rattle.jzon.proofs.ReadBack.Redump.{redumped}
use Rattle.jzon.proofs.laws.redump.Goals as goal

pub returns : goal.returns
returns c = redumped
