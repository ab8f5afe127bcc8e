use Rattle.jzon.proofs.Texts.FaultOffsets.{reports_at}
use Rattle.jzon.proofs.stop.fault_at.Goals as goal

pub returns : goal.returns
returns c = reports_at c.args.source.now c.args.index c.utf8.source c.requires
