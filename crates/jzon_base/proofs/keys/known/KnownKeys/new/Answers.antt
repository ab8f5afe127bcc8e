use Rattle.jzon_base.proofs.Common.{IsDistinct}
use Rattle.jzon_base.proofs.keys.known.KnownKeys.new.Goals as goal

pub returns : goal.returns
unfolding IsDistinct
returns c = (tt, c.new.ensures)
