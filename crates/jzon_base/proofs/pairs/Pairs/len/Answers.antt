use Rattle.jzon_base.proofs.Common.{IsDistinct}
use Rattle.jzon_base.proofs.pairs.Pairs.len.Goals as goal

pub returns-in-None-clause-distinct : goal.returns-in-None-clause-distinct
unfolding IsDistinct
returns-in-None-clause-distinct g c = rw (← c.self.view_is, c.in-None.is) tt
