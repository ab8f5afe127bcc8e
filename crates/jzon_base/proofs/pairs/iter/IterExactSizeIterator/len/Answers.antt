use Rattle.jzon_base.proofs.Common.{ap, length, arith, length-zip, iter_rest}
use Rattle.jzon_base.proofs.pairs.iter.IterExactSizeIterator.len.Goals as goal

pub returns-clause-value : goal.returns-clause-value
returns-clause-value g c = omega (
  arith,
  c.len.ensures.value,
  c.self.invariant,
  length-zip c.self.inside.keys
      (iter_rest c.self.inside.values),
  ap length c.self.view_is,
)
