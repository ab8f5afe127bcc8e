use Rattle.jzon_base.proofs.Common.{arith, length-zip}
use Rattle.std.specs.Slice.Iter as slice
use Rattle.jzon_base.proofs.pairs.iter_mut.IterMutExactSizeIterator.len.Goals as goal

pub returns-clause-value : goal.returns-clause-value
returns-clause-value g c =
    omega (
      arith,
      c.len.ensures.value,
      c.args.self.now.as_many,
      length-zip c.args.self.now.keys
          (slice.iter_mut_rest c.args.self.now.values),
    )
