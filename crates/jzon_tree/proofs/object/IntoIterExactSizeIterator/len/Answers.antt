use Rattle.jzon_base.proofs.Common.{arith, length-zip, into_iter_items}
use Rattle.jzon_tree.proofs.object.IntoIterExactSizeIterator.len.Goals as goal

pub returns-clause-value : goal.returns-clause-value
returns-clause-value c = omega (
  arith,
  c.len.ensures,
  c.args.self.now.keys.rest.ok.0,
  c.args.self.now.as_many,
  length-zip (into_iter_items c.args.self.now.keys)
      (into_iter_items c.args.self.now.values),
)
