use Rattle.jzon_base.proofs.Common.{rules}
use Rattle.jzon_tree.proofs.Values.Inspections.{inspected_more}
use Rattle.jzon_tree.proofs.value.inspect.Inspection.with.Goals as goal

pub returns : goal.returns
returns c = λ vs v h k.
    let more = inspected_more vs v c.args.self.nest c.args.item.nest h k in
    search rules
