use Rattle.jzon_tree.proofs.Values.WriteViews.{past_items}
use Rattle.jzon_tree.proofs.lent.writes.write_at_index.Goals as goal

pub returns-clause-present : goal.returns-clause-present
returns-clause-present c =
    past_items c.write_at_index_in.result c.args.value.now c.args.index c.write_at_index_in.ensures.present
