use Rattle.jzon_base.proofs.Common.{◌∙◌, sym, ap, slice_get, List}
use Rattle.jzon_tree.specs.Value.{Value}
use Rattle.jzon_tree.proofs.Values.PartViews.{items-Array, item_lent}
use Rattle.jzon_tree.proofs.value.JsonValue.at_index.Goals as goal

pub returns-in-Array : goal.returns-in-Array
returns-in-Array c =
    rw (c.in-Array.is)
    (item_lent c.in-Array.items.items c.args.index c.get.result (rw c.deref.ensures.value at c.get.ensures.lookup)
    ∙ ap (λ (vs : List Value). slice_get vs c.args.index) (sym (items-Array c.in-Array.items)))
