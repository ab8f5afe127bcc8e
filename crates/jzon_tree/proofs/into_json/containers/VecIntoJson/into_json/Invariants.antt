use Rattle.jzon_base.proofs.Common.{◌≡◌, ◌++◌, map, into_iter_items, AllZip}
use Rattle.jzon_tree.specs.View.{view}
use Rattle.jzon_tree.proofs.into_json.containers.VecIntoJson.into_json.Given as goal

abbrev pub invariant-loop-item : goal.invariant-loop-item
invariant-loop-item g l =
    (l.yielded ++ into_iter_items l.item-iterator ≡ l.fn.self.items)
    × AllZip g.T.IntoJson.means l.yielded (map view l.items.items)
