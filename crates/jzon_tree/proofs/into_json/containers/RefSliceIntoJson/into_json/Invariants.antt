use Rattle.jzon_base.proofs.Common.{map, take, List, AllZip}
use Rattle.jzon_tree.specs.View.{view}
use Rattle.jzon_tree.proofs.into_json.containers.RefSliceIntoJson.into_json.Given as goal

abbrev pub invariant-loop-item : goal.invariant-loop-item
invariant-loop-item g l =
    (ys : List g.row.T.Denot) × AllZip g.T.Clone.is_clone (take l.item-index l.self) ys
    × AllZip g.T.IntoJson.means ys (map view l.items.items)
