use Rattle.std.proofs.Common.{map, take}
use Rattle.std.specs.List.{AllZip}
use Rattle.jzon.specs.View.{view}
use Rattle.jzon_typed.proofs.decode.impls.VecFromJson.from_json.Given as goal

-- the list holds what the elements before the index give
abbrev pub invariant-loop-index : goal.invariant-loop-index
invariant-loop-index g l = AllZip g.T.FromJson.gives (take l.index (map view l.item-items)) l.list.items
