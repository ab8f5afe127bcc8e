use Rattle.std.proofs.Common.{map, take}
use Rattle.std.specs.List.{AllZip}
use Rattle.jzon.specs.View.{view}
use Rattle.jzon_typed.proofs.encode.impls.array_of.Given as goal

-- the items show the sources before the index
abbrev pub invariant-loop-source : goal.invariant-loop-source
invariant-loop-source g l = AllZip g.T.ToJson.shows (take l.source-index l.list) (map view l.items.items)
