use Rattle.std.proofs.Common.{map, take}
use Rattle.jzon.specs.View.{view}
use Rattle.jzon_tools.specs.Diff.{AllSame}
use Rattle.jzon_tools.proofs.patch.changes.common_start.Given as goal

abbrev pub invariant-loop-index : goal.invariant-loop-index
invariant-loop-index l = AllSame (take l.index (map view l.from)) (take l.index (map view l.to))
