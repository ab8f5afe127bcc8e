use Rattle.std.proofs.Common.{◌-◌, length, map, drop}
use Rattle.jzon.specs.View.{view}
use Rattle.jzon_tools.specs.Diff.{AllSame}
use Rattle.jzon_tools.proofs.patch.changes.common_end.Given as goal

abbrev pub invariant-loop-count : goal.invariant-loop-count
invariant-loop-count l =
    AllSame (drop (length l.from - l.count) (map view l.from)) (drop (length l.to - l.count) (map view l.to))
