use Rattle.std.proofs.Common.{◌≡◌, map, string_bytes}
use Rattle.jzon.specs.View.{view}
use Rattle.jzon_tools.specs.Diff.{AddsElements, operations_of}
use Rattle.jzon_tools.proofs.patch.changes.Changes.cut.Given as goal

abbrev pub invariant-loop-index : goal.invariant-loop-index
invariant-loop-index l =
    AddsElements (string_bytes l.initial.self.path) (map view l.from) (map view l.to) (l.start, l.start) (l.start, l.index)
    (operations_of l.initial.self) (operations_of l.self)
    × (string_bytes l.self.path ≡ string_bytes l.initial.self.path)
