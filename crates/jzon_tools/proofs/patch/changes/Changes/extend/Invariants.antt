use Rattle.std.proofs.Common.{◌≡◌, ◌≤◌, ℕ, length, map, string_bytes}
use Rattle.jzon.specs.View.{view}
use Rattle.jzon_tools.specs.Diff.{AddsElements, operations_of}
use Rattle.jzon_tools.proofs.patch.changes.Changes.extend.Given as goal

abbrev pub invariant-loop-index : goal.invariant-loop-index
invariant-loop-index l =
    ((rest : ℕ) → rest ≤ length l.from → AddsElements (string_bytes l.initial.self.path) (map view l.from) (map view l.to)
    (l.start, rest) (l.index, rest) (operations_of l.initial.self) (operations_of l.self))
    × (string_bytes l.self.path ≡ string_bytes l.initial.self.path)
