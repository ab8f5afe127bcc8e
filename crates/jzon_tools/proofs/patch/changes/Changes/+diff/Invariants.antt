use Rattle.std.proofs.Common.{◌≡◌, ◌*◌, ◌+◌, List, ℕ, map, string_bytes, true}
use Rattle.std.specs.List.{IsDistinct}
use Rattle.std.specs.Option.{is_some}
use Rattle.std.specs.Str.{bytes_eq}
use Rattle.jzon.specs.Entries.{entries_of}
use Rattle.jzon.specs.Measure.{size, largest, largest_under}
use Rattle.jzon.specs.PairList.{find}
use Rattle.jzon.specs.View.{view, viewed}
use Rattle.jzon_tools.specs.Diff.{AddsElements, operations_of}
use Rattle.jzon_pointer.specs.Names.{is_among}
use Rattle.jzon_tools.proofs.DiffSteps.{Progress, pending, awaited}
use Rattle.jzon_tools.proofs.patch.changes.Changes.+diff.Given as goal

abbrev pub invariant-change-loop-index : goal.invariant-change-loop-index
invariant-change-loop-index l =
    AddsElements (string_bytes l.initial.self.path) (map view l.from) (map view l.to) (l.start, l.start) (l.index, l.index)
    (operations_of l.initial.self) (operations_of l.self)
    × (string_bytes l.self.path ≡ string_bytes l.initial.self.path)

abbrev pub invariant-members-loop-key : goal.invariant-members-loop-key
invariant-members-loop-key l =
    Progress (string_bytes l.initial.self.path) (viewed (entries_of l.from)) (viewed (entries_of l.to))
    (pending l.key-iterator (viewed (entries_of l.from))) (operations_of l.initial.self) (operations_of l.self)
    × IsDistinct bytes_eq l.key-iterator
    × ((k : List ℕ) → is_among l.key-iterator k ≡ true → is_some (find k (viewed (entries_of l.from))) ≡ true)
    × (string_bytes l.self.path ≡ string_bytes l.initial.self.path)

abbrev pub invariant-members-loop-added : goal.invariant-members-loop-added
invariant-members-loop-added l =
    Progress (string_bytes l.fn.self.path) (viewed (entries_of l.from)) (viewed (entries_of l.to))
    (awaited l.added-iterator (viewed (entries_of l.from))) (operations_of l.fn.self) (operations_of l.self)
    × IsDistinct bytes_eq l.added-iterator
    × (string_bytes l.self.path ≡ string_bytes l.fn.self.path)

abbrev pub decreases-value : goal.decreases-value
decreases-value l = 5 * size l.old.now

abbrev pub decreases-members : goal.decreases-members
decreases-members l = 5 * largest_under (entries_of l.from.now) + 2

abbrev pub decreases-member : goal.decreases-member
decreases-member l = 5 * largest_under (entries_of l.from.now) + 1

abbrev pub decreases-elements : goal.decreases-elements
decreases-elements l = 5 * largest l.from.now + 3

abbrev pub decreases-change : goal.decreases-change
decreases-change l = 5 * largest l.from.now + 2

abbrev pub decreases-element : goal.decreases-element
decreases-element l = 5 * largest l.from.now + 1
