use Rattle.std.proofs.Common.{◌≡◌, ◌≤◌, ◌*◌, ◌+◌}
use Rattle.jzon.specs.Entries.{entries_of}
use Rattle.jzon.specs.Measure.{size, largest_under}
use Rattle.jzon.specs.View.{viewed, view_pairs}
use Rattle.jzon_tools.specs.Merge.{merged_pairs}
use Rattle.jzon_tools.proofs.merge.+merge.Given as goal

abbrev pub invariant-merge_members-loop-key : goal.invariant-merge_members-loop-key
invariant-merge_members-loop-key l =
    (merged_pairs l.drops_nulls (viewed (entries_of l.object)) (view_pairs l.key-iterator)
    ≡ merged_pairs l.drops_nulls (viewed (entries_of l.initial.object)) (view_pairs (entries_of l.members)))
    × (largest_under l.key-iterator ≤ largest_under (entries_of l.members))

abbrev pub decreases-merge : goal.decreases-merge
decreases-merge l = 3 * size l.patch.now

abbrev pub decreases-merge_members : goal.decreases-merge_members
decreases-merge_members l = 3 * largest_under (entries_of l.members.now) + 2

abbrev pub decreases-merge_member : goal.decreases-merge_member
decreases-merge_member l = 3 * size l.value.now + 1
