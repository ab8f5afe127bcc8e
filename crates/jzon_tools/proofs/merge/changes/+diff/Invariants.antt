use Rattle.std.proofs.Common.{◌≤◌, ◌*◌, ◌+◌}
use Rattle.jzon.specs.Entries.{entries_of}
use Rattle.jzon.specs.Measure.{size, largest_under}
use Rattle.jzon.specs.View.{viewed}
use Rattle.jzon_tools.proofs.MergeDiffSteps.{ChangesBut}
use Rattle.jzon_tools.proofs.merge.changes.+diff.Given as goal

abbrev pub invariant-members-loop-key : goal.invariant-members-loop-key
invariant-members-loop-key l =
    ChangesBut (viewed l.key-iterator) (viewed (entries_of l.from)) (viewed (entries_of l.to))
    (viewed (entries_of l.patch))
    × (largest_under l.key-iterator ≤ largest_under (entries_of l.to))

abbrev pub decreases-members : goal.decreases-members
decreases-members l = 4 * largest_under (entries_of l.to.now) + 2

abbrev pub decreases-nested : goal.decreases-nested
decreases-nested l = 4 * largest_under (entries_of l.to.now) + 3

abbrev pub decreases-member : goal.decreases-member
decreases-member l = 4 * size l.new.now
