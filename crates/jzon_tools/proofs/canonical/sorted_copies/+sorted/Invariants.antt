use Rattle.std.proofs.Common.{◌≡◌, ◌*◌, ◌+◌, map, take}
use Rattle.jzon.specs.Entries.{entries_of}
use Rattle.jzon.specs.Measure.{size, largest, largest_under}
use Rattle.jzon.specs.PairList.{put_each}
use Rattle.jzon.specs.View.{view, viewed}
use Rattle.jzon_tools.specs.Canonical.{arranged, pointed}
use Rattle.jzon_tools.proofs.SortedCopies.{copied}
use Rattle.jzon_tools.proofs.canonical.sorted_copies.+sorted.Given as goal

abbrev pub invariant-sorted_items-loop-item : goal.invariant-sorted_items-loop-item
invariant-sorted_items-loop-item l =
    map view l.copies.items ≡ map (arranged (λ v. v)) (map view (take l.item-index l.items))

abbrev pub invariant-sorted_object-loop-key : goal.invariant-sorted_object-loop-key
invariant-sorted_object-loop-key l =
    viewed (entries_of l.copy) ≡ put_each (map (copied (λ v. v)) (map pointed (take l.key-index l.key-items)))

abbrev pub decreases-sorted : goal.decreases-sorted
decreases-sorted l = 3 * size l.value.now

abbrev pub decreases-sorted_items : goal.decreases-sorted_items
decreases-sorted_items l = 3 * largest l.items.now + 2

abbrev pub decreases-sorted_object : goal.decreases-sorted_object
decreases-sorted_object l = 3 * largest_under (entries_of l.object.now) + 2
