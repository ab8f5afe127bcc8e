use Rattle.std.proofs.Common.{◌≡◌, ◌≤◌, ◌*◌, ◌+◌, map, nat_lt}
use Rattle.std.specs.List.{list_all}
use Rattle.std.specs.Slice.Iter.{iter_rest}
use Rattle.jzon.specs.Entries.{entries_of}
use Rattle.jzon.specs.Measure.{size, largest, largest_under}
use Rattle.jzon.specs.PairList.{values_of}
use Rattle.jzon.specs.Value.{nest}
use Rattle.jzon.specs.View.{view, view_pairs, view_values}
use Rattle.jzon_tools.specs.Weight.{weight_pairs, weight_values}
use Rattle.jzon_tools.proofs.weight.+weigh.Given as goal

-- what is left, but for the items that follow, is what will be left; the items so far are not too deep
abbrev pub invariant-weigh_items-loop-item : goal.invariant-weigh_items-loop-item
invariant-weigh_items-loop-item l =
    (l.left + weight_values (view_values (iter_rest l.items))
    ≡ l.room + weight_values (view_values (iter_rest l.item-iterator)))
    × (largest (iter_rest l.item-iterator) ≤ largest (iter_rest l.items))
    × (list_all (λ v. nat_lt (nest v) l.depth) (map view (iter_rest l.item-iterator))
    ≡ list_all (λ v. nat_lt (nest v) l.depth) (map view (iter_rest l.items)))

abbrev pub invariant-weigh_members-loop-key : goal.invariant-weigh_members-loop-key
invariant-weigh_members-loop-key l =
    (l.left + weight_pairs (view_pairs (entries_of l.object))
    ≡ l.room + weight_pairs (view_pairs l.key-iterator))
    × (largest_under l.key-iterator ≤ largest_under (entries_of l.object))
    × (list_all (λ v. nat_lt (nest v) l.depth) (map view (values_of l.key-iterator))
    ≡ list_all (λ v. nat_lt (nest v) l.depth) (map view (values_of (entries_of l.object))))

abbrev pub decreases-weigh : goal.decreases-weigh
decreases-weigh l = 2 * size l.value.now

abbrev pub decreases-weigh_items : goal.decreases-weigh_items
decreases-weigh_items l = 2 * largest (iter_rest l.items) + 1

abbrev pub decreases-weigh_members : goal.decreases-weigh_members
decreases-weigh_members l = 2 * largest_under (entries_of l.object.now) + 1
