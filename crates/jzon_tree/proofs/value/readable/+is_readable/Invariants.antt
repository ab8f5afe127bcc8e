use Rattle.jzon_base.proofs.Common.{take, map}
use Rattle.jzon_tree.specs.Entries.{entries_of}
use Rattle.jzon_tree.specs.Lawful.{ArePairs}
use Rattle.jzon_tree.specs.View.{view, view_pairs}
use Rattle.jzon_tree.proofs.Values.Inspections.{AreReadable, inside}
use Rattle.jzon_tree.proofs.value.readable.+is_readable.Given as goal

abbrev pub invariant-are_items_readable-loop-item : goal.invariant-are_items_readable-loop-item
invariant-are_items_readable-loop-item l = AreReadable (map view (take l.item-index l.items)) l.depth

abbrev pub invariant-is_object_readable-loop-index : goal.invariant-is_object_readable-loop-index
invariant-is_object_readable-loop-index l =
    ArePairs (view_pairs (take l.index (entries_of l.object)))
    × AreReadable (inside (take l.index (entries_of l.object))) l.depth
