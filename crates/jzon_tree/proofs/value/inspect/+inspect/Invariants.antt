use Rattle.jzon_base.proofs.Common.{take, map}
use Rattle.jzon_tree.specs.Entries.{entries_of}
use Rattle.jzon_tree.specs.Private.Inspected.{IsInspected}
use Rattle.jzon_tree.specs.Lawful.{ArePairs}
use Rattle.jzon_tree.specs.Value.{array, values_of}
use Rattle.jzon_tree.specs.View.{view, view_pairs}
use Rattle.jzon_tree.proofs.Values.Inspections.{inside}
use Rattle.jzon_tree.proofs.value.inspect.+inspect.Given as goal

abbrev pub invariant-inspect_items-loop-item : goal.invariant-inspect_items-loop-item
invariant-inspect_items-loop-item l = IsInspected (array (values_of (map view (take l.item-index l.items))))
    l.found.nest

abbrev pub invariant-inspect_object-loop-index : goal.invariant-inspect_object-loop-index
invariant-inspect_object-loop-index l =
    ArePairs (view_pairs (take l.index (entries_of l.object)))
    × IsInspected (array (values_of (inside (take l.index (entries_of l.object))))) l.found.nest
