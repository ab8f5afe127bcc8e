use Rattle.jzon_base.proofs.Common.{ℕ, ◌<◌, length, map, take, get_or}
use Rattle.jzon_tree.specs.Entries.{entries_of}
use Rattle.jzon_tree.specs.Generator.{Added, positions}
use Rattle.jzon_tree.specs.Lawful.{AreValues, IsPair}
use Rattle.jzon_tree.specs.Private.Printing.{ArePrintedItems, ArePrintedMembers, pair_at}
use Rattle.jzon_tree.specs.View.{view, view_values, viewed}
use Rattle.jzon_tree.proofs.codegen.driver.+write_value.Given as goal

-- the elements before this one are written
abbrev pub invariant-write_items-loop-index : goal.invariant-write_items-loop-index
invariant-write_items-loop-index g l =
    let a = g.G.Generator.meaning l.initial.g in
    Added (ArePrintedItems a.style a.dent (map view (take l.index l.items))) a (g.G.Generator.meaning l.g)
    × AreValues (view_values (take l.index l.items))

-- the entries at the positions before this one are written
abbrev pub invariant-write_members-loop-index : goal.invariant-write_members-loop-index
invariant-write_members-loop-index g l =
    let a = g.G.Generator.meaning l.initial.g in
    let es = viewed (entries_of l.object) in
    let ps = positions (length (entries_of l.object)) l.order in
    Added (ArePrintedMembers a.style a.dent es (take l.index ps)) a (g.G.Generator.meaning l.g)
    × ((k : ℕ) → k < l.index → IsPair (pair_at es (get_or ps k 0)))
