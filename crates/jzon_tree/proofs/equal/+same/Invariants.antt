use Rattle.jzon_base.proofs.Common.{◌≡◌, length, zip_first, zip_second, iter_rest}
use Rattle.jzon_tree.specs.Entries.{entries_of}
use Rattle.jzon_tree.proofs.Values.Comparisons.{ComparedItems, ComparedPairs, LeftEntries}
use Rattle.jzon_tree.proofs.equal.+same.Given as goal

abbrev pub invariant-same_array-loop-item : goal.invariant-same_array-loop-item
invariant-same_array-loop-item l = ComparedItems l.items l.others (iter_rest (zip_first l.item-iterator))
    (iter_rest (zip_second l.item-iterator))

abbrev pub invariant-ObjectPartialEq::eq-loop-key : goal.invariant-ObjectPartialEq::eq-loop-key
invariant-ObjectPartialEq::eq-loop-key l =
    ComparedPairs (entries_of l.self) (entries_of l.other) (zip_first l.key-iterator)
    × LeftEntries (entries_of l.other) (zip_second l.key-iterator)
    × (length (zip_first l.key-iterator) ≡ length (zip_second l.key-iterator))
