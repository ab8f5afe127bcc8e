use Rattle.jzon_base.proofs.Common.{◌≡◌, ◌≤◌, take, map, length}
use Rattle.jzon_tree.specs.View.{view}
use Rattle.jzon_tree.proofs.+copy.Given as goal

abbrev pub invariant-clone::copy_items-loop-item : goal.invariant-clone::copy_items-loop-item
invariant-clone::copy_items-loop-item l = record {
  copied : map view l.copies.items ≡ map view (take l.item-index l.items);
  counted : l.copies.len ≡ l.item-index;
  room : length l.items ≤ l.copies.cap;
}
