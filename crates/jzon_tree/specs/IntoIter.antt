-- What an iterator that owns an object's entries has left.
use Rattle.std.specs.Prelude.{ℕ, List}
use Rattle.std.specs.List.{zip}
use Rattle.std.specs.Vec.Iter.{into_iter_items}
use Rattle.jzon_tree.specs.declared.object.IntoIter.{IntoIter}
use Rattle.jzon_tree.specs.declared.value.JsonValue.{JsonValue}

-- the entries that are still to be yielded, in order
abbrev pub entries_left : IntoIter → List (List ℕ × JsonValue)
entries_left it = zip (into_iter_items it.keys) (into_iter_items it.values)
