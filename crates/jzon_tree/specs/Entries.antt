-- The entries of an `Object`.
use Rattle.std.specs.Prelude.{ℕ, List}
use Rattle.jzon_tree.specs.declared.object.Object.{Object}
use Rattle.jzon_tree.specs.declared.value.JsonValue.{JsonValue}

-- its keys and values, in their order
abbrev pub entries_of : Object → List (List ℕ × JsonValue)
entries_of o = o.pairs

-- the object with these entries
abbrev pub with_entries : List (List ℕ × JsonValue) → Object
with_entries ps = record { pairs = ps }
