-- The value that a `JsonValue` stands for.
use Rattle.std.specs.Prelude.{ℕ, List, map, string_bytes}
use Rattle.jzon_tree.specs.Value.{Value, Values, ValuePairs, null, boolean, number, text, array, object, short, long}
use Rattle.jzon_tree.specs.Value.{values_of, pairs_of}
use Rattle.jzon_tree.specs.Entries.{entries_of}
use Rattle.jzon_tree.specs.declared.object.Object.{Object}
use Rattle.jzon_tree.specs.declared.value.JsonValue.{JsonValue, fold-JsonValue}
use Rattle.jzon_tree.specs.declared.value.JsonValue.TheOpen.{JsonValue-F, Object-F}

-- one level, given the views of the values inside
abbrev pub value_step : JsonValue-F Value ValuePairs → Value
value_step JsonValue-F.Null = null
value_step (JsonValue-F.Short s) = text short s
value_step (JsonValue-F.String s) = text long (string_bytes s)
value_step (JsonValue-F.Number n) = number n
value_step (JsonValue-F.Boolean b) = boolean b
value_step (JsonValue-F.Object ps) = object ps
value_step (JsonValue-F.Array vs) = array (values_of vs.items)

-- the entries of an object, given the views of their values
abbrev pub object_step : Object-F Value ValuePairs → ValuePairs
object_step o = pairs_of o.pairs

-- the value, as plain data, for which a `JsonValue` stands
abbrev pub view : JsonValue → Value
view = fold-JsonValue Value ValuePairs value_step object_step

-- the same for a list of values
abbrev pub view_values : List JsonValue → Values
view_values vs = values_of (map view vs)

-- the same for the values of a list of entries
abbrev pub viewed : List (List ℕ × JsonValue) → List (List ℕ × Value)
viewed ps = map (λ p. (p.0, view p.1)) ps

-- the same, as the entries of an object
abbrev pub view_pairs : List (List ℕ × JsonValue) → ValuePairs
view_pairs ps = pairs_of (viewed ps)

-- the value, as plain data, for which an `Object` stands
abbrev pub view_object : Object → Value
view_object o = object (view_pairs (entries_of o))
