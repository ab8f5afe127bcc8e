-- What a `&mut` to a part of a value refers to (docs/RULES.md, "Readers" and "Changers").
use Rattle.std.specs.Prelude.{◌≡◌, ℕ, List, [], ◌∷◌, ◌++◌, length, nat_lt, nat_eq, if◌then◌else◌, Option}
use Rattle.std.specs.Prelude.{None, Some}
use Rattle.std.specs.Global.{Vec}
use denote.Hole.Carrier.{roll}
use Rattle.std.proofs.Common.{ap}
use Rattle.jzon_tree.specs.Entries.{entries_of, with_entries}
use Rattle.jzon_tree.specs.Value.{Value, array, list_of_values}
use Rattle.jzon_tree.specs.declared.object.Object.{Object}
use Rattle.jzon_tree.specs.declared.value.JsonValue.{JsonValue, out-JsonValue, Null, Object as object_value}
use Rattle.jzon_tree.specs.declared.value.JsonValue.{Array as array_value, roll-JsonValue, out-roll-JsonValue}
use Rattle.jzon_tree.specs.declared.value.JsonValue.TheOpen.{JsonValue-F}

abbrev object_at : JsonValue-F JsonValue Object → Option Object
object_at (JsonValue-F.Object o) = Some o
object_at _ = None

-- the object in a value, if it is one
abbrev pub object_in : JsonValue → Option Object
object_in v = object_at (out-JsonValue v)

abbrev entries_at : JsonValue-F JsonValue Object → List (List ℕ × JsonValue)
entries_at (JsonValue-F.Object o) = entries_of o
entries_at _ = []

-- the entries of an object; none of another value
abbrev pub entries_in : JsonValue → List (List ℕ × JsonValue)
entries_in v = entries_at (out-JsonValue v)

abbrev items_at : JsonValue-F JsonValue Object → Option (List JsonValue)
items_at (JsonValue-F.Array vs) = Some vs.items
items_at _ = None

-- the elements of an array, if the value is one
abbrev pub items_in : JsonValue → Option (List JsonValue)
items_in v = items_at (out-JsonValue v)

-- the elements of an array, if the `Value` is one
abbrev pub items_of : Value → Option (List Value)
items_of (array vs) = Some (list_of_values vs)
items_of _ = None

-- The elements once there is one for index i: the same if i is in range, else one null more; of a value that isn't an
-- array, one null for i = 0 and two for any other i.
abbrev pub with_place : {V : Type 0} → V → Option (List V) → ℕ → List V
with_place null (Some xs) i = if nat_lt i (length xs) then xs else xs ++ null ∷ []
with_place null None i = if nat_eq i 0 then null ∷ [] else null ∷ null ∷ []

-- The position of that element: i if it is in range, else that of the appended null; in an array made anew 0 for i = 0,
-- and 1 for any other i.
abbrev pub place_in : {V : Type 0} → Option (List V) → ℕ → ℕ
place_in (Some xs) i = if nat_lt i (length xs) then i else length xs
place_in None i = if nat_eq i 0 then 0 else 1

-- the elements of a value once `at_index_mut` has made sure that there is one for index i
abbrev pub items_with_place : JsonValue → ℕ → List JsonValue
items_with_place v i = with_place Null (items_in v) i

-- the position of the element that it returns
abbrev pub place_made : JsonValue → ℕ → ℕ
place_made v i = place_in (items_in v) i

-- ---- an object or array value has what it was built from

-- an object has the entries that it was built from
pub entries_in-object : (ps : List (List ℕ × JsonValue)) → entries_in (object_value (with_entries ps)) ≡ ps
unfolding roll-JsonValue out-JsonValue roll
entries_in-object ps = ap entries_at (out-roll-JsonValue (JsonValue-F.Object (with_entries ps)))

-- an array has the elements that it was built from
pub items_in-array : (vs : Vec JsonValue) → items_in (array_value vs) ≡ Some vs.items
unfolding roll-JsonValue out-JsonValue roll
items_in-array vs = ap items_at (out-roll-JsonValue (JsonValue-F.Array vs))
