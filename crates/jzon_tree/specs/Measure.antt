-- Sizes of values, as the measure of functions that recurse into a value.
use Rattle.std.specs.Prelude.{ℕ, List}
use denote.Param.Weighed.{most}
use Rattle.jzon_base.specs.PairList.{values_of}
use Rattle.jzon_tree.specs.declared.value.JsonValue.{JsonValue, size-JsonValue}

-- a value is larger than each value inside it
abbrev pub size : JsonValue → ℕ
size v = size-JsonValue v

-- the size of the largest of these values
abbrev pub largest : List JsonValue → ℕ
largest vs = most size-JsonValue vs

-- the size of the largest value of these entries
abbrev pub largest_under : List (List ℕ × JsonValue) → ℕ
largest_under ps = most size-JsonValue (values_of ps)
