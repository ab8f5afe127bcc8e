-- How much a value weighs: about the bytes of memory that a copy takes.
use Rattle.std.specs.Prelude.{ℕ, ◌+◌, length}
use Rattle.jzon.specs.Value.{Value, null, boolean, text, number, array, object, Values, no_values, value, ValuePairs}
use Rattle.jzon.specs.Value.{no_pairs, pair}

abbrev mutual
  -- 48 for each value in it, and the bytes of its strings and keys
  pub weight : Value → ℕ
  weight null = 48
  weight (boolean b) = 48
  weight (text k s) = 48 + length s
  weight (number n) = 48
  weight (array vs) = 48 + weight_values vs
  weight (object ps) = 48 + weight_pairs ps

  -- of elements
  pub weight_values : Values → ℕ
  weight_values no_values = 0
  weight_values (value v vs) = weight v + weight_values vs

  -- of entries
  pub weight_pairs : ValuePairs → ℕ
  weight_pairs no_pairs = 0
  weight_pairs (pair k v ps) = length k + weight v + weight_pairs ps
