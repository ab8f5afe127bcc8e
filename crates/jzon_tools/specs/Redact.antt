-- A value in which each member with one of some names is the string `***`, at any depth.
use Rattle.std.specs.Prelude.{ℕ, ◌+◌, List, Bool, false, Option, None, Some, codes, if◌then◌else◌}
use Rattle.jzon.specs.Value.{Value, null, boolean, text, number, array, object, Values, no_values, value, ValuePairs}
use Rattle.jzon.specs.Value.{no_pairs, pair, short}
use Rattle.jzon_pointer.specs.Names.{is_among}

-- what replaces a member's value
abbrev pub hidden : Value
hidden = text short (codes "***")

-- whether the name of a member that may be there is one of them
abbrev pub names_among : {V : Type 0} → List (List ℕ) → Option (List ℕ × V) → Bool
names_among names None = false
names_among names (Some p) = is_among names p.0

abbrev mutual
  -- the value in which each entry with one of these names has the value "***"
  pub redacted : List (List ℕ) → Value → Value
  redacted names null = null
  redacted names (boolean b) = boolean b
  redacted names (text k s) = text k s
  redacted names (number n) = number n
  redacted names (array vs) = array (redacted_values names vs)
  redacted names (object ps) = object (redacted_pairs names ps)

  -- the same of elements
  pub redacted_values : List (List ℕ) → Values → Values
  redacted_values names no_values = no_values
  redacted_values names (value v vs) = value (redacted names v) (redacted_values names vs)

  -- the same of entries
  pub redacted_pairs : List (List ℕ) → ValuePairs → ValuePairs
  redacted_pairs names no_pairs = no_pairs
  redacted_pairs names (pair k v ps) =
      pair k (if is_among names k then hidden else redacted names v) (redacted_pairs names ps)

-- one member
abbrev pub redacted_member : List (List ℕ) → List ℕ × Value → List ℕ × Value
redacted_member names p = (p.0, if is_among names p.0 then hidden else redacted names p.1)

abbrev mutual
  -- how many entries are hidden: inside one that is hidden, no more are counted
  pub hidden_count : List (List ℕ) → Value → ℕ
  hidden_count names null = 0
  hidden_count names (boolean b) = 0
  hidden_count names (text k s) = 0
  hidden_count names (number n) = 0
  hidden_count names (array vs) = hidden_count_values names vs
  hidden_count names (object ps) = hidden_count_pairs names ps

  -- the same of elements
  pub hidden_count_values : List (List ℕ) → Values → ℕ
  hidden_count_values names no_values = 0
  hidden_count_values names (value v vs) = hidden_count names v + hidden_count_values names vs

  -- the same of entries
  pub hidden_count_pairs : List (List ℕ) → ValuePairs → ℕ
  hidden_count_pairs names no_pairs = 0
  hidden_count_pairs names (pair k v ps) =
      (if is_among names k then 1 else hidden_count names v) + hidden_count_pairs names ps

-- the same of one member
abbrev pub hidden_count_member : List (List ℕ) → List ℕ × Value → ℕ
hidden_count_member names p = if is_among names p.0 then 1 else hidden_count names p.1
