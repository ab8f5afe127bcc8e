-- JSON values (RFC 8259, sections 3 to 7). A string and a key are their bytes in UTF-8.
use Rattle.std.specs.Prelude.{ℕ, suc, max, List, [], ◌∷◌, length, nat_le, Bool, if◌then◌else◌}
use Rattle.jzon_base.specs.Decimal.{Decimal}

-- how a string is stored: inline or allocated; equality and texts don't depend on it
pub data Kind : Type 0 where
  short : Kind
  long : Kind

-- JSON values as plain data. A program's objects have distinct keys.
mutual
  -- a value
  pub data Value : Type 0 where
    null : Value
    boolean : Bool → Value
    text : Kind → List ℕ → Value
    number : Decimal → Value
    array : Values → Value
    object : ValuePairs → Value

  -- the elements of an array
  pub data Values : Type 0 where
    no_values : Values
    value : Value → Values → Values

  -- the entries of an object
  pub data ValuePairs : Type 0 where
    no_pairs : ValuePairs
    pair : List ℕ → Value → ValuePairs → ValuePairs

-- the kind of a string read from a text: short up to 30 bytes
abbrev pub kind_of : List ℕ → Kind
kind_of bytes = if nat_le (length bytes) 30 then short else long

-- ---- conversions to and from lists

-- the values of a list
abbrev pub values_of : List Value → Values
values_of [] = no_values
values_of (v ∷ vs) = value v (values_of vs)

-- the entries of a list
abbrev pub pairs_of : List (List ℕ × Value) → ValuePairs
pairs_of [] = no_pairs
pairs_of (p ∷ ps) = pair p.0 p.1 (pairs_of ps)

-- values as a list
abbrev pub list_of_values : Values → List Value
list_of_values no_values = []
list_of_values (value v vs) = v ∷ list_of_values vs

-- entries as a list
abbrev pub list_of_pairs : ValuePairs → List (List ℕ × Value)
list_of_pairs no_pairs = []
list_of_pairs (pair k v ps) = (k, v) ∷ list_of_pairs ps

-- ---- the nesting depth of non-empty containers

abbrev mutual
  -- how many non-empty containers nest in the value
  pub nest : Value → ℕ
  nest null = 0
  nest (boolean b) = 0
  nest (text k s) = 0
  nest (number n) = 0
  nest (array no_values) = 0
  nest (array (value v vs)) = suc (max (nest v) (most_nest vs))
  nest (object no_pairs) = 0
  nest (object (pair k v ps)) = suc (max (nest v) (most_nest_under ps))

  -- the greatest depth of these values
  pub most_nest : Values → ℕ
  most_nest no_values = 0
  most_nest (value v vs) = max (nest v) (most_nest vs)

  -- the greatest depth of the values of these entries
  pub most_nest_under : ValuePairs → ℕ
  most_nest_under no_pairs = 0
  most_nest_under (pair k v ps) = max (nest v) (most_nest_under ps)
