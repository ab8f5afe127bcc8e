-- What each reader returns for a value (docs/RULES.md, "Readers").
use Rattle.std.specs.Prelude.{ℕ, ℤ, List, [], length, Bool, true, false, not, ◌||◌, ◌==◌, Option, None, Some}
use Rattle.std.specs.Prelude.{option_and_then}
use Rattle.jzon_base.specs.Decimal.{Decimal, is_zero, is_nan, integer_of, unsigned_of, fixed_point}
use Rattle.jzon_base.specs.Decimal.{unsigned_fixed_point, exact_fixed_point, exact_unsigned_fixed_point}
use Rattle.jzon_tree.specs.Value.{Value, null, boolean, text, number, array, object, list_of_values, list_of_pairs}

-- ---- the kind of a value

-- whether it is null
abbrev pub is_null : Value → Bool
is_null null = true
is_null _ = false

-- whether it is a boolean
abbrev pub is_boolean : Value → Bool
is_boolean (boolean b) = true
is_boolean _ = false

-- whether it is a number; NaN is one
abbrev pub is_number : Value → Bool
is_number (number n) = true
is_number _ = false

-- whether it is a string, inline or allocated
abbrev pub is_text : Value → Bool
is_text (text k s) = true
is_text _ = false

-- whether it is an object
abbrev pub is_object : Value → Bool
is_object (object ps) = true
is_object _ = false

-- whether it is an array
abbrev pub is_array : Value → Bool
is_array (array vs) = true
is_array _ = false

-- ---- its content

-- the boolean, if the value is one
abbrev pub truth_in : Value → Option Bool
truth_in (boolean b) = Some b
truth_in _ = None

-- the number, if the value is one
abbrev pub number_in : Value → Option Decimal
number_in (number n) = Some n
number_in _ = None

-- the number as an integer of any size, if its exponent is 0
abbrev pub integer_in : Value → Option ℤ
integer_in v = option_and_then integer_of (number_in v)

-- the number as an integer of any size, if its exponent is 0 and its sign is positive
abbrev pub unsigned_in : Value → Option ℕ
unsigned_in v = option_and_then unsigned_of (number_in v)

-- the number with its point moved right by `point` digits, truncated to an integer
abbrev pub fixed_point_in : Value → ℕ → Option ℤ
fixed_point_in v point = option_and_then (λ n. fixed_point n point) (number_in v)

-- `fixed_point_in`, if the sign is positive
abbrev pub unsigned_fixed_point_in : Value → ℕ → Option ℕ
unsigned_fixed_point_in v point = option_and_then (λ n. unsigned_fixed_point n point) (number_in v)

-- the number with its point moved right by `point` digits, if that is an integer
abbrev pub exact_fixed_point_in : Value → ℕ → Option ℤ
exact_fixed_point_in v point = option_and_then (λ n. exact_fixed_point n point) (number_in v)

-- `exact_fixed_point_in`, if the sign is positive
abbrev pub exact_unsigned_fixed_point_in : Value → ℕ → Option ℕ
exact_unsigned_fixed_point_in v point = option_and_then (λ n. exact_unsigned_fixed_point n point) (number_in v)

-- the bytes of the string, if the value is one
abbrev pub text_in : Value → Option (List ℕ)
text_in (text k s) = Some s
text_in _ = None

-- the value, if it is an object
abbrev pub object_of : Value → Option Value
object_of (object ps) = Some (object ps)
object_of _ = None

-- the value, if it is an array
abbrev pub array_of : Value → Option Value
array_of (array vs) = Some (array vs)
array_of _ = None

-- the elements of an array in their order; none of another value
abbrev pub items : Value → List Value
items (array vs) = list_of_values vs
items _ = []

-- the entries of an object in their order; none of another value
abbrev pub entries : Value → List (List ℕ × Value)
entries (object ps) = list_of_pairs ps
entries _ = []

-- the number of entries or elements; 0 of any other value
abbrev pub count : Value → ℕ
count (object ps) = length (list_of_pairs ps)
count (array vs) = length (list_of_values vs)
count _ = 0

-- null, false, a zero, NaN, an empty string or an empty container
abbrev pub is_empty : Value → Bool
is_empty null = true
is_empty (boolean b) = not b
is_empty (number n) = is_zero n || is_nan n
is_empty (text k s) = length s == 0
is_empty (object ps) = length (list_of_pairs ps) == 0
is_empty (array vs) = length (list_of_values vs) == 0

-- the value, or null if it is missing
abbrev pub or_null : Option Value → Value
or_null None = null
or_null (Some v) = v
