-- What an error says of a value that isn't what is expected. Of a string it repeats at most 40 characters.
use Rattle.std.specs.Prelude.{◌≡◌, ◌<◌, ◌≤◌, ◌^◌, ◌/◌, ℕ, pos, List, Bool, Some, MatchOption, chars, length, string_bytes, false, true, not, ◌&&◌, nat_lt}
use Rattle.std.specs.Ordering.{int_eq}
use Rattle.jzon.specs.Decimal.{Decimal, nan, parts}
use Rattle.jzon.specs.Readers.{count, is_array, is_object, text_in}
use Rattle.jzon.specs.Value.{Value, null, boolean, number}
use Rattle.jzon_pointer.specs.declared.error.parts.Found.{Found}
use Rattle.jzon_pointer.specs.declared.error.parts.Found.TheVariants.{Null, Boolean, Number, String, LongString, Array, Object, Hidden}
use Rattle.jzon_pointer.specs.declared.pointer.Primitive.{Primitive}
use Rattle.jzon_pointer.specs.declared.pointer.Primitive.TheVariants as primitive

-- the value has this type
abbrev pub IsPrimitive : Primitive → Value → Type 0
IsPrimitive primitive.Null v = v ≡ null
IsPrimitive primitive.Boolean v = (b : Bool) × (v ≡ boolean b)
IsPrimitive primitive.Number v = (n : Decimal) × (v ≡ number n)
IsPrimitive primitive.String v = (s : List ℕ) × (text_in v ≡ Some s)

-- it describes this value
abbrev pub FoundIs : Found → Value → Type 0
FoundIs Null v = v ≡ null
FoundIs (Boolean b) v = v ≡ boolean b
FoundIs (Number n) v = v ≡ number n
FoundIs (String s) v = (text_in v ≡ Some (string_bytes s)) × (length (chars (string_bytes s)) ≤ 40)
FoundIs (LongString n) v = MatchOption (text_in v) ⊥ (λ s. (n ≡ length (chars s)) × (40 < n))
FoundIs (Array n) v = (is_array v ≡ true) × (n ≡ count v)
FoundIs (Object n) v = (is_object v ≡ true) × (n ≡ count v)
FoundIs (Hidden p) v = IsPrimitive p v

-- whether it has more of a value than its type and its size
abbrev pub shows_value : Found → Bool
shows_value (Boolean b) = true
shows_value (Number n) = true
shows_value (String s) = true
shows_value (LongString n) = true
shows_value _ = false

-- Digits of the number may have been cut where its text was read: its exponent isn't 0, and a mantissa of 64 bits has no
-- room for each further digit.
abbrev pub may_be_cut : Decimal → Bool
may_be_cut nan = false
may_be_cut (parts positive m e) = not (int_eq e (pos 0)) && not (nat_lt m (2 ^ 64 / 10))
