-- What an error of a reading says is expected. Of the words of a caller's own test nothing is known.
use Rattle.std.specs.Prelude.{◌≡◌, ◌<◌, ◌≤◌, ◌^◌, ⊤, FitsSigned, None, false, true}
use Rattle.std.specs.Int.{w8, w16, w32, w64}
use Rattle.jzon.specs.Decimal.{SomeWhere}
use Rattle.jzon.specs.Readers.{count, exact_fixed_point_in, is_array, is_object, number_in, text_in, truth_in}
use Rattle.jzon.specs.Value.{Value}
use Rattle.jzon_typed.specs.Integers.{natural_in, whole_in}
use Rattle.jzon_pointer.specs.declared.error.parts.Expected.{Expected}
use Rattle.jzon_pointer.specs.declared.error.parts.Expected.TheVariants.{Value as Anything, String, Boolean, Number, Array, Object, U8, U16, U32, U64, I8, I16, I32, I64, Fixed, AtMost, Above, Exactly, Other}

-- the value isn't what is expected: the reader of this kind returns `None`
abbrev pub Refuses : Expected → Value → Type 0
Refuses Anything v = ⊥
Refuses String v = text_in v ≡ None
Refuses Boolean v = truth_in v ≡ None
Refuses Number v = number_in v ≡ None
Refuses Array v = is_array v ≡ false
Refuses Object v = is_object v ≡ false
Refuses U8 v = SomeWhere (natural_in v) (λ n. n < 2 ^ 8) None
Refuses U16 v = SomeWhere (natural_in v) (λ n. n < 2 ^ 16) None
Refuses U32 v = SomeWhere (natural_in v) (λ n. n < 2 ^ 32) None
Refuses U64 v = SomeWhere (natural_in v) (λ n. n < 2 ^ 64) None
Refuses I8 v = SomeWhere (whole_in v) (FitsSigned w8) None
Refuses I16 v = SomeWhere (whole_in v) (FitsSigned w16) None
Refuses I32 v = SomeWhere (whole_in v) (FitsSigned w32) None
Refuses I64 v = SomeWhere (whole_in v) (FitsSigned w64) None
Refuses (Fixed point) v = SomeWhere (exact_fixed_point_in v point) (FitsSigned w64) None
Refuses (AtMost most) v = most < count v
Refuses (Above n) v = count v ≤ n
Refuses (Exactly n) v = (is_array v ≡ true) × (count v ≡ n) → ⊥
Refuses (Other words) v = ⊤
