-- The number that the text of a decimal means.
use Rattle.std.specs.Prelude.{◌≡◌, ◌⊎◌, ℕ, List, Bool, true, false, not, length, drop, slice_index}
use Rattle.std.specs.Float.Numeral.{scan_numeral}
use Rattle.jzon_base.specs.Decimal.{Decimal, parts}
use Rattle.jzon_base.specs.LostDigits.{NumberDigits, number_digits, mantissa_and_exponent, IsReadableNumber}

-- the digits before and after a point, and those of an exponent, with which a text begins
abbrev pub digits_of : List ℕ → NumberDigits
digits_of t = number_digits (scan_numeral t).whole (scan_numeral t).fraction (not (scan_numeral t).exponent_negative) (scan_numeral t).exponent

-- the text has no more than these digits, none of which is lost in the number of this sign
abbrev pub MeansWith : Bool → List ℕ → Decimal → Type 0
MeansWith positive t d = ((scan_numeral t).len ≡ length t) × IsReadableNumber true (digits_of t)
    × (d ≡ parts positive (mantissa_and_exponent (digits_of t)).0 (mantissa_and_exponent (digits_of t)).1)

-- the number of a text that may begin with a minus (45), with which none without a sign begins
abbrev pub Means : List ℕ → Decimal → Type 0
Means t d = MeansWith true t d ⊎ ((slice_index t 0 ≡ 45) × MeansWith false (drop 1 t) d)
