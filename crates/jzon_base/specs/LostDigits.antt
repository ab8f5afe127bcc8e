-- What is lost if a number in a text is kept as a `Number` (docs/RULES.md, "Readings"): a dropped digit that isn't 0,
-- or the exponent, if it is clamped and the number isn't 0.
use Rattle.std.specs.Prelude.{◌≡◌, ℕ, suc, ℤ, ◌-◌, ◌+ℤ◌, ◌<◌, Bool, true, false, not, ◌&&◌, ◌==◌, nat_lt, List, ◌++◌}
use Rattle.std.specs.Prelude.{length, take, slice_index}
use Rattle.std.specs.Ordering.{int_eq}
use Rattle.jzon_base.specs.Tokens.{zero_digit}
use Rattle.jzon_base.specs.Decimal.{signed}
use Rattle.jzon_base.specs.Digits.{digits_number, kept_len, kept, clamp, own_power, read_exponent}
use Rattle.jzon_base.specs.DigitLimits.{AreFewEnough, IsFirstTooMany}
use Rattle.jzon_base.specs.declared.digits.NumberFault.{NumberFault}
use Rattle.jzon_base.specs.declared.digits.NumberFault.TheVariants.{TooMany, Lost, OutOfRange}

-- ---- prefixes of digits

-- p holds of none of the prefixes that end before position n
abbrev pub HoldsOfNoneBefore : (List ℕ → Bool) → List ℕ → ℕ → Type 0
HoldsOfNoneBefore p ds n = (i : ℕ) → i < n → p (take (suc i) ds) ≡ false

-- p holds of no prefix of these digits, except perhaps the empty one
abbrev pub HoldsOfNone : (List ℕ → Bool) → List ℕ → Type 0
HoldsOfNone p ds = HoldsOfNoneBefore p ds (length ds)

-- the prefix that ends with the digit at position i is the first of which p holds
abbrev pub IsFirst : (List ℕ → Bool) → List ℕ → ℕ → Type 0
IsFirst p ds i = (i < length ds) × (p (take (suc i) ds) ≡ true) × HoldsOfNoneBefore p ds i

-- ---- what is lost

-- the last of these digits is dropped, and isn't 0
unfoldable pub loses_last : List ℕ → Bool
loses_last ds = nat_lt (kept_len ds) (length ds) && not (slice_index ds (length ds - 1) == zero_digit)

-- the mantissa isn't 0, and the exponent isn't one of 16 bits
unfoldable pub is_out_of_range : ℕ → ℤ → Bool
is_out_of_range mantissa exponent = not (mantissa == 0) && not (int_eq (clamp exponent) exponent)

-- with a written exponent of this sign and these digits the number is out of range
abbrev pub leaves_range : List ℕ → List ℕ → (ℕ → ℤ) → List ℕ → Bool
leaves_range whole fraction sign exponent =
    is_out_of_range (digits_number (kept (whole ++ fraction))) (own_power whole fraction +ℤ sign (digits_number exponent))

-- no digit up to this position exceeds a limit
abbrev pub IsWithinLimits : List ℕ → List ℕ → ℕ → Type 0
IsWithinLimits whole fraction i = (n : ℕ) → IsFirstTooMany whole fraction n → i < n

-- the digit at this position is the first that is lost, and no digit up to it exceeds a limit
abbrev pub IsFirstLost : List ℕ → List ℕ → ℕ → Type 0
IsFirstLost whole fraction i = IsFirst loses_last (whole ++ fraction) i × IsWithinLimits whole fraction i

-- ---- a whole number

-- the digits of a number before and after its point, and the sign and the digits of its exponent
pub record NumberDigits : Type 0 where
  pub whole : List ℕ
  pub fraction : List ℕ
  pub positive : Bool
  pub exponent : List ℕ

-- the digits of a number that has these
abbrev pub number_digits : List ℕ → List ℕ → Bool → List ℕ → NumberDigits
number_digits w f b e = record { whole = w; fraction = f; positive = b; exponent = e }

-- the exponent as it is written
abbrev pub written : NumberDigits → ℤ
written d = signed d.positive (digits_number d.exponent)

-- the mantissa and the exponent of the number that is read
abbrev pub mantissa_and_exponent : NumberDigits → ℕ × ℤ
mantissa_and_exponent d = (digits_number (kept (d.whole ++ d.fraction)), read_exponent d.whole d.fraction (written d))

-- No digit exceeds a limit, and if the number must be exact, nothing is lost.
abbrev pub IsReadableNumber : Bool → NumberDigits → Type 0
IsReadableNumber exact d = AreFewEnough d.whole d.fraction
    × (exact ≡ true → HoldsOfNone loses_last (d.whole ++ d.fraction)
    × HoldsOfNone (leaves_range d.whole d.fraction (signed d.positive)) d.exponent)

-- the first digit for which it can't be read
abbrev pub IsFirstNumberFault : Bool → NumberDigits → NumberFault → Type 0
IsFirstNumberFault exact d (TooMany i) = IsFirstTooMany d.whole d.fraction i
    × (exact ≡ true → HoldsOfNoneBefore loses_last (d.whole ++ d.fraction) i)
IsFirstNumberFault exact d (Lost i) = (exact ≡ true) × IsFirstLost d.whole d.fraction i
IsFirstNumberFault exact d (OutOfRange i) = (exact ≡ true) × AreFewEnough d.whole d.fraction
    × HoldsOfNone loses_last (d.whole ++ d.fraction)
    × IsFirst (leaves_range d.whole d.fraction (signed d.positive)) d.exponent i
