-- What a number is: an exact decimal, or not a number (RFC 8259, section 6, leaves range and precision open;
-- docs/RULES.md, "Numbers").
use Rattle.std.specs.Prelude.{◌≡◌, ◌≢◌, ℕ, ℤ, pos, negsuc, neg_ℤ, suc, ◌+◌, ◌*◌, ◌^◌, ◌-◌, ◌/◌, ◌%◌, ◌≤ℤ◌, ◌<ℤ◌, ◌+ℤ◌}
use Rattle.std.specs.Prelude.{◌⊎◌, Bool, true, false, not, ◌&&◌, ◌||◌, ◌==◌, if◌then◌else◌, Option, Some, None, Result}
use Rattle.std.specs.Prelude.{IsErr, OkIff, IsNone, SomeIff, IsTrue, ◌≤◌}
use Rattle.std.specs.Ordering.{int_eq}
use Rattle.std.specs.Bool.{beq}

-- NaN, or a sign (whether it is positive), a mantissa and a decimal exponent: mantissa * 10 ^ exponent
pub data Decimal : Type 0 where
  nan : Decimal
  parts : Bool → ℕ → ℤ → Decimal

-- the parts that the accessors return: those of NaN are (false, 0, 0)
abbrev pub parts_of : Decimal → Bool × ℕ × ℤ
parts_of nan = (false, 0, pos 0)
parts_of (parts positive m e) = (positive, m, e)

-- whether it is NaN
abbrev pub is_nan : Decimal → Bool
is_nan nan = true
is_nan (parts positive m e) = false

-- whether it is zero; NaN isn't
abbrev pub is_zero : Decimal → Bool
is_zero nan = false
is_zero (parts positive m e) = m == 0

-- whether its sign is positive; NaN's isn't
abbrev pub is_positive : Decimal → Bool
is_positive nan = false
is_positive (parts positive m e) = positive

-- the opposite sign; NaN stays NaN
abbrev pub negated : Decimal → Decimal
negated nan = nan
negated (parts positive m e) = parts (not positive) m e

-- e + 32768, which isn't negative for an exponent of 16 bits
abbrev pub shifted : ℤ → ℕ
shifted (pos n) = 32768 + n
shifted (negsuc n) = 32767 - n

-- m * 10 ^ (e + 32768): an integer for each exponent of 16 bits, by which two decimals are compared exactly
unfoldable pub scaled : ℕ → ℤ → ℕ
scaled m e = m * 10 ^ shifted e

-- Equality as numbers: NaN equals only itself, all zeros are equal whatever their sign and exponent, and any other two
-- are equal if the signs agree and the exact decimals are equal.
abbrev pub same_decimal : Decimal → Decimal → Bool
same_decimal nan nan = true
same_decimal nan (parts q n f) = false
same_decimal (parts p m e) nan = false
same_decimal (parts p m e) (parts q n f) = ((m == 0) && (n == 0)) || (beq p q && (scaled m e == scaled n f))

-- n * 10 ^ f is m * 10 ^ e with its trailing zeros stripped while the exponent is negative
pub record IsStripped (m : ℕ) (e : ℤ) (n : ℕ) (f : ℤ) : Type 0 where
  pub decimal : scaled n f ≡ scaled m e
  pub not_below : e ≤ℤ f
  pub not_past : (f ≡ e) ⊎ (f ≤ℤ pos 0)
  pub no_zero : f <ℤ pos 0 → n % 10 ≢ 0

-- the number has this sign, and m and e with the trailing zeros of m stripped while e is negative
abbrev pub StripsTo : Bool → ℕ → ℤ → Decimal → Type 0
StripsTo positive m e nan = ⊥
StripsTo positive m e (parts q n f) = (q ≡ positive) × IsStripped m e n f

-- ---- readings as integers

-- n with a sign
abbrev pub signed : Bool → ℕ → ℤ
signed true n = pos n
signed false n = neg_ℤ (pos n)

-- the decimal that an integer is
abbrev pub integer_parts : ℤ → Decimal
integer_parts (pos n) = parts true n (pos 0)
integer_parts (negsuc n) = parts false (suc n) (pos 0)

-- a number as an integer, if its exponent is 0 (5e2 isn't an integer here)
abbrev pub integer_of : Decimal → Option ℤ
integer_of nan = None
integer_of (parts positive m e) = if int_eq e (pos 0) then Some (signed positive m) else None

-- the integer that a number is written as, if its exponent is 0 and its sign is positive (-0 has none)
abbrev pub unsigned_of : Decimal → Option ℕ
unsigned_of nan = None
unsigned_of (parts true m e) = if int_eq e (pos 0) then Some m else None
unsigned_of (parts false m e) = None

-- `Ok` of the number in o if there is one and P holds of it, else `Err`
abbrev pub OkWhere : {T E : Type 0} → Option T → (T → Type 0) → Result T E → Type 0
OkWhere None P r = IsErr r
OkWhere (Some v) P r = OkIff r (P v) v

-- `Some` of the number in o if there is one and P holds of it, else `None`
abbrev pub SomeWhere : {T : Type 0} → Option T → (T → Type 0) → Option T → Type 0
SomeWhere None P r = IsNone r
SomeWhere (Some v) P r = SomeIff r (P v) v

-- m * 10 ^ k, truncated to a whole number
abbrev pub whole_part : ℕ → ℤ → ℕ
whole_part m (pos k) = m * 10 ^ k
whole_part m (negsuc k) = m / 10 ^ (k + 1)

-- the fixed-point reading: mantissa * 10 ^ (exponent + point), truncated toward zero
abbrev pub fixed_point : Decimal → ℕ → Option ℤ
fixed_point nan point = None
fixed_point (parts positive m e) point = Some (signed positive (whole_part m (e +ℤ pos point)))

-- the fixed-point reading without a sign: none for a negative sign, even of -0
abbrev pub unsigned_fixed_point : Decimal → ℕ → Option ℕ
unsigned_fixed_point nan point = None
unsigned_fixed_point (parts true m e) point = Some (whole_part m (e +ℤ pos point))
unsigned_fixed_point (parts false m e) point = None

-- m * 10 ^ k is a whole number
abbrev pub is_whole : ℕ → ℤ → Bool
is_whole m (pos k) = true
is_whole m (negsuc k) = m % 10 ^ (k + 1) == 0

-- mantissa * 10 ^ (exponent + point) is a whole number: the fixed-point reading at this point loses no digit but zeros
abbrev pub is_whole_at : Decimal → ℕ → Bool
is_whole_at nan point = false
is_whole_at (parts positive m e) point = is_whole m (e +ℤ pos point)

-- the fixed-point reading, if it loses no digit but zeros
abbrev pub exact_fixed_point : Decimal → ℕ → Option ℤ
exact_fixed_point d point = if is_whole_at d point then fixed_point d point else None

-- the fixed-point reading without a sign, if it loses no digit but zeros
abbrev pub exact_unsigned_fixed_point : Decimal → ℕ → Option ℕ
exact_unsigned_fixed_point d point = if is_whole_at d point then unsigned_fixed_point d point else None

-- the number n * 10 ^ -point
abbrev pub integer_at : ℤ → ℕ → Decimal
integer_at (pos n) point = parts true n (neg_ℤ (pos point))
integer_at (negsuc n) point = parts false (suc n) (neg_ℤ (pos point))

-- the integer that is read at the point, divided by 10 ^ point again, is the number itself (its exponent fits in 16
-- bits if the point is at most 32768)
abbrev pub IsExactAt : Decimal → ℕ → Type 0
IsExactAt d point = point ≤ 32768 → (n : ℤ) → fixed_point d point ≡ Some n → IsTrue (same_decimal d (integer_at n point))
