-- What the digits of a number in a text mean (RFC 8259, section 6; docs/RULES.md, "Numbers"). A digit is its character,
-- 48 to 57.
use Rattle.std.specs.Prelude.{ℕ, zero, suc, ℤ, pos, negsuc, ◌+ℤ◌, ◌-ℤ◌, ◌+◌, ◌*◌, ◌^◌, ◌-◌, ◌≤◌, Bool, nat_lt}
use Rattle.std.specs.Prelude.{if◌then◌else◌, List, ◌++◌, length, take}
use Rattle.std.specs.List.{fold}
use Rattle.std.specs.Int.{int_min, int_max}
use Rattle.jzon_base.specs.Decimal.{Decimal, parts}

-- the characters `0` to `9`
abbrev pub IsDigit : ℕ → Type 0
IsDigit c = (48 ≤ c) × (c ≤ 57)

-- appends one digit
abbrev pub add_digit : ℕ → ℕ → ℕ
add_digit v c = v * 10 + (c - 48)

-- the number that digits spell
abbrev pub digits_number : List ℕ → ℕ
digits_number ds = fold add_digit 0 ds

-- appends one digit, given by its value
abbrev pub add_value : ℕ → ℕ → ℕ
add_value v d = v * 10 + d

-- the number that digits spell, given by their values
abbrev pub values_number : List ℕ → ℕ
values_number ds = fold add_value 0 ds

-- the greatest k up to n such that the first k digits spell a number below 2 ^ 64
abbrev pub longest_up_to : ℕ → List ℕ → ℕ
longest_up_to zero ds = 0
longest_up_to (suc n) ds = if nat_lt (digits_number (take (suc n) ds)) (2 ^ 64) then suc n else longest_up_to n ds

-- the length of the longest prefix that spells a number below 2 ^ 64
unfoldable pub kept_len : List ℕ → ℕ
kept_len ds = longest_up_to (length ds) ds

-- the longest prefix that spells a number below 2 ^ 64: the digits after it are dropped
abbrev pub kept : List ℕ → List ℕ
kept ds = take (kept_len ds) ds

-- how many of the digits before the point are dropped
abbrev pub dropped : List ℕ → List ℕ → ℕ
dropped whole fraction = length whole - kept_len (whole ++ fraction)

-- how many of the digits after the point are kept
abbrev pub kept_fraction : List ℕ → List ℕ → ℕ
kept_fraction whole fraction = kept_len (whole ++ fraction) - length whole

-- the nearest exponent of 16 bits, -32768 to 32767
abbrev pub clamp : ℤ → ℤ
clamp z = int_max (negsuc 32767) (int_min (pos 32767) z)

-- the exponent if none is written: how many digits are dropped before the point, minus how many after it are kept
abbrev pub own_power : List ℕ → List ℕ → ℤ
own_power whole fraction = pos (dropped whole fraction) -ℤ pos (kept_fraction whole fraction)

-- the exponent: the written one is added exactly, and the sum is clamped once
abbrev pub read_exponent : List ℕ → List ℕ → ℤ → ℤ
read_exponent whole fraction written = clamp (own_power whole fraction +ℤ written)

-- the number of a text, from its sign, its digits before and after the point, and its written exponent
abbrev pub number_read : Bool → List ℕ → List ℕ → ℤ → Decimal
number_read positive whole fraction written =
    parts positive (digits_number (kept (whole ++ fraction))) (read_exponent whole fraction written)
