-- The text of a number, as docs/RULES.md, "Printed numbers", has it. That is normative, whatever another printer does.
use Rattle.std.specs.Prelude.{ℕ, ℤ, pos, negsuc, ◌+◌, ◌-◌, ◌<◌, ◌≤◌, ◌≤ℤ◌, unsigned_abs, Bool, nat_le, nat_lt, ◌==◌}
use Rattle.std.specs.Prelude.{if◌then◌else◌, List, [], ◌++◌, length, take, drop, replicate, codes, decimal}
use Rattle.jzon_base.specs.Decimal.{Decimal, nan, parts}

-- `-` for a negative sign
abbrev pub sign_text : Bool → List ℕ
sign_text positive = if positive then [] else codes "-"

-- the digits with a point after the first k
abbrev pub point_after : ℕ → List ℕ → List ℕ
point_after k ds = take k ds ++ codes "." ++ drop k ds

-- the first digit, then a point and the others if there are others
abbrev pub point_after_first : List ℕ → List ℕ
point_after_first ds = if nat_lt 1 (length ds) then point_after 1 ds else ds

-- ds / 10 ^ k: a whole part of at least one digit, a point, and exactly k digits
abbrev pub fraction_text : List ℕ → ℕ → List ℕ
fraction_text ds k =
    if nat_lt k (length ds) then point_after (length ds - k) ds
    else codes "0." ++ replicate (k - length ds) 48 ++ ds

-- the exponent of d digits divided by 10 ^ k, of which one is before the point; nothing where it is 0
abbrev pub small_exponent_text : ℕ → ℕ → List ℕ
small_exponent_text d k =
    if d == k + 1 then []
    else (if d == k + 2 then codes "e+1" else codes "e-" ++ decimal (k + 1 - d))

-- the digits times ten to the exponent
abbrev pub magnitude_text : List ℕ → ℤ → List ℕ
magnitude_text ds (pos k) =
    if k == 0 then ds
    else (if nat_le (length ds + k) 20 then ds ++ replicate k 48
    else point_after_first ds ++ codes "e" ++ decimal (k + length ds - 1))
magnitude_text ds (negsuc k) =
    if nat_le (k + 1) 17 then fraction_text ds (k + 1)
    else point_after_first ds ++ small_exponent_text (length ds) (k + 1)

-- the text of a sign, a mantissa and a decimal exponent: for the mantissa 0 it is `0`, whatever the exponent
abbrev pub number_text : Bool → ℕ → ℤ → List ℕ
number_text positive m e = sign_text positive ++ (if m == 0 then codes "0" else magnitude_text (decimal m) e)

-- m * 10 ^ e isn't 0, it has at most 16 decimal places, and a digit is before its point
pub record IsCommon (m : ℕ) (e : ℤ) : Type 0 where
  pub some : 0 < m
  pub no_zeros : e ≤ℤ pos 0
  pub places : unsigned_abs e ≤ 16
  pub before_point : unsigned_abs e < length (decimal m)

-- what `Display` shows: `nan`, or the text of the parts
abbrev pub decimal_text : Decimal → List ℕ
decimal_text nan = codes "nan"
decimal_text (parts positive m e) = number_text positive m e

-- what is written into a JSON text: `null` for NaN, since the grammar has no NaN (RFC 8259, section 6)
abbrev pub written_text : Decimal → List ℕ
written_text nan = codes "null"
written_text (parts positive m e) = number_text positive m e
