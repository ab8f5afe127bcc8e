-- The integer that a number is, however it is written: 100, 1e2 and 100.0 are the same, and so are 0 and -0.
use Rattle.std.specs.Prelude.{◌≡◌, ◌<◌, ℕ, ℤ, pos, negsuc, Bool, true, false, Option, None, Some, option_and_then, FitsSigned}
use Rattle.std.specs.Int.{Width}
use Rattle.jzon.specs.Decimal.{Decimal, same_decimal}
use Rattle.jzon.specs.Lawful.{InRange}
use Rattle.jzon.specs.Readers.{exact_fixed_point_in}
use Rattle.jzon.specs.Value.{Value, number}
use Rattle.jzon_pointer.specs.Found.{may_be_cut}

-- the integer
abbrev pub whole_in : Value → Option ℤ
whole_in v = exact_fixed_point_in v 0

-- an integer that isn't below 0
abbrev pub natural_of : ℤ → Option ℕ
natural_of (pos n) = Some n
natural_of (negsuc n) = None

-- the integer, if it isn't below 0
abbrev pub natural_in : Value → Option ℕ
natural_in v = option_and_then natural_of (whole_in v)

-- digits of the value's number may have been cut; false if it is no number
abbrev pub may_be_cut_in : Value → Bool
may_be_cut_in (number d) = may_be_cut d
may_be_cut_in v = false

-- the value is this integer, of which no digit may have been cut
abbrev pub IsWhole : Value → ℤ → Type 0
IsWhole v n = (whole_in v ≡ Some n) × (may_be_cut_in v ≡ false)

-- the same of an integer that isn't below 0
abbrev pub IsNatural : Value → ℕ → Type 0
IsNatural v n = (natural_in v ≡ Some n) × (may_be_cut_in v ≡ false)

-- the value is such an integer of this width
abbrev pub IsWholeOf : Width → Value → Type 0
IsWholeOf w v = (n : ℤ) × IsWhole v n × FitsSigned w n

-- the value is such an integer below this bound
abbrev pub IsNaturalBelow : ℕ → Value → Type 0
IsNaturalBelow b v = (n : ℕ) × IsNatural v n × (n < b)

-- equal numbers are the same integer, or none of them is one
abbrev pub EqualIntegers : Type 0
EqualIntegers = (d e : Decimal) → InRange d → InRange e → same_decimal d e ≡ true
    → whole_in (number d) ≡ whole_in (number e)
