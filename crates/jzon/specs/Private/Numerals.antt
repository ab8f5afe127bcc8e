-- What the rest of a text leads to after the first digit of a number, in any reading and inside any open containers.
use Rattle.std.specs.Prelude.{◌≡◌, ℕ, ◌+◌, List, ◌++◌, length, Bool, true, chars, drop, slice_index, nat_lt, if◌then◌else◌}
use Rattle.jzon_base.specs.DigitLimits.{AreFewEnough}
use Rattle.jzon_base.specs.LostDigits.{HoldsOfNone, HoldsOfNoneBefore, loses_last}
use Rattle.jzon_base.specs.declared.digits.NumberFault.{NumberFault}
use Rattle.jzon_base.specs.declared.digits.NumberFault.TheVariants.{TooMany, Lost, OutOfRange}
use Rattle.jzon.specs.declared.stop.Stop.{Stop}
use Rattle.jzon.specs.Reading.{Reading}
use Rattle.jzon.specs.declared.stop.Stop.TheVariants.{Limit, Inexact}
use Rattle.jzon.specs.Private.Machine.{Frames, Outcome, State, numeral_after_first, from, fault_here, Reports}

-- the outcome of the rest of the text after the digit at offset `start`
abbrev pub after_first : Reading → Frames → Bool → List ℕ → ℕ → Outcome
after_first r fs negative text start =
    from r text (numeral_after_first fs negative (slice_index text start)) (start + 1)

-- The digits before and after the point exceed no limit, and an exact reading loses none of them.
abbrev pub AreKept : Reading → List ℕ → List ℕ → Type 0
AreKept r whole fraction = AreFewEnough whole fraction × (r.exact ≡ true → HoldsOfNone loses_last (whole ++ fraction))

-- it is the outcome from offset `end` in the state that the containers and the sign give, if these digits are kept
abbrev pub LeadsTo : List ℕ → List ℕ → List ℕ → ℕ → ℕ → (Frames → Bool → State) → Type 0
LeadsTo whole fraction text start end next = (r : Reading) (fs : Frames) (negative : Bool) → AreKept r whole fraction
    → after_first r fs negative text start ≡ from r text (next fs negative) end

-- a digit is required at offset `end`, and the fault is there
abbrev pub MissesDigit : List ℕ → List ℕ → List ℕ → ℕ → ℕ → Type 0
MissesDigit whole fraction text start end = (r : Reading) (fs : Frames) (negative : Bool) → AreKept r whole fraction
    → after_first r fs negative text start ≡ fault_here (chars (drop end text))

-- the offset of the digit at this position among those before and after the point
abbrev pub digit_offset : ℕ → ℕ → ℕ → ℕ
digit_offset start whole i = if nat_lt i whole then start + i else start + i + 1

-- The number has more digits than one may have, and the digit at this position is the first one too many, unless an
-- exact reading loses a digit before it.
abbrev pub HasTooMany : List ℕ → List ℕ → ℕ → List ℕ → ℕ → Type 0
HasTooMany whole fraction i text start = (r : Reading) (fs : Frames) (negative : Bool)
    → (r.exact ≡ true → HoldsOfNoneBefore loses_last (whole ++ fraction) i)
    → Reports text (Limit (digit_offset start (length whole) i)) (after_first r fs negative text start)

-- the stop at a digit of a number, which has so many digits before the point, and those of its exponent from this offset on
abbrev pub number_stop : ℕ → ℕ → ℕ → NumberFault → Stop
number_stop start whole exponent (TooMany i) = Limit (digit_offset start whole i)
number_stop start whole exponent (Lost i) = Inexact (digit_offset start whole i)
number_stop start whole exponent (OutOfRange i) = Inexact (exponent + i)

-- an exact reading stops at a digit that is lost
abbrev pub LosesDigit : List ℕ → List ℕ → ℕ → List ℕ → ℕ → Type 0
LosesDigit whole fraction i text start = (r : Reading) (fs : Frames) (negative : Bool) → r.exact ≡ true
    → Reports text (Inexact (digit_offset start (length whole) i)) (after_first r fs negative text start)
