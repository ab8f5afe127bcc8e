use Rattle.jzon_base.proofs.Common.{◌≡◌, ◌≤◌, take, nat_lt}
use Rattle.jzon_base.specs.Digits.{digits_number}
use Rattle.jzon_base.specs.LostDigits.{HoldsOfNoneBefore}
use Rattle.jzon_base.proofs.digits.first_above.Given as goal

abbrev pub invariant-loop-i : goal.invariant-loop-i
invariant-loop-i l = (l.number ≡ digits_number (take l.i l.digits)) × (l.number ≤ l.limit)
    × HoldsOfNoneBefore (λ ds. nat_lt l.limit (digits_number ds)) l.digits l.i
