use Rattle.jzon_base.proofs.Common.{◌≡◌, min, take}
use Rattle.jzon_base.specs.Digits.{digits_number}
use Rattle.jzon_base.proofs.digits.capped_number.Given as goal

abbrev pub invariant-loop-digit : goal.invariant-loop-digit
invariant-loop-digit l = l.number ≡ min (digits_number (take l.digit-index l.digits)) 65536
