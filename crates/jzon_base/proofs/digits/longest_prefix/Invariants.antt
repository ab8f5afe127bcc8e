use Rattle.jzon_base.proofs.Common.{◌≡◌, take, ◌<◌, ◌^◌, fold}
use Rattle.jzon_base.specs.Digits.{add_digit}
use Rattle.jzon_base.proofs.digits.longest_prefix.Given as goal

abbrev pub invariant-loop-i : goal.invariant-loop-i
invariant-loop-i l = (l.number ≡ fold add_digit l.before (take l.i-counter l.digits)) × (l.number < 2 ^ 64)
