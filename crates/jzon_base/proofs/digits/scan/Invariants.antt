use Rattle.jzon_base.proofs.Common.{◌-◌, length}
use Rattle.jzon_base.proofs.Numbers.DigitScans.{HasScanned}
use Rattle.jzon_base.proofs.digits.scan.Given as goal

abbrev pub invariant-loop-len : goal.invariant-loop-len
invariant-loop-len l = HasScanned l.bytes l.before l.len l.number

abbrev pub decreases-loop-len : goal.decreases-loop-len
decreases-loop-len l = length l.bytes - l.len
