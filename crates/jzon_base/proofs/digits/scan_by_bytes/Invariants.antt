use Rattle.jzon_base.proofs.Numbers.DigitScans.{HasScanned}
use Rattle.jzon_base.proofs.digits.scan_by_bytes.Given as goal

abbrev pub invariant-loop-i : goal.invariant-loop-i
invariant-loop-i l = HasScanned l.bytes l.before l.i l.number
