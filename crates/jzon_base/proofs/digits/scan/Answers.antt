use Rattle.jzon_base.proofs.Common.{arith}
use Rattle.jzon_base.proofs.Numbers.DigitScans.{number_more, number_rest, scanned_block}
use Rattle.jzon_base.proofs.digits.scan.Goals as goal

pub returns-then-count-lt-EIGHT-clause-number : goal.returns-then-count-lt-EIGHT-clause-number
returns-then-count-lt-EIGHT-clause-number c = rw c.ten_to.ensures
    (number_more c.args.bytes.now c.args.before c.loop-len.len c.loop-len.number c.leading_digits-count.result.0
    c.leading_digits-count.result.1 c.loop-len.invariant (omega arith) c.leading_digits-count.ensures.number)

pub loop-len-preserved : goal.loop-len-preserved
loop-len-preserved c = rw c.ten_to.ensures
    (scanned_block c.args.bytes.now c.args.before c.loop-len.len c.loop-len.number 8 c.leading_digits-count.result.0
    c.leading_digits-count.result.1 c.loop-len.invariant (omega arith) c.leading_digits-count.ensures.count
    (omega arith) c.leading_digits-count.ensures.number)

pub returns-clause-number : goal.returns-clause-number
returns-clause-number c = number_rest c.args.bytes.now c.args.before c.loop-len.len c.loop-len.number
    c.scan_by_bytes-count.result.0 c.scan_by_bytes-count.result.1 c.loop-len.invariant
    c.scan_by_bytes-count.ensures.number
