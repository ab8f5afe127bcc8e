use Rattle.jzon_base.proofs.Common.{◌-◌, ◌≤◌, prefix_len}
use Rattle.jzon_base.specs.Private.PlainBytes.{is_plain}
use Rattle.jzon_base.proofs.util.plain.plain_after_half.Given as goal

abbrev pub invariant-loop-start : goal.invariant-loop-start
invariant-loop-start l = l.start ≤ prefix_len is_plain l.bytes

abbrev pub decreases-loop-start : goal.decreases-loop-start
decreases-loop-start l = l.last - l.start
