use Rattle.jzon_base.proofs.Common.{◌≤◌, ◌-◌, length, prefix_len}
use Rattle.jzon_tree.specs.Writing.{is_whitespace}
use Rattle.jzon.proofs.whitespace.rest_length.Given as goal

abbrev pub invariant-loop-len : goal.invariant-loop-len
invariant-loop-len l = (l.len ≤ length l.bytes) × (l.len ≤ prefix_len (is_whitespace l.strict) l.bytes)

abbrev pub decreases-loop-len : goal.decreases-loop-len
decreases-loop-len l = length l.bytes - l.len
