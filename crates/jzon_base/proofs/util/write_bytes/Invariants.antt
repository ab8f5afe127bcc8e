use Rattle.jzon_base.proofs.Common.{◌≤◌, ◌-◌, take, length, Appends}
use Rattle.jzon_base.proofs.util.write_bytes.Given as goal

abbrev pub decreases-loop-written : goal.decreases-loop-written
decreases-loop-written g l = length l.bytes - l.written

abbrev pub invariant-loop-written : goal.invariant-loop-written
invariant-loop-written g l =
    (l.written ≤ length l.bytes) × Appends (g.W.Write.contents l.initial.writer) (g.W.Write.contents l.writer)
    (take l.written l.bytes)
