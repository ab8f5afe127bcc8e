use Rattle.jzon_base.proofs.Common.{◌≡◌, ◌-◌, ◌≤◌, ◌+◌, length, drop, prefix_len}
use Rattle.jzon.specs.Private.Lines.{is_below}
use Rattle.jzon_pointer.proofs.locate.run_end.Given as goal

abbrev pub invariant-loop-at : goal.invariant-loop-at
invariant-loop-at l =
    (l.at ≤ length l.bytes)
    × (l.at + prefix_len (is_below l.turn l.bound) (drop l.at l.bytes)
    ≡ l.start + prefix_len (is_below l.turn l.bound) (drop l.start l.bytes))

abbrev pub decreases-loop-at : goal.decreases-loop-at
decreases-loop-at l = length l.bytes - l.at
