use Rattle.jzon_base.proofs.Common.{◌≡◌, ◌-◌, ◌≤◌, length, take, count_by}
use Rattle.jzon.specs.Private.Lines.{is_below}
use Rattle.jzon.proofs.place.count_below.Given as goal

abbrev pub invariant-loop-start : goal.invariant-loop-start
invariant-loop-start l =
    (l.start ≤ length l.bytes) × (l.count ≡ count_by (is_below l.turn l.bound) (take l.start l.bytes))

abbrev pub decreases-loop-start : goal.decreases-loop-start
decreases-loop-start l = length l.bytes - l.start
