use Rattle.std.proofs.Common.{◌≡◌, ◌-◌, ◌≤◌, ◌+◌, length, drop}
use Rattle.jzon_pointer.specs.Private.Walk.{Outside, skim}
use Rattle.jzon_pointer.proofs.locate.item_end.Given as goal

abbrev pub invariant-loop-at : goal.invariant-loop-at
invariant-loop-at l =
    (skim (Outside l.initial.depth) (drop l.initial.at l.bytes) ≡ skim (Outside l.depth) (drop l.at l.bytes))
    × (l.depth ≤ l.at + 1) × (l.initial.at ≤ l.at) × (l.at ≤ length l.bytes)

abbrev pub decreases-loop-at : goal.decreases-loop-at
decreases-loop-at l = length l.bytes - l.at
