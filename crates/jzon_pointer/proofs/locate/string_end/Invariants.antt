use Rattle.std.proofs.Common.{◌≡◌, ◌-◌, ◌≤◌, length, drop}
use Rattle.jzon_pointer.specs.Private.Walk.{string_rest}
use Rattle.jzon_pointer.proofs.locate.string_end.Given as goal

abbrev pub invariant-loop-at : goal.invariant-loop-at
invariant-loop-at l =
    (string_rest l.initial.escaped (drop l.initial.at l.bytes) ≡ string_rest l.escaped (drop l.at l.bytes))
    × (l.initial.at ≤ l.at) × (l.at ≤ length l.bytes)

abbrev pub decreases-loop-at : goal.decreases-loop-at
decreases-loop-at l = length l.bytes - l.at
