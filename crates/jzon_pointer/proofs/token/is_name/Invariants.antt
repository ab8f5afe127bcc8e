use Rattle.std.proofs.Common.{◌≡◌, ◌-◌, ◌≤◌, length, drop}
use Rattle.jzon_pointer.specs.Pointer.{names}
use Rattle.jzon_pointer.proofs.token.is_name.Given as goal

-- what is left of the token names what is left of the key
abbrev pub invariant-loop-at : goal.invariant-loop-at
invariant-loop-at l =
    (names l.initial.token l.initial.key ≡ names (drop l.at l.token) (drop l.matched l.key))
    × (l.at ≤ length l.token) × (l.matched ≤ length l.key)

abbrev pub decreases-loop-at : goal.decreases-loop-at
decreases-loop-at l = length l.token - l.at
