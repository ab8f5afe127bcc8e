use Rattle.std.proofs.Common.{◌≡◌, ◌-◌, ◌≤◌, length, drop}
use Rattle.std.specs.Option.{is_some}
use Rattle.jzon_pointer.specs.Pointer.{token_key}
use Rattle.jzon_pointer.proofs.token.is_well_escaped.Given as goal

abbrev pub invariant-loop-at : goal.invariant-loop-at
invariant-loop-at l = (is_some (token_key l.token) ≡ is_some (token_key (drop l.at l.token))) × (l.at ≤ length l.token)

abbrev pub decreases-loop-at : goal.decreases-loop-at
decreases-loop-at l = length l.token - l.at
