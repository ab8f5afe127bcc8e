use Rattle.std.proofs.Common.{◌≡◌}
use Rattle.jzon_pointer.specs.Shown.{widest}
use Rattle.jzon_pointer.proofs.shown.widest.Given as goal

-- the widest character so far
abbrev pub invariant-loop-ch : goal.invariant-loop-ch
invariant-loop-ch l = l.most ≡ widest l.yielded
