use Rattle.std.proofs.Common.{◌≡◌, ◌-◌}
use Rattle.jzon_tools.specs.Canonical.{stripped}
use Rattle.jzon_tools.proofs.canonical.stripped.Given as goal

-- what is left to do gives the same result
abbrev pub invariant-loop-zero : goal.invariant-loop-zero
invariant-loop-zero l = stripped (20 - l._zero) l.digits l.power ≡ stripped 20 l.mantissa l.exponent
