use Rattle.std.proofs.Common.{◌≡◌}
use Rattle.jzon.specs.Generator.{insertion}
use Rattle.jzon_writer_tests.proofs.layouts.insertion_order.Given as goal

abbrev pub invariant-loop-position : goal.invariant-loop-position
invariant-loop-position l = l.positions.items ≡ insertion l.position
