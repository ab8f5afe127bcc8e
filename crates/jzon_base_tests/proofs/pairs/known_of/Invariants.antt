use Rattle.jzon_base.specs.Private.KnownKeys.{Knows}
use Rattle.jzon_base_tests.proofs.pairs.known_of.Given as goal

abbrev pub invariant-loop-name : goal.invariant-loop-name
invariant-loop-name l = Knows l.keys.items l.known
