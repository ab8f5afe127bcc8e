use Rattle.jzon_base.proofs.Common.{length}
use Rattle.jzon_tree.specs.Generator.{Added}
use Rattle.jzon_tree.proofs.Printing.StringRuns.{Left}
use Rattle.jzon_tree.proofs.codegen.generator.Generator.try_write_escaped.Given as goal

-- what has been written and what is left make up the whole
abbrev pub invariant-loop-byte : goal.invariant-loop-byte
invariant-loop-byte g l = Added (Left l.fn.prefix l.fn.text l.rest)
    (g.Self.Generator.meaning l.fn.self) (g.Self.Generator.meaning l.self)

abbrev pub decreases-loop-byte : goal.decreases-loop-byte
decreases-loop-byte g l = length l.rest
