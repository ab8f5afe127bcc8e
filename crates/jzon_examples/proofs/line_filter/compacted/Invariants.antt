use Rattle.std.proofs.Common.{map, string_bytes}
use Rattle.jzon_examples.specs.Filter.{ArePrinted}
use Rattle.jzon_examples.proofs.line_filter.compacted.Given as goal

-- the lines so far are printed
abbrev pub invariant-loop-line : goal.invariant-loop-line
invariant-loop-line l = ArePrinted (map (λ x. x.now) l.yielded) (string_bytes l.printed)
