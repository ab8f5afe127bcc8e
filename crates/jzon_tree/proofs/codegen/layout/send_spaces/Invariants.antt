use Rattle.jzon_base.proofs.Common.{◌-◌, ◌≤◌, replicate}
use Rattle.jzon_tree.specs.Generator.{Adds, Just}
use Rattle.jzon_tree.proofs.codegen.layout.send_spaces.Given as goal

abbrev pub invariant-loop-left : goal.invariant-loop-left
invariant-loop-left g l =
    (l.left ≤ l.fn.spaces) × Adds (Just (replicate (l.fn.spaces - l.left) 32)) (g.W.Write.contents l.fn.writer)
    (g.W.Write.contents l.writer)

abbrev pub decreases-loop-left : goal.decreases-loop-left
decreases-loop-left g l = l.left
