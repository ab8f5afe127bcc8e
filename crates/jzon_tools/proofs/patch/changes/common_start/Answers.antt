use Rattle.std.proofs.Common.{◌∙◌, ◌+◌, sym, arith}
use Rattle.jzon.specs.Same.{same}
use Rattle.jzon.specs.View.{view}
use Rattle.jzon_tools.proofs.DiffElements.{start-next}
use Rattle.jzon_tools.proofs.DiffSteps.{equal-by}
use Rattle.jzon_tools.proofs.patch.changes.common_start.Goals as goal

pub loop-index-preserved : goal.loop-index-preserved
loop-index-preserved c =
    let us = c.args.from.now in
    let vs = c.args.to.now in
    let u = c.index-from-index.result in
    let v = c.index-to-index.result in
    let i = c.loop-index.index in
    start-next us vs i (i + 1) u v (omega arith) (omega (arith, c.loop-index-test.true, c.min-most.ensures))
    (omega (arith, c.loop-index-test.true, c.min-most.ensures)) c.index-from-index.is c.index-to-index.is
    (equal-by (same (view u) (view v)) (sym c.ne.ensures ∙ c.if-ne.false)) c.loop-index.invariant
