use Rattle.std.proofs.Common.{◌∙◌, ◌-◌, ◌+◌, ◌<◌, length, sym, arith}
use Rattle.jzon.specs.Same.{same}
use Rattle.jzon.specs.View.{view}
use Rattle.jzon_tools.proofs.DiffElements.{end-next}
use Rattle.jzon_tools.proofs.DiffSteps.{equal-by}
use Rattle.jzon_tools.proofs.patch.changes.common_end.Goals as goal

pub loop-count-preserved : goal.loop-count-preserved
loop-count-preserved c =
    let us = c.args.from.now in
    let vs = c.args.to.now in
    let u = c.index-from-from.result in
    let v = c.index-to-to.result in
    let n = c.loop-count.count in
    let room : n < length us = omega (arith, c.loop-count-test.true, c.requires.most.0) in
    let room' : n < length vs = omega (arith, c.loop-count-test.true, c.requires.most.1) in
    end-next us vs (length us - n - 1) (length vs - n - 1) (length us - n) (length vs - n)
    (length us - (n + 1)) (length vs - (n + 1)) u v
    (omega (arith, room)) (omega (arith, room')) (omega (arith, room)) (omega (arith, room')) (omega (arith, room))
    (omega (arith, room')) c.index-from-from.is c.index-to-to.is
    (equal-by (same (view u) (view v)) (sym c.ne.ensures ∙ c.if-ne.false)) c.loop-count.invariant
