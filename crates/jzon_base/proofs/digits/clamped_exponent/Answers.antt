use Rattle.jzon_base.proofs.Common.{arith, ints, clamps}
use Rattle.jzon_base.proofs.digits.clamped_exponent.Goals as goal
use Rattle.jzon_base.proofs.digits.clamped_exponent.Goals.{then-positive, else-positive}

pub returns : goal.returns
returns c = elim c.if-positive.branch [
  | then-positive w ↦ rw w.if-positive.true (omega (arith, ints, clamps, w.sum-is, c.clamp.ensures))
  | else-positive w ↦ rw w.if-positive.false (omega (arith, ints, clamps, w.sum-is, c.clamp.ensures))
]
