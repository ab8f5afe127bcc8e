use Rattle.jzon_base.proofs.Common.{common_steps, arith}
use Rattle.jzon_base.proofs.Strings.WriterBytes.{Appends-more}
use Rattle.jzon_base.proofs.util.write_bytes.Goals as goal

pub loop-written-preserved : goal.loop-written-preserved
loop-written-preserved g c = (
  grind (arith, common_steps),
  Appends-more _ _ _ _ _ _ c.loop-written.invariant.1 c.in_ok-count.ensures.bytes,
)
