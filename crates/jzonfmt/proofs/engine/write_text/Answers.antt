use Rattle.jzonfmt.proofs.AddedBytes.{written}
use Rattle.jzonfmt.proofs.engine.write_text.Goals as goal

pub returns-in-Compact : goal.returns-in-Compact
returns-in-Compact g c =
    rw (c.in-Compact.is) (written c.write.result _ _ _ c.write.ensures.ok c.write.ensures.err)

pub returns-in-Pretty : goal.returns-in-Pretty
returns-in-Pretty g c =
    rw (c.in-Pretty.is) (written c.write_pretty.result _ _ _ c.write_pretty.ensures.ok c.write_pretty.ensures.err)
