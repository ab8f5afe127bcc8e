use Rattle.std.proofs.Common.{◌++◌, take, arith}
use Rattle.std.proofs.lemmas.Grind.{common_steps}
use Rattle.jzonfmt.proofs.engine.read_input.Goals as goal

pub returns-in_err-extend_from_slice-clause-some : goal.returns-in_err-extend_from_slice-clause-some
returns-in_err-extend_from_slice-clause-some g c =
    (c.loop-chunk.input.items ++ take c.in_ok-count.count c.read.new.buf, grind (arith, common_steps))
