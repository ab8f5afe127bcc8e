use Rattle.std.proofs.Common.{[], ◌∷◌}
use Rattle.jzon.specs.View.{view}
use Rattle.jzonfmt.specs.Run.{text}
use Rattle.jzonfmt.proofs.AddedBytes.{then_written}
use Rattle.jzonfmt.proofs.engine.write_line.Goals as goal

pub returns : goal.returns
returns g c = then_written c.write_bytes.result _ _ _ (text c.args.layout (view c.args.value.now)) (10 ∷ [])
    c.in_ok-write_text.ensures c.write_bytes.ensures.ok c.write_bytes.ensures.err
