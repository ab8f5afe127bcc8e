use Rattle.jzonfmt.proofs.RejectedInputs.{reads_all}
use Rattle.jzonfmt.proofs.engine.run.Goals as goal

pub returns : goal.returns
returns g c = (
  c.in_ok-input.input.items,
  reads_all c.print_input.result _ _ _ c.in_ok-input.ensures.all,
  rw c.as_slice.ensures.value at c.print_input.ensures,
)
