use Rattle.jzon.specs.View.{view}
use Rattle.jzon_typed.proofs.DecodeSteps.{cut-error}
use Rattle.jzon_typed.proofs.decode.wrong.cut.Goals as goal

pub returns-in-Ok : goal.returns-in-Ok
returns-in-Ok c = λ cut.
    cut-error (view c.args.value.now) c.new.result c.args.expected c.in-Ok.found c.new.ensures c.in-Ok.ensures.found cut
