use Rattle.std.proofs.Common.{inr}
use Rattle.jzon.specs.View.{view}
use Rattle.jzon_tools.proofs.PatchSteps.{removal-lost}
use Rattle.jzon_tools.proofs.patch.take.Goals as goal

pub returns-in-Err-Lost-clause-done : goal.returns-in-Err-Lost-clause-done
returns-in-Err-Lost-clause-done c =
    inr (removal-lost (view c.args.value.now) c.args.path.now c.in-Err-Lost.field-0 c.in-Err-Lost.error
    c.in-Err-Lost.field-0-is c.in-Err-Lost.ensures.error)
