use Rattle.jzon.specs.View.{view}
use Rattle.jzon_tools.proofs.PatchSteps.{entry-nowhere, whole-found}
use Rattle.jzon_tools.proofs.patch.look.Goals as goal

pub returns-in-Err-clause-cause : goal.returns-in-Err-clause-cause
returns-in-Err-clause-cause c op v h =
    c.at.ensures c.args.path.now (view c.args.value.now) op v h
    (entry-nowhere (view c.args.value.now) c.args.path.now c.in-Err.error c.in-Err.ensures.error)
    (λ none. absurd (whole-found (view c.args.value.now) c.args.path.now c.in-Err.error c.in-Err.ensures.error none))
