use Rattle.std.proofs.Common.{inr, Some}
use Rattle.jzon.specs.View.{view}
use Rattle.jzon_tools.proofs.PatchSteps.{entry-nowhere, updated-nowhere, whole-found}
use Rattle.jzon_tools.proofs.patch.replace.Goals as goal

pub returns-in-Err-clause-done : goal.returns-in-Err-clause-done
returns-in-Err-clause-done c =
    inr (updated-nowhere (λ _. Some (view c.args.new)) (view c.args.value.now) c.args.path.now c.in-Err.error c.in-Err.ensures.error)

pub returns-in-Err-clause-cause : goal.returns-in-Err-clause-cause
returns-in-Err-clause-cause c op v h =
    c.at.ensures c.args.path.now (view c.args.value.now) op v h
    (entry-nowhere (view c.args.value.now) c.args.path.now c.in-Err.error c.in-Err.ensures.error)
    (λ none. absurd (whole-found (view c.args.value.now) c.args.path.now c.in-Err.error c.in-Err.ensures.error none))
