use Rattle.std.proofs.Common.{ℕ, List, subst}
use Rattle.jzon.specs.View.{view}
use Rattle.jzon_tools.specs.Diff.{Adds}
use Rattle.jzon_tools.proofs.DiffSteps.{pushed}
use Rattle.jzon_tools.proofs.patch.changes.Changes.add.Goals as goal

pub returns-clause-ok : goal.returns-clause-ok
returns-clause-ok c = (
  view c.in_ok-operation.operation,
  subst (λ (p : List ℕ). Adds p (view c.args.new.now) (view c.in_ok-operation.operation)) c.as_str.ensures.value
      c.in_ok-operation.ensures.ok,
  pushed c.args.self.now.operations.items c.push.new.self.items c.in_ok-operation.operation c.in_ok-push.ensures.items,
)
