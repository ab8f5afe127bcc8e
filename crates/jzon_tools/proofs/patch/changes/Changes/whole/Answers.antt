use Rattle.std.proofs.Common.{◌∙◌, ℕ, List, ap, string_bytes, subst, sym}
use Rattle.jzon.specs.Same.{same}
use Rattle.jzon.specs.View.{view}
use Rattle.jzon_tools.specs.Diff.{Replaces, operations_of}
use Rattle.jzon_tools.proofs.DiffElements.{differ-by}
use Rattle.jzon_tools.proofs.DiffSteps.{changes-none, changes-replaced, equal-by, pushed}
use Rattle.jzon_tools.proofs.patch.changes.Changes.whole.Goals.{then-ne+in_ok-operation+in_ok-push, else-ne}
use Rattle.jzon_tools.proofs.patch.changes.Changes.whole.Goals as goal

pub returns-clause-ok : goal.returns-clause-ok
returns-clause-ok c =
    let path = string_bytes c.args.self.now.path in
    let u = view c.args.old.now in
    let v = view c.args.new.now in
    elim c.if-ne.branch [
      | then-ne+in_ok-operation+in_ok-push w ↦ changes-replaced path u v (view w.in_ok-operation.operation)
          (operations_of c.args.self.now) (operations_of c.if-ne.self)
          (differ-by (same u v) (sym c.ne.ensures ∙ w.if-ne.true))
          (subst (λ (p : List ℕ). Replaces p v (view w.in_ok-operation.operation)) w.as_str.ensures.value
          w.in_ok-operation.ensures.ok)
          (ap operations_of w.self-is ∙ pushed c.args.self.now.operations.items w.push.new.self.items
          w.in_ok-operation.operation w.in_ok-push.ensures.items)
      | else-ne w ↦ changes-none path u v (operations_of c.args.self.now) (operations_of c.if-ne.self)
          (equal-by (same u v) (sym c.ne.ensures ∙ w.if-ne.false)) (ap operations_of w.self-is)
    ]
