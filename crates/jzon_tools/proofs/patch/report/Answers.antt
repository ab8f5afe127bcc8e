use Rattle.std.proofs.Common.{Some, None, subst}
use Rattle.jzon_pointer.specs.Errors.{SaysOrMemory}
use Rattle.jzon_pointer.specs.declared.error.What.TheVariants as what
use Rattle.jzon_tools.proofs.PatchErrors.{in-operation}
use Rattle.jzon_tools.proofs.patch.report.Goals as goal

pub returns-in-Pointer : goal.returns-in-Pointer
returns-in-Pointer c =
    let error = c.at_pointer-error.result in
    let said = subst (λ p. SaysOrMemory error (Some (what.Pointer c.in-Pointer.error)) p None None None) c.pointer_in-pointer.ensures
    c.at_pointer-error.ensures in
    rw c.in-Pointer.is (in-operation error c.in_operation.result _ _ _ _ said c.in_operation.ensures)

pub returns-in-Operation : goal.returns-in-Operation
returns-in-Operation c =
    let error = c.at_pointer-error-in-Operation.result in
    let said = subst (λ p. SaysOrMemory error (Some (what.Operation c.in-Operation.cause)) p None None None) c.pointer_in-path.ensures
    c.at_pointer-error-in-Operation.ensures in
    rw c.in-Operation.is
    (in-operation error c.in_operation-in-Operation.result _ _ _ _ said c.in_operation-in-Operation.ensures)
