use Rattle.std.proofs.Common.{◌≡◌, rules, subst}
use Rattle.std.specs.Prelude.{chars, IsUtf8}
use Rattle.jzon.specs.Answer.{IsErrorUnlessMemory}
use Rattle.jzonfmt.proofs.RejectedInputs.{answers_error}
use Rattle.jzonfmt.proofs.engine.print_input.Goals as goal

pub returns-in_err-value : goal.returns-in_err-value
returns-in_err-value g c =
    let text : IsUtf8 c.args.input.now = search rules in
    let same : c.in-Ok.source.now ≡ c.args.input.now = search rules in
    let error : IsErrorUnlessMemory c.args.reading.now (chars c.args.input.now) c.in_err-value.field-0.0 =
    subst (λ s. IsErrorUnlessMemory c.args.reading.now (chars s) c.in_err-value.field-0.0) same
    c.in_err-value.ensures.error in
    answers_error c.args.reading.now c.args.layout c.args.input.now c.in_err-value.field-0.0 c.from_residual.result _
    text error c.from_residual.ensures.1
