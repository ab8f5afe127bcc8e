use Rattle.std.proofs.Common.{◌≡◌, ◌⊎◌, inl, inr, Result, Ok, Err, IsErrAnd, ◌∙◌}
use Rattle.jzon.specs.Error.{Error}
use Rattle.jzon.specs.Error.TheVariants.{OutOfMemory}
use Rattle.jzon.specs.Reading.{usual}
use Rattle.jzon.proofs.AnswerLaws.{answer-error, error-no_tree}
use Rattle.jzon_examples.specs.Config.{Rejects}
use Rattle.jzon_examples.proofs.faults.port.Goals as goal

-- an error that is propagated
propagated : {T : Type 0} (e f : Error) (result : Result T Error) → (f ≡ OutOfMemory) ⊎ (f ≡ e)
    → IsErrAnd result (λ g. g ≡ f) → Rejects e result
propagated e f (Ok v) h is = absurd is
propagated e f (Err g) (inl memory) is = inl (is ∙ memory)
propagated e f (Err g) (inr same) is = inr (is ∙ same)

pub returns-in_err-value-clause-rejected : goal.returns-in_err-value-clause-rejected
returns-in_err-value-clause-rejected c e h =
    propagated e c.in_err-value.field-0.0 c.from_residual.result
    (answer-error usual _ e (Err c.in_err-value.field-0.0) h tt c.in_err-value.ensures.error) c.from_residual.ensures.1

pub returns-clause-rejected : goal.returns-clause-rejected
returns-clause-rejected c e h =
    error-no_tree usual _ e c.in_ok-value.ensures.value.0 h c.in_ok-value.ensures.value.1
