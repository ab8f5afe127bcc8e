use Rattle.std.proofs.Common.{◌≡◌, ◌∙◌, ℕ, List, Ok, Err, IfOk, string_bytes, subst}
use Rattle.std.proofs.lemmas.Result.{err_from_is_err_and}
use Rattle.jzon.specs.Laws.{IsReadAs}
use Rattle.jzon.specs.Reading.{usual}
use Rattle.jzon.specs.Text.{compact}
use Rattle.jzon.specs.Value.{Value}
use Rattle.jzon.specs.View.{view}
use Rattle.jzon.proofs.AnswerLaws.{answer-value, answer-memory, reads-redump}
use Rattle.jzon_examples.proofs.round_trip.redump.Goals as goal

-- a value with the same compact text
abbrev HasText : Value → Value → Type 0
HasText v w = compact w ≡ compact v

pub returns-in_err-again-clause-memory : goal.returns-in_err-again-clause-memory
returns-in_err-again-clause-memory c =
    let v = view c.args.value.now in
    let read : IsReadAs usual c.as_str.result.now (HasText v) =
    reads-redump usual v c.as_str.result.now c.in_ok-text.ensures.value c.requires.depth
    (c.as_str.ensures.value ∙ c.in_ok-text.ensures.text) in
    let failed = err_from_is_err_and c.from_residual-in_err-again.result c.from_residual-in_err-again.ensures.1 in
    let memory = answer-memory usual (HasText v) c.as_str.result.now (Err c.in_err-again.field-0.0) read
    c.in_err-again.ensures.error in
    rw (failed.1, failed.2) memory

pub returns-clause-text : goal.returns-clause-text
returns-clause-text c =
    let v = view c.args.value.now in
    let read : IsReadAs usual c.as_str.result.now (HasText v) =
    reads-redump usual v c.as_str.result.now c.in_ok-text.ensures.value c.requires.depth
    (c.as_str.ensures.value ∙ c.in_ok-text.ensures.text) in
    subst (λ (x : List ℕ). IfOk c.dump-2.result (λ text. string_bytes text ≡ x))
    (answer-value usual (HasText v) c.as_str.result.now (Ok c.in_ok-again.again) read c.in_ok-again.ensures.value)
    c.dump-2.ensures.text
