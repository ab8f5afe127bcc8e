use Rattle.jzon_base.proofs.Common.{◌≡◌, ◌∙◌, ◌+◌, ap, get_or, inr, refl, rules, sym}
use Rattle.jzon_tree.specs.Value.{number}
use Rattle.jzon_tree.specs.View.{view}
use Rattle.jzon_tree.specs.declared.value.JsonValue.{Number, the_lemmas}
use Rattle.jzon.specs.Reading.{usual}
use Rattle.jzon.specs.Private.Machine.{no_frames, numeral_after_first, after_value, from}
use Rattle.jzon.proofs.Containers.PutValues.{puts_none}
use Rattle.jzon.proofs.Texts.ReportedErrors.{fails_without_memory}
use Rattle.jzon.proofs.primitive.put_magnitude.Goals as goal

pub returns-in_err-number-clause-memory : goal.returns-in_err-number-clause-memory
returns-in_err-number-clause-memory g c =
    fails_without_memory c.args.source.now _ _ c.from_residual.result c.from_residual.ensures.1
    (c.in_err-number.ensures.outcome (record usual { exact = c.args.exact }) no_frames refl)

pub returns-in_err-number-clause-outcome : goal.returns-in_err-number-clause-outcome
returns-in_err-number-clause-outcome g c =
    puts_none (g.T.Target.takes c.args.target.now) c.args.target.now c.args.target.now c.from_residual.result
    c.args.source.now (c.args.start + 1)
    (λ fs. numeral_after_first fs c.args.negative (get_or c.args.source.now c.args.start 0)) (λ r fs. r.exact ≡ c.args.exact) _
    c.from_residual.ensures.1 refl (λ r fs same. inr (c.in_err-number.ensures.outcome r fs same))

pub returns-clause-outcome : goal.returns-clause-outcome
returns-clause-outcome g c =
    let is : view (Number c.in_ok-number.number) ≡ number c.in_ok-number.number = search (rules, the_lemmas) in (
      Number c.in_ok-number.number,
      c.put.ensures,
      λ r fs same. c.in_ok-number.ensures.outcome r fs same
          ∙ ap (λ v. from r c.args.source.now (after_value fs v) c.in_ok-number.end) (sym is),
    )
