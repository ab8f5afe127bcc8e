use Rattle.jzon.specs.View.{view}
use Rattle.jzon_typed.specs.DecodeFields.{read_from}
use Rattle.jzon_typed.proofs.DecodeSteps.{key-error, memory-stays}
use Rattle.jzon_typed.proofs.decode.fields.Fields.below.Goals as goal

pub returns-in-Err-clause-error : goal.returns-in-Err-clause-error
returns-in-Err-clause-error g c =
    key-error (read_from c.args.self.now) (view c.args.value.now) c.args.key.now c.in-Err.error c.below_key.result
    c.below_key.ensures c.requires c.in-Err.ensures.error

pub returns-in-Err-clause-takes : goal.returns-in-Err-clause-takes
returns-in-Err-clause-takes g c = λ taken.
    memory-stays c.in-Err.error c.below_key.result _ c.below_key.ensures (c.in-Err.ensures.takes taken)
