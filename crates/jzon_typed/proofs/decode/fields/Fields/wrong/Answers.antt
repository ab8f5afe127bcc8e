use Rattle.jzon.specs.View.{view}
use Rattle.jzon_typed.specs.DecodeFields.{read_from}
use Rattle.jzon_typed.proofs.DecodeSteps.{key-error}
use Rattle.jzon_typed.proofs.decode.fields.Fields.wrong.Goals as goal

pub returns : goal.returns
returns c =
    key-error (read_from c.args.self.now) (view c.args.value.now) c.args.key.now c.wrong.result c.below_key.result
    c.below_key.ensures c.requires.entry (c.wrong.ensures c.requires.refused)
