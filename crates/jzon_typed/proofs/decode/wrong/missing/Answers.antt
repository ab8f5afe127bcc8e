use Rattle.jzon_typed.proofs.DecodeSteps.{missing-error}
use Rattle.jzon_typed.proofs.decode.wrong.missing.Goals as goal

pub returns : goal.returns
returns c = λ v is none.
    missing-error v c.args.expected c.args.key.now c.new.result c.below_key.result c.new.ensures c.below_key.ensures
    is none
