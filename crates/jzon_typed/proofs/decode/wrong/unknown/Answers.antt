use Rattle.jzon_typed.proofs.DecodeSteps.{unknown-error}
use Rattle.jzon_typed.proofs.decode.wrong.unknown.Goals as goal

pub returns : goal.returns
returns c = λ v is there other.
    unknown-error v c.args.known c.args.key.now c.new.result c.below_key.result c.new.ensures c.below_key.ensures
    is there other
