use Rattle.jzon_typed.proofs.EqualIntegers.{whole-same}
use Rattle.jzon_typed.proofs.decode.law.Goals as goal

pub returns : goal.returns
returns c = whole-same
