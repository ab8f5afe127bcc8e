use Rattle.jzon_typed.proofs.EqualIntegers.{whole-same}
use Rattle.jzon_typed.proofs.decode.alike.law_of.Goals as goal

pub returns-clause-alike : goal.returns-clause-alike
returns-clause-alike g c = g.met.T.ReadsAlike.alike whole-same

pub returns-clause-taken : goal.returns-clause-taken
returns-clause-taken g c = g.met.T.ReadsAlike.taken_alike whole-same
