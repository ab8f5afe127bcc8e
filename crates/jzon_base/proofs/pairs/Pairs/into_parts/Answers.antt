use Rattle.jzon_base.proofs.Common.{rules}
use Rattle.jzon_base.proofs.Entries.Zips.{AreParts-zip}
use Rattle.jzon_base.proofs.pairs.Pairs.into_parts.Goals as goal

pub returns-in-Some-clause-keys : goal.returns-in-Some-clause-keys
returns-in-Some-clause-keys g c = (AreParts-zip _ _ c.args.self (search rules) c.keys.invariant).keys

pub returns-in-Some-clause-values : goal.returns-in-Some-clause-values
returns-in-Some-clause-values g c = (AreParts-zip _ _ c.args.self (search rules) c.keys.invariant).values
