use Rattle.jzon_base.proofs.Common.{◌∙◌, rules}
use Rattle.jzon_base.proofs.Entries.Zips.{AreParts-zip}
use Rattle.jzon_base.proofs.pairs.Pairs.values.Goals as goal

pub returns-in-Some : goal.returns-in-Some
returns-in-Some g c =
    c.as_slice.ensures.value ∙ (AreParts-zip _ _ c.args.self.now (search rules) c.behind-entries.invariant).values
