use Rattle.jzon_base.proofs.Entries.Zips.{AreParts-zip}
use Rattle.jzon_base.proofs.pairs.contents.Contents.keys.Goals as goal

pub returns : goal.returns
returns g c = (AreParts-zip _ _ _ c.self.view_is c.self.invariant).keys
