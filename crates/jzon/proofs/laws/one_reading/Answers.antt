use Rattle.jzon.proofs.laws.one_reading.Goals as goal
use Rattle.jzon.proofs.Texts.OneTree.{same_tree}

pub returns : goal.returns
returns c = same_tree
