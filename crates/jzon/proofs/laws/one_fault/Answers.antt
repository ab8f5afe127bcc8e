use Rattle.jzon.proofs.laws.one_fault.Goals as goal
use Rattle.jzon.proofs.Texts.Verdict.{one_tree_or_one_fault}

pub returns : goal.returns
returns c = one_tree_or_one_fault
