use Rattle.jzon.proofs.ReadBack.ReadsBack.{read_back}
use Rattle.jzon.proofs.laws.reads_back.Goals as goal

pub returns : goal.returns
returns c = read_back
