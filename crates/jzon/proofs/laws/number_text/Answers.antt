use Rattle.jzon.proofs.ReadBack.NumbersReadBack.{number_read_back}
use Rattle.jzon.proofs.laws.number_text.Goals as goal

pub returns : goal.returns
returns c = number_read_back
