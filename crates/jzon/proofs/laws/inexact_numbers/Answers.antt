use Rattle.jzon.proofs.ReadBack.InexactNumbers.{inexact_numbers}
use Rattle.jzon.proofs.laws.inexact_numbers.Goals as goal

pub returns : goal.returns
returns c = inexact_numbers
