use Rattle.jzon.proofs.ReadBack.ExactNumbers.{exact_numbers}
use Rattle.jzon.proofs.laws.exact_numbers.Goals as goal

pub returns : goal.returns
returns c = exact_numbers
