use Rattle.jzon_base.proofs.Numbers.EightDigits.{joined_is}
use Rattle.jzon_base.proofs.digits.eight_at_once.number_of_eight.Goals as goal

pub returns : goal.returns
returns c ds long small is = joined_is ds c.args.word long small is
