use Rattle.jzon_base.proofs.Common.{mul-mod_first}
use Rattle.std.proofs.Math.Nat.{mul_assoc}
use Rattle.jzon_base.proofs.Numbers.LeadingDigits.{two_shifts}
use Rattle.jzon_base.proofs.digits.eight_at_once.last_bytes.Goals as goal

pub returns : goal.returns
returns c = rw (mul-mod_first, mul_assoc, two_shifts c.args.count c.requires)
