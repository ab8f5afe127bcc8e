use Rattle.jzon_base.proofs.Common.{◌^◌, arith, rules, common_steps}
use Rattle.jzon_base.proofs.Numbers.Scaling.{rest_of_larger}
use Rattle.jzon_base.proofs.Numbers.Powers.{power_pos}
use Rattle.jzon_base.proofs.number.fixed_point.is_whole.Goals as goal

pub nonzero_rem-result : goal.nonzero_rem-result
nonzero_rem-result c = let some = power_pos c.unsigned_abs.result in omega arith

pub returns-in-None : goal.returns-in-None
returns-in-None c =
    let test = rest_of_larger c.args.mantissa (10 ^ c.unsigned_abs.result) (omega arith) in
    first_of (search (rules, test), grind (arith, common_steps, test))
