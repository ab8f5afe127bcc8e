use Rattle.jzon_base.proofs.Common.{◌≡◌, ◌==◌, rules}
use Rattle.jzon_base.specs.Decimal.{scaled}
use Rattle.jzon_base.proofs.Numbers.Scaling.{same_rules}
use Rattle.jzon_base.proofs.number.same_magnitude.Goals as goal

pub returns-else-exponent-other_exponent : goal.returns-else-exponent-other_exponent
returns-else-exponent-other_exponent c =
    let flipped : c.eq-else-exponent-other_exponent.result
    ≡ (scaled c.args.other_mantissa c.args.other_exponent == scaled c.args.mantissa c.args.exponent) =
    search (rules, same_rules) in
    search (rules, flipped)
