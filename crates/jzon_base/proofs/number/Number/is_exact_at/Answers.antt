use Rattle.jzon_base.proofs.Common.{◌≡◌, ◌∙◌, sym, rules, arith, FitsSigned, w16, common_steps}
use Rattle.jzon_base.specs.Decimal.{is_whole_at}
use Rattle.jzon_base.proofs.Numbers.ExactPoints.{IsExactAt-whole}
use Rattle.jzon_base.proofs.number.Number.is_exact_at.Goals as goal

pub returns-clause-exact : goal.returns-clause-exact
returns-clause-exact c = λ whole.
    let parts = c.as_parts-mantissa.result in
    let fits : FitsSigned w16 c.as_parts-mantissa.result.2 = first_of (search rules, grind (arith, common_steps)) in
    let test : c.is_whole.result ≡ is_whole_at c.args.self.now c.args.point =
    first_of (search rules, grind (arith, common_steps)) in
    IsExactAt-whole c.args.self.now c.args.point parts.0 parts.1 parts.2 fits (sym c.as_parts-mantissa.ensures)
    (sym test ∙ whole)
