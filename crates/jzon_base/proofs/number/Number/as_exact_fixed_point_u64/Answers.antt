use Rattle.jzon_base.proofs.Numbers.ExactPoints.{exact_unsigned}
use Rattle.jzon_base.proofs.number.Number.as_exact_fixed_point_u64.Goals as goal

pub returns-then-is_exact_at-clause-equal : goal.returns-then-is_exact_at-clause-equal
returns-then-is_exact_at-clause-equal c = exact_unsigned c.args.self.now c.args.point c.as_fixed_point_u64.result
    (c.is_exact_at.ensures.exact c.if-is_exact_at.true) c.as_fixed_point_u64.ensures
