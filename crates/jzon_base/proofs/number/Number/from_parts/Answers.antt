use Rattle.jzon_base.proofs.Common.{◌≡◌, ◌+ℤ◌, ◌<ℤ◌, ◌∙◌, pos, arith, inr, FitsSigned, to_z, of_z, w16, ints}
use Rattle.jzon_base.proofs.Numbers.Scaling.{scaled-strip}
use Rattle.jzon_base.proofs.number.Number.from_parts.Goals as goal

pub loop-exponent-preserved : goal.loop-exponent-preserved
loop-exponent-preserved c =
    let loop = c.loop-exponent in
    let fits : FitsSigned w16 (to_z w16 loop.exponent-bits) = omega (arith, ints) in
    let negative : to_z w16 loop.exponent-bits <ℤ pos 0 = omega (arith, ints) in
    let next : to_z w16 (of_z w16 (to_z w16 loop.exponent-bits +ℤ pos 1))
    ≡ to_z w16 loop.exponent-bits +ℤ pos 1 = omega (arith, ints) in
    record {
      decimal = rw next (scaled-strip _ _ fits negative c.if-mantissa-eq0.true ∙ loop.invariant.decimal);
      not_below = omega (arith, ints);
      not_past = inr (omega (arith, ints));
    }
