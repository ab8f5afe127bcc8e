use Rattle.jzon_base.proofs.Common.{◌≡◌, ◌+◌, ◌≤◌, ◌≤ℤ◌, ℤ, pos, negsuc, unsigned_abs, length, decimal, arith, ints}
use Rattle.jzon_base.proofs.Common.{lt-ltb, ltb-true, to_z-of_z, w16, ap, ◌∙◌}
use Rattle.jzon_base.proofs.Numbers.Powers.{length-decimal}
use Rattle.jzon_base.proofs.util.print_dec.is_common.Goals as goal

-- an exponent of 0 to -16 has at most 16 places
few_places : (e : ℤ) → e ≤ℤ pos 0 → negsuc 15 ≤ℤ e → unsigned_abs e ≤ 16
few_places (pos n) a b = omega (arith, ints)
few_places (negsuc n) a b = omega (arith, ints)

pub returns : goal.returns
returns c =
    let e = c.args.exponent in
    let count : length (decimal c.args.mantissa) ≡ c.ilog10.result + 1 =
    length-decimal c.ilog10.result c.args.mantissa c.ranges.mantissa.fits c.ilog10.ensures.power_le
    c.ilog10.ensures.next_power_gt in
    let value : c.unsigned_abs.result ≡ unsigned_abs c.args.exponent =
    c.unsigned_abs.ensures.value ∙ ap unsigned_abs (to_z-of_z w16 c.args.exponent c.ranges.exponent) in
    let top : e ≤ℤ pos 0 = omega (arith, ints) in
    let bottom : negsuc 15 ≤ℤ e = omega (arith, ints) in (
      λ yes. record {
        some = omega arith;
        no_zeros = top;
        places = few_places e top bottom;
        before_point = omega (arith, count, value, ltb-true c.unsigned_abs.result (c.ilog10.result + 1) yes);
      },
      λ common. lt-ltb c.unsigned_abs.result (c.ilog10.result + 1) (omega (arith, count, value, common.before_point)),
    )
