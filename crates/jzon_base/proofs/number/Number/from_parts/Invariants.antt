use Rattle.jzon_base.proofs.Common.{◌≡◌, ◌≤ℤ◌, ◌⊎◌, pos, unsigned_abs}
use Rattle.jzon_base.specs.Decimal.{scaled}
use Rattle.jzon_base.proofs.number.Number.from_parts.Given as goal

abbrev pub decreases-loop-exponent : goal.decreases-loop-exponent
decreases-loop-exponent l = unsigned_abs l.exponent

abbrev pub invariant-loop-exponent : goal.invariant-loop-exponent
invariant-loop-exponent l = record {
  decimal : scaled l.mantissa l.exponent ≡ scaled l.initial.mantissa l.initial.exponent;
  not_below : l.initial.exponent ≤ℤ l.exponent;
  not_past : (l.exponent ≡ l.initial.exponent) ⊎ (l.exponent ≤ℤ pos 0);
}
