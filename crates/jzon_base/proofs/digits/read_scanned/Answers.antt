use Rattle.jzon_base.proofs.Common.{◌≡◌, ◌∙◌, ◌%◌, ◌^◌, ◌≤◌, ◌<◌, sym, ℕ, List, pos, ◌-ℤ◌, ◌+ℤ◌, arith, ints, clamps, length, eqb-true, All, to_z, of_z, w16}
use Rattle.jzon_base.proofs.Common.{mod-eq_of_lt}
use Rattle.jzon_base.specs.Digits.{IsDigit, digits_number}
use Rattle.jzon_base.specs.LostDigits.{number_digits}
use Rattle.jzon_base.proofs.Numbers.DigitPrefixes.{below_ten_to}
use Rattle.jzon_base.proofs.Numbers.LostDigits.{FewDigits, few_digits, few_outcome, signed_none}
use Rattle.jzon_base.proofs.digits.read_scanned.Goals as goal

pub returns-then-is_empty : goal.returns-then-is_empty
returns-then-is_empty c =
    let k : FewDigits c.args.whole.now c.args.fraction.now = few_digits c.args.whole.now c.args.fraction.now c.requires.whole
    c.requires.fraction c.if-whole-fraction-gt-ALWAYS_KEPT.false in
    let empty : length c.args.exponent.now ≡ 0 = eqb-true _ 0 (sym c.is_empty.ensures ∙ c.if-is_empty.true) in
    let none = signed_none c.args.positive_exponent c.args.exponent.now empty in
    let outcome = few_outcome
    (number_digits c.args.whole.now c.args.fraction.now c.args.positive_exponent c.args.exponent.now) c.args.number (to_z w16 (of_z w16 (pos 0 -ℤ to_z w16 (length c.args.fraction.now)))) k
    c.if-whole-fraction-gt-ALWAYS_KEPT.false c.requires.number
    (rw none (omega (arith, ints, clamps, c.if-whole-fraction-gt-ALWAYS_KEPT.false)))
    (omega (arith, ints, clamps, c.if-whole-fraction-gt-ALWAYS_KEPT.false)) in
    record { readable = outcome.0; number = outcome.1 }

-- so few digits of an exponent spell a small number
exact_exponent : (ds : List ℕ) (written : ℕ) → All IsDigit ds → length ds ≤ 4 → written ≡ digits_number ds % 2 ^ 64
    → (written ≡ digits_number ds) × (written < 10000)
exact_exponent ds written all few e =
    let below : digits_number ds < 10 ^ 4 = below_ten_to 4 ds all few in
    let same : written ≡ digits_number ds = e ∙ mod-eq_of_lt (omega (arith, below)) in
    (same, omega (arith, same, below))

pub overflow_cast-written : goal.overflow_cast-written
overflow_cast-written c =
    let k = exact_exponent c.args.exponent.now c.args.written c.requires.exponent c.if-exponent-gt-NEVER_CLAMPED.false
    c.requires.written in
    omega (arith, ints, k.1)

pub overflow_add-sum : goal.overflow_add-sum
overflow_add-sum c =
    let k = exact_exponent c.args.exponent.now c.args.written c.requires.exponent c.if-exponent-gt-NEVER_CLAMPED.false
    c.requires.written in
    omega (arith, ints, k.1, c.if-whole-fraction-gt-ALWAYS_KEPT.false)

pub overflow_sub-sum : goal.overflow_sub-sum
overflow_sub-sum c =
    let k = exact_exponent c.args.exponent.now c.args.written c.requires.exponent c.if-exponent-gt-NEVER_CLAMPED.false
    c.requires.written in
    omega (arith, ints, k.1, c.if-whole-fraction-gt-ALWAYS_KEPT.false)

pub returns-then-positive_exponent : goal.returns-then-positive_exponent
returns-then-positive_exponent c =
    let k = exact_exponent c.args.exponent.now c.args.written c.requires.exponent c.if-exponent-gt-NEVER_CLAMPED.false
    c.requires.written in
    let few = c.if-whole-fraction-gt-ALWAYS_KEPT.false in
    let outcome = few_outcome
    (number_digits c.args.whole.now c.args.fraction.now c.args.positive_exponent c.args.exponent.now) c.args.number
    (to_z w16 (of_z w16 (to_z w16 (of_z w16 (pos 0 -ℤ to_z w16 (length c.args.fraction.now))) +ℤ to_z w16 c.args.written)))
    (few_digits c.args.whole.now c.args.fraction.now c.requires.whole c.requires.fraction few) few c.requires.number
    (rw c.if-positive_exponent.true (omega (arith, ints, clamps, few, k.0, k.1)))
    (omega (arith, ints, clamps, few, k.1)) in
    record { readable = outcome.0; number = outcome.1 }

pub returns-else-positive_exponent : goal.returns-else-positive_exponent
returns-else-positive_exponent c =
    let k = exact_exponent c.args.exponent.now c.args.written c.requires.exponent c.if-exponent-gt-NEVER_CLAMPED.false
    c.requires.written in
    let few = c.if-whole-fraction-gt-ALWAYS_KEPT.false in
    let outcome = few_outcome
    (number_digits c.args.whole.now c.args.fraction.now c.args.positive_exponent c.args.exponent.now) c.args.number
    (to_z w16 (of_z w16 (to_z w16 (of_z w16 (pos 0 -ℤ to_z w16 (length c.args.fraction.now))) -ℤ to_z w16 c.args.written)))
    (few_digits c.args.whole.now c.args.fraction.now c.requires.whole c.requires.fraction few) few c.requires.number
    (rw c.if-positive_exponent.false (omega (arith, ints, clamps, few, k.0, k.1)))
    (omega (arith, ints, clamps, few, k.1)) in
    record { readable = outcome.0; number = outcome.1 }
