use Rattle.jzon_base.proofs.Common.{◌≡◌, ◌∙◌, ◌≤◌, ◌+ℤ◌, ℕ, ℤ, ◌++◌, true, inl, inr, arith, ints, clamps, ap₂, sym, refl, rules}
use Rattle.jzon_base.proofs.Common.{true≢false, to_z, of_z, w16}
use Rattle.jzon_base.specs.Decimal.{signed}
use Rattle.jzon_base.specs.Digits.{digits_number, clamp, own_power}
use Rattle.jzon_base.specs.DigitLimits.{AreFewEnough, IsFirstTooMany}
use Rattle.jzon_base.specs.LostDigits.{HoldsOfNone, loses_last, leaves_range}
use Rattle.jzon_base.proofs.Numbers.LostDigits.{too_many_within, zero_in_range}
use Rattle.jzon_base.proofs.digits.read_digits.Goals as goal
use Rattle.jzon_base.proofs.digits.read_digits.Goals.{then-exact+in-Some+else-is_none_or, then-exact+in_default, else-exact}

pub returns-in-Some-too_many-clause-fault : goal.returns-in-Some-too_many-clause-fault
returns-in-Some-too_many-clause-fault c =
    let whole = c.args.whole.now in
    let fraction = c.args.fraction.now in
    let prefix = c.kept_prefix-number.ensures in
    let first : IsFirstTooMany whole fraction c.in-Some-too_many.i =
    c.in-Some-too_many.ensures.some whole fraction refl (sym prefix.dropped) (sym prefix.kept) in (
      first,
      elim c.if-exact.branch [
        | then-exact+in-Some+else-is_none_or w ↦
            (let late : c.in-Some-too_many.i ≤ w.in-Some.lost = search rules in
            λ on j below. w.in-Some.ensures.some.2 j (omega (arith, below, late)))
        | then-exact+in_default w ↦
            (λ on j below. w.in_default.ensures.none refl j
            (omega (arith, below, too_many_within whole fraction c.in-Some-too_many.i first)))
        | else-exact w ↦ (λ on. absurd (true≢false (sym on ∙ w.if-exact.false)))
      ],
    )

pub returns-else-exact-2-clause-number : goal.returns-else-exact-2-clause-number
returns-else-exact-2-clause-number c =
    let whole = c.args.whole.now in
    let fraction = c.args.fraction.now in
    let prefix = c.kept_prefix-number.ensures in
    let limits = c.in_default-too_many.ensures.none refl in
    let few : AreFewEnough whole fraction = (omega (arith, prefix.dropped, limits.0), omega (arith, prefix.kept, limits.1)) in
    let none : (c.args.exact ≡ true → HoldsOfNone loses_last (whole ++ fraction)) =
    elim c.if-exact.branch [
      | then-exact+in-Some+else-is_none_or w ↦
          (λ on. absurd (true≢false (sym (rw c.in_default-too_many.is at w.is_none_or.ensures) ∙ w.if-is_none_or.false)))
      | then-exact+in_default w ↦ (λ on. w.in_default.ensures.none refl)
      | else-exact w ↦ (λ on. absurd (true≢false (sym on ∙ w.if-exact.false)))
    ] in
    let stays : (c.args.exact ≡ true
    → HoldsOfNone (leaves_range whole fraction (signed c.args.positive_exponent)) c.args.exponent.now) =
    elim c.else-exact-2.either [
      | inl zero ↦ (λ on i within. zero_in_range _ _ (sym prefix.number ∙ zero.1))
      | inr off ↦ (λ on. absurd (true≢false (sym on ∙ off)))
    ] in
    let power : to_z w16 (of_z w16 c.clamped_exponent-clamped.result)
    ≡ clamp (own_power whole fraction +ℤ signed c.args.positive_exponent (digits_number c.args.exponent.now)) =
    omega (arith, ints, clamps, c.clamped_exponent-clamped.ensures, prefix.dropped, prefix.kept) in (
      (few, λ on. (none on, stays on)),
      ap₂ (λ (n : ℕ) (z : ℤ). (n, z)) prefix.number power,
    )
