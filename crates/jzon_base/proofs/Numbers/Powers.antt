-- Products with powers of ten, and how many digits a number has.
use Rattle.jzon_base.proofs.Common.{◌≡◌, ℕ, suc, ◌+◌, length, ◌*◌, ◌/◌, ◌^◌, ◌≤◌, ◌<◌, ◌==◌, inl, inr, sym, ap, ◌∙◌}
use Rattle.jzon_base.proofs.Common.{arith, one-le-pow, mul-le-mul_right, pow-le-pow_right, cases_eq, cases_lt, eq-eqb}
use Rattle.jzon_base.proofs.Common.{ne_eqb, length-decimal-le, decimal}
use Rattle.std.proofs.Math.Nat.{mul-div_cancel, pow-suc}
use Rattle.std.proofs.lemmas.Fmt.{decimal_is_IsNumeral}
use Rattle.std.proofs.lemmas.Int.Digits.{digits_value-lt}

-- a multiple of a number that is too large is too large
pub too_large : (m p : ℕ) → 0 < m → 2 ^ 64 ≤ p → 2 ^ 64 ≤ m * p
too_large m p some large = omega (arith, mul-le-mul_right p some, large)

pub power_pos : (k : ℕ) → 0 < 10 ^ k
power_pos k = one-le-pow k 10 (omega arith)

pub cancel : (a b t : ℕ) → 0 < t → a * t ≡ b * t → a ≡ b
cancel a b t h e = sym (mul-div_cancel a h) ∙ ap (λ x. x / t) e ∙ mul-div_cancel b h

-- a test for equality after both sides are multiplied
pub eq-times : (a b t : ℕ) → 0 < t → (a * t == b * t) ≡ (a == b)
eq-times a b t h =
    elim (cases_eq a b) [
      | inl e ↦ eq-eqb (a * t) (b * t) (ap (λ x. x * t) e) ∙ sym (eq-eqb a b e)
      | inr apart ↦ ne_eqb (a * t) (b * t) (λ e. apart (cancel a b t h e)) ∙ sym (ne_eqb a b apart)
    ]

-- a number has one digit more than the exponent of the largest power of ten that it reaches
pub length-decimal : (k n : ℕ) → n < 2 ^ 64 → 10 ^ k ≤ n → n < 10 * 10 ^ k → length (decimal n) ≡ k + 1
length-decimal k n fits reached below =
    let numeral = decimal_is_IsNumeral n fits in
    let most : length (decimal n) ≤ suc k =
    length-decimal-le (suc k) n (omega arith) (omega (arith, pow-suc 10 k, below)) fits in
    let value : n < 10 ^ length (decimal n) = rw numeral.1 at (digits_value-lt 10 (decimal n) numeral.0.1) in
    elim (cases_lt k (length (decimal n))) [
      | inl more ↦ omega (arith, most, more)
      | inr few ↦
          let less : 10 ^ length (decimal n) ≤ 10 ^ k = pow-le-pow_right (omega arith) few in
          absurd (omega (arith, value, reached, less))
    ]
