use Rattle.jzon_base.proofs.Common.{◌≡◌, ◌∙◌, ◌≤◌, ◌<◌, ℕ, ℤ, ◌≢◌, sym, nat_lt, true, false, cases_lt, inl, inr, arith, ints, clamps, pos, neg_ℤ, ◌+ℤ◌, ◌-ℤ◌, ◌+◌, ◌-◌}
use Rattle.jzon_base.proofs.Common.{nat_tests}
use Rattle.jzon_base.specs.Digits.{clamp}
use Rattle.jzon_base.specs.LostDigits.{is_out_of_range}
use Rattle.jzon_base.proofs.Numbers.LostDigits.{in_range_if, out_if}
use Rattle.jzon_base.proofs.digits.most_written.Goals as goal

-- up to the limit the exponent fits, and above it doesn't
by_limit : (m limit n : ℕ) (z : ℤ) → m ≢ 0 → (n ≤ limit → clamp z ≡ z) → (limit < n → clamp z ≡ z → n ≤ limit)
    → is_out_of_range m z ≡ nat_lt limit n
by_limit m limit n z some fits unfit = elim (cases_lt limit n) [
  | inl above ↦ out_if m z some (λ e. absurd (omega (arith, unfit above e))) ∙ sym (is_above limit n above)
  | inr below ↦ in_range_if m z (fits below) ∙ sym (not_above limit n below)
]
  where
    is_above : (a b : ℕ) → a < b → nat_lt a b ≡ true
    is_above a b h = grind (arith, nat_tests)

    not_above : (a b : ℕ) → b ≤ a → nat_lt a b ≡ false
    not_above a b h = grind (arith, nat_tests)

pub returns-then-positive-clause-most : goal.returns-then-positive-clause-most
returns-then-positive-clause-most c m n some = rw c.if-positive.true
    (by_limit m (32767 - c.args.dropped + c.args.kept_fraction) n (pos c.args.dropped -ℤ pos c.args.kept_fraction +ℤ pos n) some
    (λ few. omega (arith, ints, clamps)) (λ many e. omega (arith, ints, clamps)))

pub returns-else-positive-clause-most : goal.returns-else-positive-clause-most
returns-else-positive-clause-most c m n some = rw c.if-positive.false
    (by_limit m (32768 - c.args.kept_fraction + c.args.dropped) n (pos c.args.dropped -ℤ pos c.args.kept_fraction +ℤ neg_ℤ (pos n))
    some (λ few. omega (arith, ints, clamps)) (λ many e. omega (arith, ints, clamps)))
