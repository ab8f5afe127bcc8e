-- Decimals scaled to whole numbers.
use Rattle.jzon_base.proofs.Common.{◌≡◌, ℕ, zero, suc, ℤ, pos, negsuc, ◌+◌, ◌*◌, ◌/◌, ◌%◌, ◌^◌, ◌≤◌, ◌<◌, ◌==◌, ◌+ℤ◌}
use Rattle.jzon_base.proofs.Common.{◌<ℤ◌, false, refl, sym, arith, pow-add, FitsSigned, w16, mod-eq_of_lt, ne_eqb, ints}
use Rattle.std.proofs.Math.Nat.{div-eq_of_lt}
use Rattle.jzon_base.specs.Decimal.{scaled, shifted}
use Rattle.jzon_base.proofs.Numbers.Powers.{power_pos, eq-times}

-- ---- from a higher exponent e down to a lower one f

pub scaled-down : (m : ℕ) (e f : ℤ) (k : ℕ) → shifted e ≡ shifted f + k → scaled m e ≡ m * 10 ^ k * 10 ^ shifted f
unfolding scaled
scaled-down m e f k h = rw (h, pow-add) (omega arith)

scaled-eq : (m : ℕ) (e : ℤ) (n : ℕ) (f : ℤ) (k : ℕ) → shifted e ≡ shifted f + k
    → (scaled m e == scaled n f) ≡ (m * 10 ^ k == n)
unfolding scaled
scaled-eq m e n f k h = rw (scaled-down m e f k h) (eq-times (m * 10 ^ k) n (10 ^ shifted f) (power_pos (shifted f)))

pub scaled-eq-fits : (m : ℕ) (e : ℤ) (n : ℕ) (f : ℤ) (k r : ℕ) → shifted e ≡ shifted f + k → r ≡ m * 10 ^ k
    → (r == n) ≡ (scaled m e == scaled n f)
scaled-eq-fits m e n f k r h p = rw (scaled-eq m e n f k h, p) refl

pub scaled-eq-too_large : (m : ℕ) (e : ℤ) (n : ℕ) (f : ℤ) (k : ℕ) → shifted e ≡ shifted f + k → 2 ^ 64 ≤ m * 10 ^ k
    → n < 2 ^ 64 → false ≡ (scaled m e == scaled n f)
scaled-eq-too_large m e n f k h large fits = rw (scaled-eq m e n f k h)
    (sym (ne_eqb (m * 10 ^ k) n (λ e. omega arith)))

pub ruleset same_rules = (scaled-eq-fits, scaled-eq-too_large)

-- ---- one trailing zero fewer

shifted-up : (e : ℤ) → FitsSigned w16 e → e <ℤ pos 0 → shifted (e +ℤ pos 1) ≡ shifted e + 1
shifted-up (pos n) fits negative = absurd (omega (arith, ints))
shifted-up (negsuc zero) fits negative = refl
shifted-up (negsuc (suc n)) fits negative =
    let e : negsuc (suc n) +ℤ pos 1 ≡ negsuc n = omega (arith, ints) in
    rw e (omega (arith, fits.sfits))

regroup : (q m t : ℕ) → q * 10 ≡ m → q * (t * 10) ≡ m * t
regroup q m t e = rw (← e) (omega arith)

pub scaled-strip : (m : ℕ) (e : ℤ) → FitsSigned w16 e → e <ℤ pos 0 → m % 10 ≡ 0
    → scaled (m / 10) (e +ℤ pos 1) ≡ scaled m e
unfolding scaled
scaled-strip m e fits negative h =
    let up : shifted (e +ℤ pos 1) ≡ shifted e + 1 = shifted-up e fits negative in
    let whole : m / 10 * 10 ≡ m = omega arith in
    rw (up, pow-add 10 (shifted e) 1) (regroup (m / 10) m (10 ^ shifted e) whole)

-- ---- division

pub over_larger : (m t : ℕ) → m < t → 0 ≡ m / t
over_larger m t h = sym (div-eq_of_lt h)

pub ruleset over_rules = (over_larger, power_pos)

-- the remainder of a division by a larger number
pub rest_of_larger : (m t : ℕ) → m < t → (m == 0) ≡ (m % t == 0)
rest_of_larger m t h = rw (mod-eq_of_lt h) refl
