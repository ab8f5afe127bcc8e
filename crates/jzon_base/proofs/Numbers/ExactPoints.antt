-- What an exact fixed-point reading is: the decimal itself, with its point moved.
use Rattle.jzon_base.proofs.Common.{◌≡◌, ℕ, zero, suc, ℤ, pos, negsuc, neg_ℤ, ◌+◌, ◌*◌, ◌/◌, ◌%◌, ◌^◌, ◌≤◌, ◌<◌, ◌==◌}
use Rattle.jzon_base.proofs.Common.{◌+ℤ◌, Bool, true, false, Option, Some, None, refl, sym, ap, ◌∙◌, arith, FitsSigned}
use Rattle.jzon_base.proofs.Common.{subst, IsTrue, IfSome, ◌||◌, ◌&&◌, w16, eq-eqb, ints, same_Some}
use Rattle.std.proofs.Math.Nat.{mod-eq-sub-div-mul, div-mul-le_self}
use Rattle.std.proofs.lemmas.Bool.{eqb-true}
use Rattle.jzon_base.specs.Decimal.{Decimal, nan, parts, scaled, shifted, whole_part, is_whole, is_whole_at}
use Rattle.jzon_base.specs.Decimal.{unsigned_fixed_point, integer_at, same_decimal, signed, parts_of}
use Rattle.jzon_base.specs.Decimal.{IsExactAt, SomeWhere}
use Rattle.jzon_base.proofs.Numbers.Powers.{power_pos, eq-times}
use Rattle.jzon_base.proofs.Numbers.Scaling.{scaled-down}

above : (e : ℤ) (point k : ℕ) → FitsSigned w16 e → point ≤ 32768 → e +ℤ pos point ≡ pos k
    → shifted e ≡ shifted (neg_ℤ (pos point)) + k
above (pos a) zero k fits low h = omega (arith, ints)
above (pos a) (suc p) k fits low h = omega (arith, ints)
above (negsuc a) zero k fits low h = omega (arith, ints, fits.sfits)
above (negsuc a) (suc p) k fits low h = omega (arith, ints, fits.sfits)

below : (e : ℤ) (point k : ℕ) → FitsSigned w16 e → point ≤ 32768 → e +ℤ pos point ≡ negsuc k
    → shifted (neg_ℤ (pos point)) ≡ shifted e + (k + 1)
below (pos a) zero k fits low h = omega (arith, ints)
below (pos a) (suc p) k fits low h = omega (arith, ints)
below (negsuc a) zero k fits low h = omega (arith, ints, fits.sfits)
below (negsuc a) (suc p) k fits low h = omega (arith, ints, fits.sfits)

whole_times : (m t : ℕ) → m % t ≡ 0 → m / t * t ≡ m
whole_times m t none = omega (arith, mod-eq-sub-div-mul m t, div-mul-le_self m t)

exact_by : (m : ℕ) (e : ℤ) (point : ℕ) (power : ℤ) → FitsSigned w16 e → point ≤ 32768 → e +ℤ pos point ≡ power
    → is_whole m power ≡ true → scaled m e ≡ scaled (whole_part m power) (neg_ℤ (pos point))
unfolding scaled
exact_by m e point (pos k) fits low h whole = scaled-down m e (neg_ℤ (pos point)) k (above e point k fits low h)
exact_by m e point (negsuc k) fits low h whole =
    let none : m % 10 ^ (k + 1) ≡ 0 = eqb-true (m % 10 ^ (k + 1)) 0 whole in
    sym (scaled-down (m / 10 ^ (k + 1)) (neg_ℤ (pos point)) e (k + 1) (below e point k fits low h)
    ∙ ap (λ x. x * 10 ^ shifted e) (whole_times m (10 ^ (k + 1)) none))

or_true : (b : Bool) → IsTrue (b || true)
or_true true = refl
or_true false = refl

zero_scaled : (m : ℕ) (e f : ℤ) → scaled m e ≡ scaled 0 f → m ≡ 0
unfolding scaled
zero_scaled m e f h =
    let test : (m * 10 ^ shifted e == 0 * 10 ^ shifted e) ≡ true =
    eq-eqb (m * 10 ^ shifted e) (0 * 10 ^ shifted e) (omega (arith, h)) in
    eqb-true m 0 (sym (eq-times m 0 (10 ^ shifted e) (power_pos (shifted e))) ∙ test)

-- the sign and the exact decimal are those of the number
same_by : (positive : Bool) (m : ℕ) (e : ℤ) (w point : ℕ) → scaled m e ≡ scaled w (neg_ℤ (pos point))
    → IsTrue (same_decimal (parts positive m e) (integer_at (signed positive w) point))
same_by true m e w point h =
    rw (eq-eqb (scaled m e) (scaled w (neg_ℤ (pos point))) h) (or_true ((m == 0) && (w == 0)))
same_by false m e zero point h = let none = zero_scaled m e (neg_ℤ (pos point)) h in rw none refl
same_by false m e (suc w) point h =
    rw (eq-eqb (scaled m e) (scaled (suc w) (neg_ℤ (pos point))) h) (or_true ((m == 0) && (suc w == 0)))

-- the exponent of a number has 16 bits
pub same-exact : (positive : Bool) (m : ℕ) (e : ℤ) (point : ℕ) → FitsSigned w16 e → point ≤ 32768
    → is_whole m (e +ℤ pos point) ≡ true
    → IsTrue (same_decimal (parts positive m e) (integer_at (signed positive (whole_part m (e +ℤ pos point))) point))
same-exact positive m e point fits low whole =
    same_by positive m e (whole_part m (e +ℤ pos point)) point
    (exact_by m e point (e +ℤ pos point) fits low refl whole)

is_exact_by : (positive : Bool) (m : ℕ) (e : ℤ) (point : ℕ) (n : ℤ) → FitsSigned w16 e → point ≤ 32768
    → is_whole m (e +ℤ pos point) ≡ true → signed positive (whole_part m (e +ℤ pos point)) ≡ n
    → IsTrue (same_decimal (parts positive m e) (integer_at n point))
is_exact_by positive m e point n fits low whole is =
    subst (λ k. IsTrue (same_decimal (parts positive m e) (integer_at k point))) is
    (same-exact positive m e point fits low whole)

-- the parts, read, have an exponent of 16 bits
pub IsExactAt-whole : (d : Decimal) (point : ℕ) (b : Bool) (m : ℕ) (e : ℤ) → FitsSigned w16 e
    → parts_of d ≡ (b, m, e) → is_whole_at d point ≡ true → IsExactAt d point
IsExactAt-whole nan point b m e fits is whole = absurd (cc)
IsExactAt-whole (parts positive k f) point b m e fits is whole = λ low n found.
    let same_e : e ≡ f = sym (ap (λ (x : Bool × ℕ × ℤ). x.2) is) in
    is_exact_by positive k f point n (subst (FitsSigned w16) same_e fits) low whole (same_Some _ n found)

pub exact_unsigned : (d : Decimal) (point : ℕ) (r : Option ℕ) → IsExactAt d point
    → SomeWhere (unsigned_fixed_point d point) (λ n. n < 2 ^ 64) r
    → IfSome r (λ n. point ≤ 32768 → IsTrue (same_decimal d (integer_at (pos n) point)))
exact_unsigned d point None exact h = tt
exact_unsigned nan point (Some n) exact h = absurd (cc)
exact_unsigned (parts true m e) point (Some n) exact h = λ low. exact low (pos n) (ap (λ k. Some (pos k)) (sym h.1))
exact_unsigned (parts false m e) point (Some n) exact h = absurd (cc)
