-- Equal numbers are the same integer, or none is one.
use Rattle.std.proofs.Common.{◌≡◌, ◌≤◌, ◌<◌, ℕ, ◌+◌, ◌*◌, ◌^◌, ◌/◌, ◌%◌, ◌==◌, ◌&&◌, ◌||◌, ℤ, pos, negsuc, ◌+ℤ◌}
use Rattle.std.proofs.Common.{Bool, true, false, Option, None, Some, if◌then◌else◌, refl, sym, ap, ◌∙◌, arith, FitsSigned, w16}
use Rattle.std.proofs.lemmas.Int.{ints}
use Rattle.std.proofs.lemmas.Bool.{eq-eqb, eqb-true, false≢true, and_parts}
use Rattle.std.proofs.lemmas.Nat.{div-mul-add, mod-mul-add}
use Rattle.std.proofs.Math.Nat.{mod-eq-sub-div-mul, div-mul-le_self}
use Rattle.std.specs.Bool.{beq}
use Rattle.std.specs.Cmp.{booleans_Decides}
use Rattle.jzon.specs.Decimal.{Decimal, nan, parts, scaled, shifted, whole_part, is_whole, exact_fixed_point, same_decimal, signed}
use Rattle.jzon_base.proofs.Numbers.Powers.{power_pos, cancel}
use Rattle.jzon_base.proofs.Numbers.Scaling.{scaled-down}
use Rattle.jzon.specs.Lawful.{InRange}

as_scaled : (m : ℕ) (e : ℤ) → m * 10 ^ shifted e ≡ scaled m e
unfolding scaled
as_scaled m e = refl

zero_scaled : (e : ℤ) → scaled 0 e ≡ scaled 0 (pos 0)
unfolding scaled
zero_scaled e = omega arith

whole_times : (m t : ℕ) → m % t ≡ 0 → m / t * t ≡ m
whole_times m t none = omega (arith, mod-eq-sub-div-mul m t, div-mul-le_self m t)

up_to : (i : ℕ) → i ≤ 32767 → shifted (pos 0) ≡ shifted (negsuc i) + (i + 1)
up_to i low = omega arith

-- a whole number is its whole part
sound : (m : ℕ) (e : ℤ) → FitsSigned w16 e → is_whole m e ≡ true → scaled m e ≡ scaled (whole_part m e) (pos 0)
sound m (pos i) fits whole = scaled-down m (pos i) (pos 0) i refl ∙ as_scaled (m * 10 ^ i) (pos 0)
sound m (negsuc i) fits whole =
    let t = 10 ^ (i + 1) in
    let none : m % t ≡ 0 = eqb-true (m % t) 0 whole in
    let low : i ≤ 32767 = omega (arith, ints, fits.sfits) in
    sym (scaled-down (m / t) (pos 0) (negsuc i) (i + 1) (up_to i low)
    ∙ ap (λ x. x * 10 ^ shifted (negsuc i)) (whole_times m t none) ∙ as_scaled m (negsuc i))

-- a number that is k is whole, and k is its whole part
complete : (m : ℕ) (e : ℤ) (k : ℕ) → FitsSigned w16 e → scaled m e ≡ scaled k (pos 0)
    → (is_whole m e ≡ true) × (whole_part m e ≡ k)
complete m (pos i) k fits h = (
  refl,
  cancel (m * 10 ^ i) k (10 ^ shifted (pos 0)) (power_pos (shifted (pos 0)))
      (sym (scaled-down m (pos i) (pos 0) i refl) ∙ h ∙ sym (as_scaled k (pos 0))),
)
complete m (negsuc i) k fits h =
    let t = 10 ^ (i + 1) in
    let some : 0 < t = power_pos (i + 1) in
    let low : i ≤ 32767 = omega (arith, ints, fits.sfits) in
    let is : m ≡ k * t + 0 =
    cancel m (k * t) (10 ^ shifted (negsuc i)) (power_pos (shifted (negsuc i)))
    (as_scaled m (negsuc i) ∙ h ∙ scaled-down k (pos 0) (negsuc i) (i + 1) (up_to i low)) ∙ (omega arith) in (
      eq-eqb (m % t) 0 (ap (λ x. x % t) is ∙ mod-mul-add k t 0 some),
      ap (λ x. x / t) is ∙ div-mul-add k t 0 some,
    )

-- the integer that a number of these parts is
abbrev whole_of : Bool → ℕ → ℤ → Option ℤ
whole_of p m e = if is_whole m e then Some (signed p (whole_part m e)) else None

is_whole_of : (p : Bool) (m : ℕ) (e : ℤ) (k : ℕ) → (is_whole m e ≡ true) × (whole_part m e ≡ k)
    → whole_of p m e ≡ Some (signed p k)
is_whole_of p m e k (whole, is) = rw whole (ap (λ x. Some (signed p x)) is)

same_by : (p : Bool) (m : ℕ) (e : ℤ) (n : ℕ) (f : ℤ) (b c : Bool) → is_whole m e ≡ b → is_whole n f ≡ c
    → FitsSigned w16 e → FitsSigned w16 f → scaled m e ≡ scaled n f → whole_of p m e ≡ whole_of p n f
same_by p m e n f true c is_m is_n fits_e fits_f h =
    let sound_m = sound m e fits_e is_m in
    is_whole_of p m e (whole_part m e) (is_m, refl)
    ∙ sym (is_whole_of p n f (whole_part m e) (complete n f (whole_part m e) fits_f (sym h ∙ sound_m)))
same_by p m e n f false true is_m is_n fits_e fits_f h =
    let other = complete m e (whole_part n f) fits_e (h ∙ sound n f fits_f is_n) in
    absurd (false≢true (sym is_m ∙ other.0))
same_by p m e n f false false is_m is_n fits_e fits_f h = rw (is_m, is_n) refl

zero_whole : (p : Bool) (e : ℤ) → FitsSigned w16 e → whole_of p 0 e ≡ Some (pos 0)
zero_whole true e fits = is_whole_of true 0 e 0 (complete 0 e 0 fits (zero_scaled e))
zero_whole false e fits = is_whole_of false 0 e 0 (complete 0 e 0 fits (zero_scaled e))

no_shift : (e : ℤ) → e +ℤ pos 0 ≡ e
no_shift e = omega (arith, ints)

as_read : (p : Bool) (m : ℕ) (e : ℤ) → exact_fixed_point (parts p m e) 0 ≡ whole_of p m e
as_read p m e = ap (λ x. if is_whole m x then Some (signed p (whole_part m x)) else None) (no_shift e)

same_parts : (z b : Bool) (p : Bool) (m : ℕ) (e : ℤ) (q : Bool) (n : ℕ) (f : ℤ) → FitsSigned w16 e → FitsSigned w16 f
    → ((m == 0) && (n == 0)) ≡ z → (beq p q && (scaled m e == scaled n f)) ≡ b → (z || b) ≡ true
    → whole_of p m e ≡ whole_of q n f
same_parts true b p m e q n f fits_e fits_f zeros rest h =
    let both = and_parts (m == 0) (n == 0) zeros in
    let no_m = eqb-true m 0 both.0 in
    let no_n = eqb-true n 0 both.1 in
    ap (λ x. whole_of p x e) no_m ∙ zero_whole p e fits_e ∙ sym (ap (λ x. whole_of q x f) no_n ∙ zero_whole q f fits_f)
same_parts false b p m e q n f fits_e fits_f zeros rest h =
    let both = and_parts (beq p q) (scaled m e == scaled n f) (rest ∙ h) in
    let sign = (booleans_Decides p q).0 both.0 in
    let is = eqb-true (scaled m e) (scaled n f) both.1 in
    same_by p m e n f (is_whole m e) (is_whole n f) refl refl fits_e fits_f is ∙ ap (λ x. whole_of x n f) sign

pub whole-same : (d e : Decimal) → InRange d → InRange e → same_decimal d e ≡ true
    → exact_fixed_point d 0 ≡ exact_fixed_point e 0
whole-same nan nan d e h = refl
whole-same nan (parts q n f) d e h = absurd (false≢true h)
whole-same (parts p m e) nan d f h = absurd (false≢true h)
whole-same (parts p m e) (parts q n f) d g h =
    as_read p m e ∙ same_parts _ _ p m e q n f d.1 g.1 refl refl h ∙ sym (as_read q n f)
