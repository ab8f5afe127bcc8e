-- `same_decimal` is an equivalence: two decimals are the same if and only if their classes are equal. (These are proofs;
-- they are here because the laws of `PartialEq` and `Eq` cite them.)
use Rattle.std.specs.Prelude.{◌≡◌, ℕ, zero, suc, ℤ, ◌<◌, ◌^◌, ◌*◌, Bool, true, false, ◌&&◌, ◌||◌, Option, None, Some, refl}
use Rattle.std.specs.Prelude.{nat_eq}
use Rattle.std.specs.Bool.{beq}
use Rattle.std.specs.Option.{option_eq}
use Rattle.std.specs.Cmp.{IsEquivalence, nat_eq_equiv, bool_eq_equiv, on_equiv, and_equiv}
use Rattle.std.specs.Cmp.Lexicographic.{options_equiv}
use Rattle.std.proofs.Common.{ap, ◌∙◌, sym, subst}
use Rattle.std.proofs.Math.Dec.{lit≤}
use Rattle.std.proofs.Math.Nat.{lt_irrefl, one-le-mul, one-le-pow, suc-ne-zero, zero-lt-suc, zero-mul}
use Rattle.std.proofs.lemmas.Bool.{ne_eqb}
use Rattle.jzon_base.specs.Decimal.{Decimal, nan, parts, same_decimal, scaled, shifted}

-- with the mantissa 0 it is 0
pub scaled-zero : (m : ℕ) (e : ℤ) → m ≡ 0 → scaled m e ≡ 0
unfolding scaled
scaled-zero m e h = ap (λ n. n * 10 ^ shifted e) h ∙ zero-mul (10 ^ shifted e)

-- with another mantissa it is above 0
pub scaled-pos : (m : ℕ) (e : ℤ) → 0 < m → 0 < scaled m e
unfolding scaled
scaled-pos m e h = one-le-mul h (one-le-pow (shifted e) 10 (lit≤ tt))

-- when a scaled mantissa is 0
pub ruleset zero_rules = (scaled-zero, scaled-pos)

-- the classes of equal decimals: NaN, the zeros, and else a sign and an exact decimal
abbrev Class : Type 0
Class = Option (Option (Bool × ℕ))

abbrev class_of : Decimal → Class
class_of nan = None
class_of (parts s zero e) = Some None
class_of (parts s (suc m) e) = Some (Some (s, scaled (suc m) e))

abbrev alike : Bool × ℕ → Bool × ℕ → Bool
alike x y = beq x.0 y.0 && nat_eq x.1 y.1

abbrev same_class : Class → Class → Bool
same_class = option_eq (option_eq alike)

same_class_equiv : IsEquivalence same_class
same_class_equiv = options_equiv (options_equiv (and_equiv (on_equiv (λ (x : Bool × ℕ). x.0) bool_eq_equiv)
    (on_equiv (λ (x : Bool × ℕ). x.1) nat_eq_equiv)))

-- a number above 0 isn't 0
apart : (a b : ℕ) → a ≡ 0 → 0 < b → nat_eq a b ≡ false
apart a b h p = ne_eqb a b (λ e. lt_irrefl zero (subst (λ n. 0 < n) (sym e ∙ h) p))

not_zero : (n : ℕ) → nat_eq (suc n) 0 ≡ false
not_zero n = ne_eqb (suc n) 0 (suc-ne-zero n)

and-false : (t u : Bool) → u ≡ false → (t && u) ≡ false
and-false true u h = h
and-false false u h = refl

-- the exact decimals of a zero and of another number differ
zero-apart : (s t : Bool) (e : ℤ) (n : ℕ) (f : ℤ) → (beq s t && nat_eq (scaled 0 e) (scaled (suc n) f)) ≡ false
zero-apart s t e n f = and-false (beq s t) (nat_eq (scaled 0 e) (scaled (suc n) f))
    (apart (scaled 0 e) (scaled (suc n) f) (scaled-zero 0 e refl) (scaled-pos (suc n) f (zero-lt-suc n)))

apart-zero : (s t : Bool) (m : ℕ) (e : ℤ) (f : ℤ) → (beq s t && nat_eq (scaled (suc m) e) (scaled 0 f)) ≡ false
apart-zero s t m e f = and-false (beq s t) (nat_eq (scaled (suc m) e) (scaled 0 f))
    (nat_eq_equiv.symm (scaled (suc m) e) (scaled 0 f)
    ∙ apart (scaled 0 f) (scaled (suc m) e) (scaled-zero 0 f refl) (scaled-pos (suc m) e (zero-lt-suc m)))

same_decimal-by-class : (x y : Decimal) → same_decimal x y ≡ same_class (class_of x) (class_of y)
same_decimal-by-class nan nan = refl
same_decimal-by-class nan (parts t zero f) = refl
same_decimal-by-class nan (parts t (suc n) f) = refl
same_decimal-by-class (parts s zero e) nan = refl
same_decimal-by-class (parts s (suc m) e) nan = refl
same_decimal-by-class (parts s zero e) (parts t zero f) = refl
same_decimal-by-class (parts s zero e) (parts t (suc n) f) =
    ap (λ z. z || (beq s t && nat_eq (scaled 0 e) (scaled (suc n) f))) (not_zero n) ∙ zero-apart s t e n f
same_decimal-by-class (parts s (suc m) e) (parts t zero f) =
    ap (λ z. (z && true) || (beq s t && nat_eq (scaled (suc m) e) (scaled 0 f))) (not_zero m) ∙ apart-zero s t m e f
same_decimal-by-class (parts s (suc m) e) (parts t (suc n) f) =
    ap (λ z. (z && nat_eq (suc n) 0) || (beq s t && nat_eq (scaled (suc m) e) (scaled (suc n) f))) (not_zero m)

-- `same_decimal` is an equivalence
pub same_decimal_equiv : IsEquivalence same_decimal
same_decimal_equiv = subst IsEquivalence (λ i x y. sym (same_decimal-by-class x y) i) (on_equiv class_of same_class_equiv)
