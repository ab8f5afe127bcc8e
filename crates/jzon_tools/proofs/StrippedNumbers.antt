-- The normal form of a number is normal and equal to it.
use Rattle.std.proofs.Common.{◌≡◌, ◌≤◌, ◌<◌, ℕ, zero, suc, ◌+◌, ◌*◌, ◌^◌, ◌/◌, ◌%◌, ◌==◌, ◌&&◌, ℤ, pos, negsuc, not}
use Rattle.std.proofs.Common.{Bool, true, false, cond, ◌+ℤ◌}
use Rattle.std.proofs.Common.{IsTrue, refl, sym, ap, ◌∙◌, subst, arith, FitsSigned, w16, ◌⊎◌, inl, inr}
use Rattle.std.proofs.lemmas.Int.{ints}
use Rattle.std.proofs.lemmas.Bool.{eqb-true, false≢true, and_from, or_right, false_from_ne_true}
use Rattle.std.proofs.Math.Bool.{and-false}
use Rattle.std.proofs.lemmas.Bool.Decides.{Decides-int_eq}
use Rattle.std.proofs.lemmas.Nat.{pow-add}
use Rattle.std.proofs.lemmas.Bool.{eq-eqb}
use Rattle.std.proofs.lemmas.Bool.Decides.{nat_tests}
use native.Mathlib.Numerals.{add-one}
use Rattle.jzon.specs.Value.{number}
use Rattle.jzon.specs.SameLaws.{same_equiv}
use Rattle.std.specs.Ordering.{int_eq}
use Rattle.std.specs.Cmp.{booleans_Decides}
use Rattle.jzon.specs.Decimal.{Decimal, nan, parts, shifted, scaled, same_decimal}
use Rattle.jzon.specs.Lawful.{InRange}
use Rattle.jzon_tools.specs.Canonical.{stripped, normal_number}
use Rattle.jzon_tools.proofs.NormalNumbers.{IsNormal, one_number}

-- what (k, f) is of m and e
record IsStripped (m : ℕ) (e : ℤ) (k : ℕ) (f : ℤ) : Type 0 where
  some : 0 < k
  below : k ≤ m
  fits : FitsSigned w16 f
  equal : k * 10 ^ shifted f ≡ m * 10 ^ shifted e
  last : k % 10 ≡ 0 → f ≡ pos 32767

shifted-next : (e : ℤ) → FitsSigned w16 e → shifted (e +ℤ pos 1) ≡ shifted e + 1
shifted-next (pos n) fits = omega arith
shifted-next (negsuc zero) fits = refl
shifted-next (negsuc (suc n)) fits =
    let e : negsuc (suc n) +ℤ pos 1 ≡ negsuc n = omega (arith, ints) in
    rw e (omega (arith, fits.sfits))

pub next-fits : (e : ℤ) → FitsSigned w16 e → (e ≡ pos 32767 → ⊥) → FitsSigned w16 (e +ℤ pos 1)
next-fits (pos n) fits other =
    let not_last : n ≡ 32767 → ⊥ = λ h. other (ap (λ k. pos k) h) in
    record { sfits = room n fits.sfits not_last }
  where
    room : (n : ℕ) → n < 32768 → (n ≡ 32767 → ⊥) → n + 1 < 32768
    room n h other = grind (arith, nat_tests)
next-fits (negsuc zero) fits other = record { sfits = omega arith }
next-fits (negsuc (suc n)) fits other =
    let e : negsuc (suc n) +ℤ pos 1 ≡ negsuc n = omega (arith, ints) in
    rw e record { sfits = omega (arith, fits.sfits) }

regroup : (q m t : ℕ) → q * 10 ≡ m → q * (t * 10) ≡ m * t
regroup q m t e = rw (← e) (omega arith)

tenth : (m n : ℕ) → m < 10 ^ (n + 1) → m / 10 < 10 ^ n
tenth m n h = let p : 10 ^ (n + 1) ≡ 10 ^ n * 10 = pow-add 10 n 1 in omega (arith, p, h)

not_divided : (m : ℕ) → (m % 10 == 0) ≡ false → m % 10 ≡ 0 → ⊥
not_divided m e h = false≢true (sym e ∙ ap (λ x. x == 0) h)

-- ---- the steps of stripping
pub stripped-none : (m : ℕ) (e : ℤ) → stripped 0 m e ≡ (m, e)
unfolding stripped
stripped-none m e = refl

pub stripped-next : (n m : ℕ) (e : ℤ) → m % 10 ≡ 0 → (e ≡ pos 32767 → ⊥)
    → stripped (suc n) m e ≡ stripped n (m / 10) (e +ℤ pos 1)
unfolding stripped
stripped-next n m e divided other =
    rw (eq-eqb (m % 10) 0 divided, false_from_ne_true _ (λ t. other ((Decides-int_eq e (pos 32767)).0 t))) refl

pub stripped-end : (n m : ℕ) (e : ℤ) → (m % 10 ≡ 0 → ⊥) ⊎ (e ≡ pos 32767) → stripped n m e ≡ (m, e)
unfolding stripped
stripped-end zero m e h = refl
stripped-end (suc n) m e (inl whole) = rw (false_from_ne_true (m % 10 == 0) (λ t. whole (eqb-true (m % 10) 0 t))) refl
stripped-end (suc n) m e (inr largest) =
    rw ((Decides-int_eq e (pos 32767)).1 largest, and-false (m % 10 == 0)) refl

-- ---- what is stripped
strip : (n m : ℕ) (e : ℤ) → 0 < m → m < 10 ^ n → FitsSigned w16 e → IsStripped m e (stripped n m e).0 (stripped n m e).1
unfolding stripped
strip zero m e some small fits = absurd (omega arith)
strip (suc n) m e some small fits =
    pick (strip n (m / 10) (e +ℤ pos 1)) (m % 10 == 0) (int_eq e (pos 32767)) refl refl
  where
    small' : m < 10 ^ (n + 1)
    small' = subst (λ k. m < 10 ^ k) (sym (add-one n)) small

    pick : (0 < m / 10 → m / 10 < 10 ^ n → FitsSigned w16 (e +ℤ pos 1)
        → IsStripped (m / 10) (e +ℤ pos 1) (stripped n (m / 10) (e +ℤ pos 1)).0
        (stripped n (m / 10) (e +ℤ pos 1)).1)
        → (b c : Bool) → (m % 10 == 0) ≡ b → int_eq e (pos 32767) ≡ c
        → IsStripped m e (cond (b && not c) (stripped n (m / 10) (e +ℤ pos 1)) (m, e)).0
        (cond (b && not c) (stripped n (m / 10) (e +ℤ pos 1)) (m, e)).1
    pick more false c eb ec = record {
      some = some;
      below = omega arith;
      fits = fits;
      equal = refl;
      last = λ h. absurd (not_divided m eb h);
    }
    pick more true true eb ec = record {
      some = some;
      below = omega arith;
      fits = fits;
      equal = refl;
      last = λ h. (Decides-int_eq e (pos 32767)).0 ec;
    }
    pick more true false eb ec =
        let zero_last : m % 10 ≡ 0 = eqb-true (m % 10) 0 eb in
        let whole : m / 10 * 10 ≡ m = omega (arith, zero_last) in
        let r = more (omega (arith, whole)) (tenth m n small')
        (next-fits e fits (λ same. false≢true (sym ec ∙ (Decides-int_eq e (pos 32767)).1 same))) in
        record {
          some = r.some;
          below = omega (arith, r.below);
          fits = r.fits;
          equal = r.equal ∙ ap (λ t. m / 10 * 10 ^ t) (shifted-next e fits)
              ∙ ap (λ t. m / 10 * t) (pow-add 10 (shifted e) 1) ∙ regroup (m / 10) m (10 ^ shifted e) whole;
          last = r.last;
        }

-- the form of a number is normal, in range and equal to it
pub record IsFormOf (d c : Decimal) : Type 0 where
  pub in_range : InRange c
  pub normal : IsNormal c
  pub equal : same_decimal c d ≡ true

form_of_parts : (p : Bool) (m : ℕ) (e : ℤ) → InRange (parts p m e) → (b : Bool) → (m == 0) ≡ b
    → IsFormOf (parts p m e) (cond b (parts true 0 (pos 0)) (parts p (stripped 20 m e).0 (stripped 20 m e).1))
unfolding scaled
form_of_parts p m e range true z = record {
  in_range = (omega arith, record { sfits = omega arith });
  normal = (λ h. (refl, refl), λ h. absurd (omega arith));
  equal = rw z refl;
}
form_of_parts p m e range false z =
    let not_zero : m ≡ 0 → ⊥ = λ h. false≢true (sym z ∙ ap (λ x. x == 0) h) in
    let some : 0 < m = grind (arith, nat_tests) in
    let r = strip 20 m e some (omega (arith, range.0)) range.1 in
    record {
      in_range = (omega (arith, r.below, range.0), r.fits);
      normal = (λ h. absurd (omega (arith, h, r.some)), λ s h. r.last h);
      equal = or_right _ _ (and_from _ _ ((booleans_Decides p p).1 refl) (eq-eqb _ _ r.equal));
    }

pub form_of : (d : Decimal) → InRange d → IsFormOf d (normal_number d)
form_of nan range = record { in_range = tt; normal = tt; equal = refl }
form_of (parts p m e) range = form_of_parts p m e range (m == 0) refl

pub one_number_form : (d c : Decimal) → InRange d → InRange c → IsTrue (same_decimal d c)
    → normal_number d ≡ normal_number c
one_number_form d c rd rc h =
    let x = form_of d rd in
    let y = form_of c rc in
    let back : same_decimal c (normal_number c) ≡ true =
    same_equiv.symm (number c) (number (normal_number c)) ∙ y.equal in
    one_number (normal_number d) (normal_number c) x.in_range y.in_range x.normal y.normal
    (same_equiv.congr (number (normal_number d)) (number d) (number (normal_number c)) x.equal
    ∙ same_equiv.congr (number d) (number c) (number (normal_number c)) h ∙ back)
