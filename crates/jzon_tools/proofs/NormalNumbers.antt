-- Equal normal numbers are identical.
use Rattle.std.proofs.Common.{◌≡◌, ◌≤◌, ◌<◌, ℕ, ◌+◌, ◌*◌, ◌^◌, ◌-◌, ◌%◌, ◌==◌, ◌&&◌, ℤ, pos, negsuc}
use Rattle.std.proofs.Common.{Bool, true, IsTrue, refl, sym, ap, ◌∙◌, arith, FitsSigned, w16, ◌⊎◌, inl, inr}
use Rattle.std.proofs.lemmas.Int.{ints}
use Rattle.std.proofs.lemmas.Bool.{eqb-true, false≢true, and_parts, or_cases, cases_order}
use Rattle.std.proofs.Math.Nat.{mul-mod_left, zero-mul, eq-zero-or-pos}
use Rattle.std.proofs.lemmas.Nat.{pow-add}
use Rattle.std.specs.Bool.{beq}
use Rattle.std.specs.Cmp.{booleans_Decides}
use Rattle.jzon.specs.Decimal.{Decimal, nan, parts, shifted, scaled, same_decimal}
use Rattle.jzon.specs.Lawful.{InRange}
use Rattle.jzon.proofs.Powers.{cancel, power_pos}

-- a zero is +0, and no other mantissa ends in a zero unless the exponent is the largest
abbrev pub IsNormal : Decimal → Type 0
IsNormal nan = Unit {0}
IsNormal (parts p m e) = (m ≡ 0 → (p ≡ true) × (e ≡ pos 0)) × (0 < m → m % 10 ≡ 0 → e ≡ pos 32767)

-- ---- products with powers of ten
regroup : (n x y : ℕ) → n * (x * y) ≡ n * y * x
regroup n x y = omega arith

regroup_ten : (n t : ℕ) → n * (t * 10 ^ 1) ≡ n * t * 10
regroup_ten n t = omega arith

zero_factor : (n t : ℕ) → 0 < t → 0 ≡ n * t → n ≡ 0
zero_factor n t p e = sym (cancel 0 n t p (zero-mul t ∙ e))

-- the smaller power taken from both sides
lowered : (m n a k : ℕ) → m * 10 ^ a ≡ n * 10 ^ (a + k) → m ≡ n * 10 ^ k
lowered m n a k e =
    cancel m (n * 10 ^ k) (10 ^ a) (power_pos a)
    (e ∙ ap (λ t. n * t) (pow-add 10 a k) ∙ regroup n (10 ^ a) (10 ^ k))

ends_in_zero : (m n k : ℕ) → m ≡ n * 10 ^ (k + 1) → m % 10 ≡ 0
ends_in_zero m n k e =
    ap (λ x. x % 10) (e ∙ ap (λ t. n * t) (pow-add 10 k 1) ∙ regroup_ten n (10 ^ k)) ∙ mul-mod_left (n * 10 ^ k) 10

-- ---- exponents
shifted-le : (e : ℤ) → FitsSigned w16 e → shifted e ≤ 65535
shifted-le (pos n) fits = omega (arith, ints, fits.sfits)
shifted-le (negsuc n) fits = omega (arith, ints, fits.sfits)

same_exponent : (e f : ℤ) → FitsSigned w16 e → FitsSigned w16 f → shifted e ≡ shifted f → e ≡ f
same_exponent (pos m) (pos n) fe ff h = ap (λ k. pos k) (omega arith)
same_exponent (pos m) (negsuc n) fe ff h = absurd (omega (arith, ints, fe.sfits, ff.sfits))
same_exponent (negsuc m) (pos n) fe ff h = absurd (omega (arith, ints, fe.sfits, ff.sfits))
same_exponent (negsuc m) (negsuc n) fe ff h = ap (λ k. negsuc k) (omega (arith, ints, fe.sfits, ff.sfits))

-- of equal decimals the one with the lower exponent ends in a zero, so its exponent is the largest
not_lower : (m n : ℕ) (e f : ℤ) → 0 < m → FitsSigned w16 f → (0 < m → m % 10 ≡ 0 → e ≡ pos 32767)
    → m * 10 ^ shifted e ≡ n * 10 ^ shifted f → shifted e < shifted f → ⊥
not_lower m n e f some ff normal h lt =
    let k = shifted f - (shifted e + 1) in
    let up : shifted f ≡ shifted e + (k + 1) = omega arith in
    let largest : e ≡ pos 32767 =
    normal some (ends_in_zero m n k (lowered m n (shifted e) (k + 1) (h ∙ ap (λ (b : ℕ). n * 10 ^ b) up))) in
    let most : shifted f ≤ 65535 = shifted-le f ff in
    let high : shifted e ≡ 65535 = ap shifted largest in
    omega arith

same_parts : (m n : ℕ) (e f : ℤ) → 0 < m → 0 < n → FitsSigned w16 e → FitsSigned w16 f
    → (0 < m → m % 10 ≡ 0 → e ≡ pos 32767) → (0 < n → n % 10 ≡ 0 → f ≡ pos 32767)
    → m * 10 ^ shifted e ≡ n * 10 ^ shifted f → (a b : ℕ) → a ≡ shifted e → b ≡ shifted f
    → (a ≡ b) ⊎ ((a < b) ⊎ (b < a)) → (m ≡ n) × (e ≡ f)
same_parts m n e f sm sn fe ff nm nn h a b ea eb (inr (inl lt)) = absurd (not_lower m n e f sm ff nm h (omega arith))
same_parts m n e f sm sn fe ff nm nn h a b ea eb (inr (inr lt)) =
    absurd (not_lower n m f e sn fe nn (sym h) (omega arith))
same_parts m n e f sm sn fe ff nm nn h a b ea eb (inl eq) =
    let s : shifted e ≡ shifted f = sym ea ∙ eq ∙ eb in (
      cancel m n (10 ^ shifted f) (power_pos (shifted f)) (ap (λ t. m * 10 ^ t) (sym s) ∙ h),
      same_exponent e f fe ff s,
    )

-- ---- numbers
both_zero : (p q : Bool) (m n : ℕ) (e f : ℤ) → m ≡ 0 → n ≡ 0 → IsNormal (parts p m e) → IsNormal (parts q n f)
    → parts p m e ≡ parts q n f
both_zero p q m n e f zm zn nd nc =
    let (pd, ed) = nd.0 zm in
    let (pc, ec) = nc.0 zn in
    rw (pd, ed, pc, ec, zm, zn) refl

same_scaled : (p q : Bool) (m n : ℕ) (e f : ℤ) → InRange (parts p m e) → InRange (parts q n f)
    → IsNormal (parts p m e) → IsNormal (parts q n f) → p ≡ q → m * 10 ^ shifted e ≡ n * 10 ^ shifted f
    → (m ≡ 0) ⊎ (0 < m) → (n ≡ 0) ⊎ (0 < n) → parts p m e ≡ parts q n f
same_scaled p q m n e f rd rc nd nc signs h (inl zm) _ =
    let none : 0 ≡ n * 10 ^ shifted f =
    sym (zero-mul (10 ^ shifted e)) ∙ ap (λ t. t * 10 ^ shifted e) (sym zm) ∙ h in
    both_zero p q m n e f zm (zero_factor n (10 ^ shifted f) (power_pos (shifted f)) none) nd nc
same_scaled p q m n e f rd rc nd nc signs h (inr sm) (inl zn) =
    let none : 0 ≡ m * 10 ^ shifted e =
    sym (zero-mul (10 ^ shifted f)) ∙ ap (λ t. t * 10 ^ shifted f) (sym zn) ∙ sym h in
    both_zero p q m n e f (zero_factor m (10 ^ shifted e) (power_pos (shifted e)) none) zn nd nc
same_scaled p q m n e f rd rc nd nc signs h (inr sm) (inr sn) =
    let (em, ee) = same_parts m n e f sm sn rd.1 rc.1 nd.1 nc.1 h (shifted e) (shifted f) refl refl
    (cases_order (shifted e) (shifted f)) in
    rw (signs, em, ee) refl

by_case : (p q : Bool) (m n : ℕ) (e f : ℤ) → InRange (parts p m e) → InRange (parts q n f)
    → IsNormal (parts p m e) → IsNormal (parts q n f)
    → (((m == 0) && (n == 0)) ≡ true) ⊎ ((beq p q && (scaled m e == scaled n f)) ≡ true) → parts p m e ≡ parts q n f
unfolding scaled
by_case p q m n e f rd rc nd nc (inl h) =
    let (zm, zn) = and_parts (m == 0) (n == 0) h in
    both_zero p q m n e f (eqb-true m 0 zm) (eqb-true n 0 zn) nd nc
by_case p q m n e f rd rc nd nc (inr h) =
    let (sp, sc) = and_parts (beq p q) (scaled m e == scaled n f) h in
    same_scaled p q m n e f rd rc nd nc ((booleans_Decides p q).0 sp) (eqb-true _ _ sc) (eq-zero-or-pos m)
    (eq-zero-or-pos n)

pub one_number : (d c : Decimal) → InRange d → InRange c → IsNormal d → IsNormal c → IsTrue (same_decimal d c) → d ≡ c
one_number nan nan rd rc nd nc h = refl
one_number nan (parts q n f) rd rc nd nc h = absurd (false≢true h)
one_number (parts p m e) nan rd rc nd nc h = absurd (false≢true h)
one_number (parts p m e) (parts q n f) rd rc nd nc h =
    by_case p q m n e f rd rc nd nc (or_cases ((m == 0) && (n == 0)) (beq p q && (scaled m e == scaled n f)) h)
