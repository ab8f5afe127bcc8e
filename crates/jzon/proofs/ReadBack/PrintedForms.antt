-- The forms of a printed number that preserve its mantissa and its exponent.
use Rattle.jzon_base.proofs.Common.{◌≡◌, ℕ, suc, zero, ℤ, pos, negsuc, ◌+ℤ◌, ◌-ℤ◌, ◌+◌, ◌-◌, ◌^◌, ◌≤◌, ◌<◌, Option}
use Rattle.jzon_base.proofs.Common.{Some, None, List, [], ◌∷◌, ◌++◌, length, take, drop, replicate, Bool, true, false}
use Rattle.jzon_base.proofs.Common.{refl, sym, ap, ◌∙◌, arith, decimal, codes, FitsSigned, length-append}
use Rattle.jzon_base.proofs.Common.{append_assoc, append-nil, inl, inr, w16, fold, ints, cases_eq, fold-append, lit<}
use Rattle.jzon_base.proofs.Common.{get_or-take, length-replicate}
use Rattle.std.proofs.Common.{length-take, length-drop}
use Rattle.std.proofs.lemmas.List.{take-append-drop}
use Rattle.jzon_base.specs.Digits.{add_digit, digits_number}
use Rattle.jzon_base.specs.Decimal.{parts}
use Rattle.jzon_base.specs.NumberText.{point_after, point_after_first, small_exponent_text, magnitude_text, number_text}
use Rattle.jzon_base.proofs.Numbers.DigitPrefixes.{if-lt, if-ge}
use Rattle.jzon.specs.Grammar.{unsigned, plus, minus, Exponent}
use Rattle.jzon.specs.Grammar as grammar
use Rattle.jzon.specs.Meaning.{written_exponent}
use Rattle.jzon.proofs.ReadBack.NumeralTexts.{numeral_spelled, fraction_spelled, exponent_spelled}
use Rattle.jzon.proofs.ReadBack.PrintedParts.{HasNumeral, exponent, numeral, IsWholePart, exponent_test, all-zeros}
use Rattle.jzon.proofs.ReadBack.PrintedParts.{number_decimal, decimal_digits, IsMantissa, mantissa, if-le, if-not_le}
use Rattle.jzon.proofs.ReadBack.PrintedParts.{digits-append, digits-take, digits-drop, if-eq, if-ne, means_as}
use Rattle.jzon.proofs.ReadBack.PrintedParts.{exact_parts, means_exactly, all_kept}

-- ---- digits alone

whole_all : (m : ℕ) (ds : List ℕ) → IsMantissa m ds → IsWholePart ds
whole_all m ds h = (h.digits, h.some, λ z. absurd (omega (arith, h.first)))

pub digits_alone : (s : Bool) (m : ℕ) → 0 < m → m < 2 ^ 64 → HasNumeral s m (pos 0)
digits_alone s m above fits =
    let is : IsMantissa m (decimal m) = mantissa m above fits in
    means_exactly s m (pos 0) (decimal m) [] None above fits (omega (arith, ints)) (whole_all m (decimal m) is) tt (omega arith) tt
    (append-nil (decimal m ++ []) ∙ append-nil (decimal m)) (ap digits_number (append-nil (decimal m)) ∙ is.number) refl

-- ---- a mantissa 0

zero_spelled : (s : Bool) (e : ℤ) → numeral_spelled (numeral s (48 ∷ []) [] None) ≡ number_text s 0 e
zero_spelled true e = refl
zero_spelled false e = refl

pub zero_alone : (s : Bool) (e : ℤ) → HasNumeral s 0 e
zero_alone s e =
    means_as s 0 e (numeral s (48 ∷ []) [] None) (parts s 0 (pos 0)) (refl, tt, tt)
    (all_kept (48 ∷ []) (lit< tt), tt) (zero_spelled s e)
    (exact_parts s (48 ∷ []) [] None 0 (pos 0) refl (omega arith) refl (omega (arith, ints))) refl refl

-- ---- a point among the digits

fraction-is : (f : List ℕ) → 0 < length f → fraction_spelled f ≡ codes "." ++ f
fraction-is [] h = absurd (omega arith)
fraction-is (c ∷ cs) h = refl

-- a prefix of the digits of a mantissa is a whole part
whole_prefix : (m n : ℕ) (ds : List ℕ) → IsMantissa m ds → 0 < n → IsWholePart (take n ds)
whole_prefix m n ds is h = (
  digits-take n ds is.digits,
  omega (arith, length-take n ds, is.some),
  λ z. absurd (omega (arith, is.first, get_or-take n ds 0 0 h)),
)

pub pointed : (s : Bool) (m k : ℕ) → 0 < m → m < 2 ^ 64 → FitsSigned w16 (negsuc k) → k + 1 ≤ 17
    → k + 1 < length (decimal m) → HasNumeral s m (negsuc k)
pointed s m k above fits small near inside =
    let is : IsMantissa m (decimal m) = mantissa m above fits in
    let n : ℕ = length (decimal m) - (k + 1) in
    let size : length (drop n (decimal m)) ≡ k + 1 = omega (arith, length-drop n (decimal m)) in
    means_exactly s m (negsuc k) (take n (decimal m)) (drop n (decimal m)) None above fits small
    (whole_prefix m n (decimal m) is (omega arith)) (digits-drop n (decimal m) is.digits)
    (omega (arith, size)) tt
    (append-nil _ ∙ ap (λ t. take n (decimal m) ++ t) (fraction-is (drop n (decimal m)) (omega (arith, size)))
    ∙ sym (append_assoc (take n (decimal m)) (codes ".") (drop n (decimal m)))
    ∙ sym (if-le (k + 1) 17 _ _ near ∙ if-lt (k + 1) (length (decimal m)) _ _ inside))
    (ap digits_number (take-append-drop n (decimal m)) ∙ is.number) (rw size (omega (arith, ints)))

-- ---- a point before the digits

pub zeros_number : (n : ℕ) → fold add_digit 0 (replicate n 48) ≡ 0
zeros_number zero = refl
zeros_number (suc n) = zeros_number n

pub after_zeros : (s : Bool) (m k : ℕ) → 0 < m → m < 2 ^ 64 → FitsSigned w16 (negsuc k) → k + 1 ≤ 17
    → length (decimal m) ≤ k + 1 → HasNumeral s m (negsuc k)
after_zeros s m k above fits small near out =
    let is : IsMantissa m (decimal m) = mantissa m above fits in
    let n : ℕ = k + 1 - length (decimal m) in
    let f : List ℕ = replicate n 48 ++ decimal m in
    let size : length f ≡ k + 1 =
    omega (arith, length-append (replicate n 48) (decimal m), length-replicate {A = ℕ} n 48) in
    means_exactly s m (negsuc k) (48 ∷ []) f None above fits small
    (((omega arith, omega arith), tt), omega arith, λ _. refl)
    (digits-append (replicate n 48) (decimal m) (all-zeros n) is.digits) (omega (arith, size)) tt
    (append-nil _ ∙ ap (λ t. 48 ∷ t) (fraction-is f (omega (arith, size)))
    ∙ sym (if-le (k + 1) 17 _ _ near ∙ if-ge (k + 1) (length (decimal m)) _ _ out))
    (fold-append add_digit 0 (replicate n 48) (decimal m) ∙ ap (λ v. fold add_digit v (decimal m)) (zeros_number n)
    ∙ is.number)
    (rw size (omega (arith, ints)))

-- ---- an exponent after the digits

first_spelled : (ds : List ℕ) → 0 < length ds → take 1 ds ++ fraction_spelled (drop 1 ds) ≡ point_after_first ds
first_spelled [] h = absurd (omega arith)
first_spelled (c ∷ []) h = refl
first_spelled (c ∷ d ∷ cs) h = sym (if-lt 1 (length (c ∷ d ∷ cs)) (point_after 1 (c ∷ d ∷ cs)) (c ∷ d ∷ cs)
    (omega arith))

scientific : (s : Bool) (m : ℕ) (e : ℤ) (x : Option Exponent) → 0 < m → m < 2 ^ 64 → FitsSigned w16 e
    → grammar.IsExponent x → point_after_first (decimal m) ++ exponent_spelled x ≡ magnitude_text (decimal m) e
    → (pos 0 -ℤ pos (length (decimal m) - 1)) +ℤ written_exponent x ≡ e → HasNumeral s m e
scientific s m e x above fits small power text sum =
    let is : IsMantissa m (decimal m) = mantissa m above fits in
    means_exactly s m e (take 1 (decimal m)) (drop 1 (decimal m)) x above fits small
    (whole_prefix m 1 (decimal m) is (omega arith)) (digits-drop 1 (decimal m) is.digits)
    (omega (arith, length-drop 1 (decimal m), is.few)) power
    (ap (λ t. t ++ exponent_spelled x) (first_spelled (decimal m) is.some) ∙ text)
    (ap digits_number (take-append-drop 1 (decimal m)) ∙ is.number) (rw (length-drop 1 (decimal m)) sum)

-- the exponent that is written is 0, 1 or negative
pub small_power : (s : Bool) (m k : ℕ) → 0 < m → m < 2 ^ 64 → FitsSigned w16 (negsuc k) → 17 < k + 1
    → HasNumeral s m (negsuc k)
small_power s m k above fits small far =
    let is : IsMantissa m (decimal m) = mantissa m above fits in
    let d : ℕ = length (decimal m) in
    let first : List ℕ = point_after_first (decimal m) in
    let whole : magnitude_text (decimal m) (negsuc k) ≡ first ++ small_exponent_text d (k + 1) = if-not_le (k + 1) 17 _
    _ far in
    elim (cases_eq d (k + 1 + 1)) [
      | inl e ↦ scientific s m (negsuc k) None above fits small tt
          (ap (λ t. first ++ t) (sym (if-eq d (k + 1 + 1) _ _ e)) ∙ sym whole)
          (omega (arith, ints, e))
      | inr ne ↦ elim (cases_eq d (k + 1 + 2)) [
        | inl e ↦ scientific s m (negsuc k) (Some (exponent plus (49 ∷ []))) above fits small
            (exponent_test plus (49 ∷ []) ((omega arith, omega arith), tt) (omega arith))
            (ap (λ t. first ++ t) (sym (if-ne d (k + 1 + 1) _ _ ne ∙ if-eq d (k + 1 + 2) _ _ e)) ∙ sym whole)
            (omega (arith, ints, e))
        | inr other ↦
            (let n : ℕ = k + 1 + 1 - d in
            let fit : n < 2 ^ 64 = omega (arith, small.sfits) in
            let ok = decimal_digits n fit in
            scientific s m (negsuc k) (Some (exponent minus (decimal n))) above fits small
            (exponent_test minus (decimal n) ok.0 ok.1)
            (ap (λ t. first ++ t) (sym (if-ne d (k + 1 + 1) _ _ ne ∙ if-ne d (k + 1 + 2) _ _ other)) ∙ sym whole)
            (rw (number_decimal n fit) (omega (arith, ints, is.few, ne, other))))
      ]
    ]

pub large_power : (s : Bool) (m k : ℕ) → 0 < m → m < 2 ^ 64 → FitsSigned w16 (pos k) → 0 < k
    → 20 < length (decimal m) + k → HasNumeral s m (pos k)
large_power s m k above fits small some far =
    let is : IsMantissa m (decimal m) = mantissa m above fits in
    let n : ℕ = k + length (decimal m) - 1 in
    let fit : n < 2 ^ 64 = omega (arith, small.sfits, is.few) in
    let ok = decimal_digits n fit in
    scientific s m (pos k) (Some (exponent unsigned (decimal n))) above fits small
    (exponent_test unsigned (decimal n) ok.0 ok.1)
    (sym (if-ne k 0 _ _ (λ z. omega arith) ∙ if-not_le (length (decimal m) + k) 20 _ _ far
    ∙ append_assoc (point_after_first (decimal m)) (codes "e") (decimal n)))
    (rw (number_decimal n fit) (omega (arith, ints, is.some)))
