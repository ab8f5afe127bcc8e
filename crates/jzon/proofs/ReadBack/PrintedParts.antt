-- Numbers of the grammar that have the text of given parts, and mean the same parts.
use Rattle.jzon_base.proofs.Common.{◌≡◌, ℕ, suc, ℤ, pos, ◌+ℤ◌, ◌-ℤ◌, ◌^◌, ◌&&◌, ◌≤◌, ◌<◌, ◌==◌, Option, Some, None, List, []}
use Rattle.jzon_base.proofs.Common.{◌∷◌, ◌++◌, length, take, drop, replicate, Bool, true, false, not, refl, sym, ap}
use Rattle.jzon_base.proofs.Common.{◌∙◌, arith, rules, codes, nat_le, if◌then◌else◌, FitsSigned, get_or, length-append}
use Rattle.jzon_base.proofs.Common.{append_assoc, decimal, zero, not-not, w16, is_ascii_digit, fold, AllByRecursion}
use Rattle.jzon_base.proofs.Common.{ints, clamps, length-decimal-le, nat_tests, take_all, All-append, All-take}
use Rattle.jzon_base.proofs.Common.{All-drop, recursion_from_All}
use Rattle.std.proofs.lemmas.Str.Parse.{IsNumeralModel, numerals_by_fold}
use Rattle.std.proofs.lemmas.Fmt.{decimal_nonempty, digits_decimal, first_decimal, digits_value-decimal}
use Rattle.std.proofs.lemmas.List.Elements.{All-from_recursion}
use Rattle.jzon_base.specs.Digits.{IsDigit, add_digit, digits_number, kept_len, kept, dropped, kept_fraction}
use Rattle.jzon_base.specs.Digits.{own_power, read_exponent, clamp}
use Rattle.jzon_base.specs.Decimal.{Decimal, parts, same_decimal}
use Rattle.jzon_base.specs.NumberText.{sign_text, magnitude_text, number_text, decimal_text}
use Rattle.jzon_base.specs.Private.Same.{same_decimal_equiv}
use Rattle.jzon_base.specs.LostDigits.{HoldsOfNone, loses_last}
use Rattle.jzon_base.proofs.Numbers.LostDigits.{held_if, in_range_if, prefix_le}
use Rattle.jzon_base.proofs.Numbers.DigitPrefixes.{kept_all}
use Rattle.jzon.specs.Grammar.{Sign, unsigned, plus, minus, Exponent, Numeral, AreDigits}
use Rattle.jzon.specs.Grammar as grammar
use Rattle.jzon.specs.Meaning.{signed_exponent, written_exponent, number_of}
use Rattle.jzon.proofs.ReadBack.NumeralTexts.{numeral_spelled, minus_spelled, fraction_spelled, exponent_spelled}
use Rattle.jzon.proofs.ReadBack.NumeralTexts.{LosesNothing, StaysExponent}

-- The number has the text of these parts. It means the same parts, and what it means prints as the same text.
pub record IsPrintedAs (s : Bool) (m : ℕ) (e : ℤ) (n : Numeral) : Type 0 where
  pub in_grammar : grammar.IsNumeral n
  pub spelled : numeral_spelled n ≡ number_text s m e
  pub alike : same_decimal (number_of n) (parts s m e) ≡ true
  pub prints : decimal_text (number_of n) ≡ number_text s m e
  pub loses_nothing : LosesNothing n

abbrev pub HasNumeral : Bool → ℕ → ℤ → Type 0
HasNumeral s m e = (n : Numeral) × IsPrintedAs s m e n

abbrev pub exponent : Sign → List ℕ → Exponent
exponent s ds = record { letter = 101; sign = s; digits = ds }

abbrev pub numeral : Bool → List ℕ → List ℕ → Option Exponent → Numeral
numeral s whole fraction x = record { negative = not s; whole = whole; fraction = fraction; exponent = x }

-- ---- digits

abbrev pub AllDigits : List ℕ → Type 0
AllDigits = AllByRecursion IsDigit

-- digits, with no zero before others
abbrev pub IsWholePart : List ℕ → Type 0
IsWholePart ds = AllDigits ds × (0 < length ds) × (get_or ds 0 0 ≡ 48 → length ds ≡ 1)

digit_test : (d : ℕ) → IsDigit d → is_ascii_digit d ≡ true
digit_test d h = grind (arith, nat_tests)

digits_test : (ds : List ℕ) → AllDigits ds → AreDigits ds
digits_test [] h = tt
digits_test (d ∷ ds) h = (digit_test d h.0, digits_test ds h.1)

pub whole_test : (ds : List ℕ) → IsWholePart ds → grammar.IsWhole ds
whole_test [] h = absurd (omega (arith, h.1))
whole_test (d ∷ []) h = digit_test d h.0.0
whole_test (d ∷ e ∷ ds) h =
    (first d h.0.0 (λ z. let one : suc (suc (length ds)) ≡ 1 = h.2 z in omega (arith, one)), digits_test (e ∷ ds) h.0.1)
  where
    first : (d : ℕ) → IsDigit d → (d ≡ 48 → ⊥) → (is_ascii_digit d && not (d == 48)) ≡ true
    first d h apart = grind (arith, nat_tests)

pub exponent_test : (s : Sign) (ds : List ℕ) → AllDigits ds → 0 < length ds → grammar.IsExponent (Some (exponent s ds))
exponent_test s [] h some = absurd (omega arith)
exponent_test s (d ∷ ds) h some = (refl, (digit_test d h.0, digits_test ds h.1))

pub all-zeros : (n : ℕ) → AllDigits (replicate n 48)
all-zeros zero = tt
all-zeros (suc n) = ((omega arith, omega arith), all-zeros n)

pub digits-append : (xs ys : List ℕ) → AllDigits xs → AllDigits ys → AllDigits (xs ++ ys)
digits-append xs ys h k = recursion_from_All IsDigit (xs ++ ys)
    (All-append IsDigit xs ys (All-from_recursion IsDigit xs h) (All-from_recursion IsDigit ys k))

pub digits-take : (n : ℕ) (ds : List ℕ) → AllDigits ds → AllDigits (take n ds)
digits-take n ds h = recursion_from_All IsDigit (take n ds) (All-take IsDigit n ds (All-from_recursion IsDigit ds h))

pub digits-drop : (n : ℕ) (ds : List ℕ) → AllDigits ds → AllDigits (drop n ds)
digits-drop n ds h = recursion_from_All IsDigit (drop n ds) (All-drop IsDigit n ds (All-from_recursion IsDigit ds h))

-- ---- printed digits

abbrev read_on : ℕ → List ℕ → ℕ
read_on n ds = fold add_digit n ds

own_all : IsNumeralModel AllDigits (read_on 0)
own_all = numerals_by_fold _ (search rules) read_on (search rules)

pub number_decimal : (m : ℕ) → m < 2 ^ 64 → digits_number (decimal m) ≡ m
number_decimal m h = digits_value-decimal own_all m h

pub decimal_digits : (n : ℕ) → n < 2 ^ 64 → AllDigits (decimal n) × (0 < length (decimal n))
decimal_digits n h = (digits_decimal own_all n h, decimal_nonempty n h)

-- the digits of a mantissa above 0
pub record IsMantissa (m : ℕ) (ds : List ℕ) : Type 0 where
  pub number : digits_number ds ≡ m
  pub digits : AllDigits ds
  pub some : 0 < length ds
  pub first : 48 < get_or ds 0 0
  pub few : length ds ≤ 20

pub mantissa : (m : ℕ) → 0 < m → m < 2 ^ 64 → IsMantissa m (decimal m)
mantissa m above fits = record {
  number = number_decimal m fits;
  digits = digits_decimal own_all m fits;
  some = decimal_nonempty m fits;
  first = first_decimal m above fits;
  few = length-decimal-le 20 m (omega arith) (omega arith) fits;
}

-- ---- the cases of a text

pub if-le : (a b : ℕ) (xs ys : List ℕ) → a ≤ b → (if nat_le a b then xs else ys) ≡ xs
if-le a b xs ys h = grind (arith, nat_tests)

pub if-not_le : (a b : ℕ) (xs ys : List ℕ) → b < a → (if nat_le a b then xs else ys) ≡ ys
if-not_le a b xs ys h = grind (arith, nat_tests)

pub if-eq : (a b : ℕ) (xs ys : List ℕ) → a ≡ b → (if a == b then xs else ys) ≡ xs
if-eq a b xs ys h = grind (arith, nat_tests)

pub if-ne : (a b : ℕ) (xs ys : List ℕ) → (a ≡ b → ⊥) → (if a == b then xs else ys) ≡ ys
if-ne a b xs ys h = grind (arith, nat_tests)

pub number_text-above : (s : Bool) (m : ℕ) (e : ℤ) → 0 < m → number_text s m e
    ≡ sign_text s ++ magnitude_text (decimal m) e
number_text-above s m e above = ap (λ t. sign_text s ++ t) (if-ne m 0 (codes "0") (magnitude_text (decimal m) e)
    (λ z. omega arith))

-- ---- what a number means

-- a number that means d
pub means_as : (s : Bool) (m : ℕ) (e : ℤ) (n : Numeral) (d : Decimal) → grammar.IsNumeral n
    → LosesNothing n → numeral_spelled n ≡ number_text s m e → number_of n ≡ d
    → same_decimal d (parts s m e) ≡ true → decimal_text d ≡ number_text s m e → HasNumeral s m e
means_as s m e n d ok none spelled means alike prints =
    let same_value = ap (λ x. same_decimal x (parts s m e)) means ∙ alike in (
      n,
      record {
        in_grammar = ok;
        spelled = spelled;
        alike = same_value;
        prints = ap decimal_text means ∙ prints;
        loses_nothing = none;
      },
    )

clamp_small : (e : ℤ) → FitsSigned w16 e → clamp e ≡ e
clamp_small e fits = omega (arith, ints, clamps)

-- ---- nothing is lost

-- if all digits fit, none is dropped
pub all_kept : (ds : List ℕ) → digits_number ds < 2 ^ 64 → HoldsOfNone loses_last ds
all_kept ds fits i within = held_if ds i within (λ past. absurd (omega (arith, kept_all ds fits)))

-- if all digits of the exponent leave it in range, each prefix of them does
pub on_the_way : (s : Sign) (p : ℤ) (n m : ℕ) → FitsSigned w16 p → FitsSigned w16 (p +ℤ signed_exponent s m) → n ≤ m
    → clamp (p +ℤ signed_exponent s n) ≡ p +ℤ signed_exponent s n
on_the_way unsigned p n m first last le = omega (arith, ints, clamps, first, last)
on_the_way plus p n m first last le = omega (arith, ints, clamps, first, last)
on_the_way minus p n m first last le = omega (arith, ints, clamps, first, last)

pub exponent_stays : (ws fs : List ℕ) (x : Option Exponent) (e : ℤ) → digits_number (ws ++ fs) < 2 ^ 64
    → length fs ≤ 20 → (pos 0 -ℤ pos (length fs)) +ℤ written_exponent x ≡ e → FitsSigned w16 e
    → StaysExponent ws fs x
exponent_stays ws fs None e fits few sum small = tt
exponent_stays ws fs (Some x) e fits few sum small = λ i within.
    let all : kept_len (ws ++ fs) ≡ length (ws ++ fs) = kept_all (ws ++ fs) fits in
    let none : dropped ws fs ≡ 0 = omega (arith, all, length-append ws fs) in
    let some : kept_fraction ws fs ≡ length fs = omega (arith, all, length-append ws fs) in
    let prefix : ℕ = digits_number (take (suc i) x.digits) in
    let le : prefix ≤ digits_number x.digits = prefix_le x.digits (suc i) (omega arith) in
    let first : FitsSigned w16 (pos 0 -ℤ pos (length fs)) = omega (arith, ints) in
    let last : FitsSigned w16 ((pos 0 -ℤ pos (length fs)) +ℤ signed_exponent x.sign (digits_number x.digits)) =
    rw sum small in
    let power : (pos (dropped ws fs) -ℤ pos (kept_fraction ws fs)) ≡ (pos 0 -ℤ pos (length fs)) = rw (none, some) refl in
    in_range_if _ (own_power ws fs +ℤ signed_exponent x.sign prefix)
    (rw power (on_the_way x.sign (pos 0 -ℤ pos (length fs)) prefix (digits_number x.digits) first last le))

-- the parts, if all digits fit and the powers of ten add up
pub exact_parts : (s : Bool) (whole fraction : List ℕ) (x : Option Exponent) (m : ℕ) (e : ℤ)
    → digits_number (whole ++ fraction) ≡ m → m < 2 ^ 64 → (pos 0 -ℤ pos (length fraction)) +ℤ written_exponent x ≡ e
    → FitsSigned w16 e → number_of (numeral s whole fraction x) ≡ parts s m e
exact_parts s whole fraction x m e is fits sum small =
    let all : kept_len (whole ++ fraction) ≡ length (whole ++ fraction) = kept_all (whole ++ fraction)
    (omega (arith, is)) in
    let value : digits_number (kept (whole ++ fraction)) ≡ m =
    ap digits_number (take_all (kept_len (whole ++ fraction)) (whole ++ fraction) (omega (arith, all))) ∙ is in
    let none : dropped whole fraction ≡ 0 = omega (arith, all, length-append whole fraction) in
    let some : kept_fraction whole fraction ≡ length fraction = omega (arith, all, length-append whole fraction) in
    let inner : (pos (dropped whole fraction) -ℤ pos (kept_fraction whole fraction)) +ℤ written_exponent x
    ≡ e = rw (none, some) sum in
    let power : read_exponent whole fraction (written_exponent x) ≡ e = ap clamp inner ∙ clamp_small e small in
    rw (not-not s, value, power)

pub minus-is : (s : Bool) → minus_spelled (not s) ≡ sign_text s
minus-is true = refl
minus-is false = refl

-- a number with the text of a mantissa above 0, which means exactly its parts
pub means_exactly : (s : Bool) (m : ℕ) (e : ℤ) (w f : List ℕ) (x : Option Exponent) → 0 < m → m < 2 ^ 64
    → FitsSigned w16 e → IsWholePart w → AllDigits f → length f ≤ 20 → grammar.IsExponent x
    → w ++ fraction_spelled f ++ exponent_spelled x ≡ magnitude_text (decimal m) e → digits_number (w ++ f) ≡ m
    → (pos 0 -ℤ pos (length f)) +ℤ written_exponent x ≡ e → HasNumeral s m e
means_exactly s m e w f x above fits small whole digits few power spelled value sum =
    let text : number_text s m e ≡ minus_spelled (not s) ++ (w ++ fraction_spelled f ++ exponent_spelled x) =
    number_text-above s m e above ∙ ap (λ t. sign_text s ++ t) (sym spelled)
    ∙ ap (λ t. t ++ (w ++ fraction_spelled f ++ exponent_spelled x)) (sym (minus-is s)) in
    means_as s m e (numeral s w f x) (parts s m e) (whole_test w whole, digits_test f digits, power)
    (all_kept (w ++ f) (omega (arith, value)), exponent_stays w f x e (omega (arith, value)) few sum small)
    (ap (λ t. minus_spelled (not s) ++ t) (sym (append_assoc w (fraction_spelled f) (exponent_spelled x))) ∙ sym text)
    (exact_parts s w f x m e value fits sum small) (same_decimal_equiv.refl (parts s m e)) refl
