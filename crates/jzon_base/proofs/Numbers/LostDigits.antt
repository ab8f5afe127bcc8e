-- What is lost of a number: dropped digits, and an exponent that is clamped.
use Rattle.jzon_base.proofs.Common.{◌≡◌, ◌∙◌, ℕ, suc, ℤ, ◌+◌, ◌-◌, ◌*◌, ◌+ℤ◌, ◌≤◌, ◌<◌, min, Bool, true, false}
use Rattle.jzon_base.proofs.Common.{not, ◌&&◌, ◌==◌, ◌≢◌, List, [], ◌∷◌, ◌++◌, fold-append, length, take, get_or, refl}
use Rattle.jzon_base.proofs.Common.{sym, ap, ap₂, subst, arith, inl, inr, cases_lt, true≢false, ◌⊎◌, nat_le, nat_lt, nat_tests, ne_eqb}
use Rattle.jzon_base.proofs.Common.{ints, clamps, pos, neg_ℤ, ◌-ℤ◌, ◌^◌, ◌%◌, All, All-append, length-append, take_all, mod-eq_of_lt}
use Rattle.jzon_base.proofs.Common.{length-take-le, get_or-take, get_or_append_left, get_or-append-add}
use Rattle.std.specs.Ordering.{int_eq}
use Rattle.std.proofs.lemmas.Bool.Decides.{Decides-int_eq}
use Rattle.jzon_base.specs.Decimal.{signed}
use Rattle.std.proofs.lemmas.List.{take_more}
use Rattle.jzon_base.specs.Digits.{add_digit, digits_number, kept_len, kept, dropped, kept_fraction, clamp, own_power}
use Rattle.jzon_base.specs.Digits.{IsDigit}
use Rattle.jzon_base.proofs.Numbers.DigitPrefixes.{few_fit, few_kept, fold-take-le, kept_len-take, kept_len_is_longest}
use Rattle.jzon_base.specs.DigitLimits.{IsFirstTooMany}
use Rattle.jzon_base.specs.LostDigits.{HoldsOfNone, HoldsOfNoneBefore, IsFirst, loses_last, is_out_of_range, leaves_range}
use Rattle.jzon_base.specs.LostDigits.{NumberDigits, mantissa_and_exponent, written}
use Rattle.jzon_base.specs.LostDigits.{IsReadableNumber}

-- ---- prefixes of digits

-- a predicate that is the same of each list
pub none_by : (p q : List ℕ → Bool) (ds : List ℕ) (n : ℕ) → ((xs : List ℕ) → q xs ≡ p xs) → HoldsOfNoneBefore p ds n
    → HoldsOfNoneBefore q ds n
none_by p q ds n same h i below = same (take (suc i) ds) ∙ h i below

pub first_by : (p q : List ℕ → Bool) (ds : List ℕ) (i : ℕ) → ((xs : List ℕ) → q xs ≡ p xs) → IsFirst p ds i
    → IsFirst q ds i
first_by p q ds i same h = (h.0, same (take (suc i) ds) ∙ h.1, none_by p q ds i same h.2)

-- a prefix of digits spells at most what all spell
pub prefix_le : (ds : List ℕ) (i : ℕ) → i ≤ length ds → digits_number (take i ds) ≤ digits_number ds
prefix_le ds i within =
    let all : take (length ds) ds ≡ ds = take_all (length ds) ds (omega arith) in
    omega (arith, fold-take-le 0 ds i (length ds) within, ap digits_number all)

-- ---- lost digits

and_false : (b : Bool) → (b && false) ≡ false
and_false true = refl
and_false false = refl

lost_at : (n k c : ℕ) → (nat_lt (min (suc n) k) (suc n) && not (c == 48)) ≡ (nat_le k n && not (c == 48))
lost_at n k c = grind (arith, nat_tests)

-- the digit at a position, as the last of a prefix
loses_last-take : (ds : List ℕ) (n : ℕ) → n < length ds
    → loses_last (take (suc n) ds) ≡ (nat_le (kept_len ds) n && not (get_or ds n 0 == 48))
unfolding loses_last
loses_last-take ds n h =
    let counted : length (take (suc n) ds) ≡ suc n = length-take-le (suc n) ds (omega arith) in
    let kept : kept_len (take (suc n) ds) ≡ min (suc n) (kept_len ds) = kept_len-take ds (suc n) (omega arith) in
    let last : suc n - 1 ≡ n = omega arith in
    let read : get_or (take (suc n) ds) n 0 ≡ get_or ds n 0 = get_or-take (suc n) ds n 0 (omega arith) in
    rw (counted, kept, last, read) (lost_at n (kept_len ds) (get_or ds n 0))

-- it is lost if and only if it is dropped and isn't 0
pub lost_if : (ds : List ℕ) (n : ℕ) → n < length ds → kept_len ds ≤ n → get_or ds n 0 ≢ 48
    → loses_last (take (suc n) ds) ≡ true
lost_if ds n within past other = loses_last-take ds n within ∙ test (kept_len ds) n (get_or ds n 0) past (ne_eqb _ 48 other)
  where
    test : (k n c : ℕ) → k ≤ n → (c == 48) ≡ false → (nat_le k n && not (c == 48)) ≡ true
    test k n c h g = grind (arith, nat_tests)

pub lost_so : (ds : List ℕ) (n : ℕ) → n < length ds → loses_last (take (suc n) ds) ≡ true
    → (kept_len ds ≤ n) × (get_or ds n 0 ≢ 48)
lost_so ds n within lost = test (kept_len ds) n (get_or ds n 0) (sym (loses_last-take ds n within) ∙ lost)
  where
    test : (k n c : ℕ) → (nat_le k n && not (c == 48)) ≡ true → (k ≤ n) × (c ≢ 48)
    test k n c h = (grind (arith, nat_tests, h), λ e. grind (arith, nat_tests, h, e))

pub held_if : (ds : List ℕ) (n : ℕ) → n < length ds → (kept_len ds ≤ n → get_or ds n 0 ≡ 48)
    → loses_last (take (suc n) ds) ≡ false
held_if ds n within zero = loses_last-take ds n within ∙ test (kept_len ds) n (get_or ds n 0) zero
  where
    test : (k n c : ℕ) → (k ≤ n → c ≡ 48) → (nat_le k n && not (c == 48)) ≡ false
    test k n c h = elim (cases_lt n k) [
      | inl kept ↦ grind (arith, nat_tests, kept)
      | inr past ↦ rw (h past) (and_false (nat_le k n))
    ]

pub held_so : (ds : List ℕ) (n : ℕ) → n < length ds → loses_last (take (suc n) ds) ≡ false → kept_len ds ≤ n
    → get_or ds n 0 ≡ 48
held_so ds n within held past = test (kept_len ds) n (get_or ds n 0) (sym (loses_last-take ds n within) ∙ held) past
  where
    test : (k n c : ℕ) → (nat_le k n && not (c == 48)) ≡ false → k ≤ n → c ≡ 48
    test k n c h past = grind (arith, nat_tests, h, past)

-- a digit that exceeds a limit is one of the digits
pub too_many_within : (whole fraction : List ℕ) (i : ℕ) → IsFirstTooMany whole fraction i → i < length (whole ++ fraction)
too_many_within whole fraction i (inl h) = omega (arith, h.0, h.1, length-append whole fraction)
too_many_within whole fraction i (inr h) =
    omega (arith, h.0, h.1, (kept_len_is_longest (whole ++ fraction)).within)

-- the first of the dropped digits that isn't 0 is the first that is lost
pub first_lost_at : (ds : List ℕ) (i : ℕ) → kept_len ds ≤ i → i < length ds → get_or ds i 0 ≢ 48
    → ((j : ℕ) → kept_len ds ≤ j → j < i → get_or ds j 0 ≡ 48) → IsFirst loses_last ds i
first_lost_at ds i past within other before = (
  within,
  lost_if ds i within past other,
  λ j below. held_if ds j (omega arith) (λ dropped. before j dropped below),
)

-- the digits that `first_nonzero` found to be 0: of the last `gone` before the point, and those from `held` on after it
module _ (ws fs : List ℕ) (gone held : ℕ) (dropped_is : gone ≡ dropped ws fs) (kept_is : held ≡ kept_fraction ws fs) where
  pub lost_in_whole : (i : ℕ) → length ws - gone ≤ i → i < length ws → get_or ws i 0 ≢ 48
      → ((j : ℕ) → length ws - gone ≤ j → j < i → get_or ws j 0 ≡ 48) → IsFirst loses_last (ws ++ fs) i
  lost_in_whole i past within other before =
      first_lost_at (ws ++ fs) i (omega arith) (omega (arith, length-append ws fs))
      (λ e. other (sym (get_or_append_left ws fs 0 i within) ∙ e))
      (λ j dropped below. get_or_append_left ws fs 0 j (omega arith) ∙ before j (omega arith) below)

  zeros : (n : ℕ) → ((j : ℕ) → length ws - gone ≤ j → j < length ws → get_or ws j 0 ≡ 48)
      → ((j : ℕ) → held ≤ j → j < n → get_or fs j 0 ≡ 48)
      → (j : ℕ) → kept_len (ws ++ fs) ≤ j → j < length ws + n → get_or (ws ++ fs) j 0 ≡ 48
  zeros n whole fraction j dropped below = elim (cases_lt j (length ws)) [
    | inl left ↦ get_or_append_left ws fs 0 j left ∙ whole j (omega arith) left
    | inr right ↦
        (let at : j ≡ length ws + (j - length ws) = omega arith in
        ap (λ i. get_or (ws ++ fs) i 0) at ∙ get_or-append-add ws fs (j - length ws) 0
        ∙ fraction (j - length ws) (omega arith) (omega arith))
  ]

  pub lost_in_fraction : (i : ℕ) → ((j : ℕ) → length ws - gone ≤ j → j < length ws → get_or ws j 0 ≡ 48)
      → held ≤ i → i < length fs → get_or fs i 0 ≢ 48
      → ((j : ℕ) → held ≤ j → j < i → get_or fs j 0 ≡ 48) → IsFirst loses_last (ws ++ fs) (length ws + i)
  lost_in_fraction i whole past within other before =
      first_lost_at (ws ++ fs) (length ws + i) (omega arith) (omega (arith, length-append ws fs))
      (λ e. other (sym (get_or-append-add ws fs i 0) ∙ e)) (zeros i whole before)

  pub none_lost : ((j : ℕ) → length ws - gone ≤ j → j < length ws → get_or ws j 0 ≡ 48)
      → ((j : ℕ) → held ≤ j → j < length fs → get_or fs j 0 ≡ 48) → HoldsOfNone loses_last (ws ++ fs)
  none_lost whole fraction i within =
      held_if (ws ++ fs) i within (λ past. zeros (length fs) whole fraction i past (omega (arith, within, length-append ws fs)))

-- ---- the range of a number

pub in_range_if : (m : ℕ) (z : ℤ) → clamp z ≡ z → is_out_of_range m z ≡ false
unfolding is_out_of_range
in_range_if m z h = rw ((Decides-int_eq (clamp z) z).1 h) (and_false (not (m == 0)))

pub out_if : (m : ℕ) (z : ℤ) → m ≢ 0 → (clamp z ≡ z → ⊥) → is_out_of_range m z ≡ true
unfolding is_out_of_range
out_if m z some h = rw (ne_eqb m 0 some) (by_test (int_eq (clamp z) z) refl)
  where
    by_test : (b : Bool) → int_eq (clamp z) z ≡ b → not b ≡ true
    by_test true e = absurd (h ((Decides-int_eq (clamp z) z).0 e))
    by_test false e = refl

pub zero_in_range : (m : ℕ) (z : ℤ) → m ≡ 0 → is_out_of_range m z ≡ false
unfolding is_out_of_range
zero_in_range m z h = rw h refl

pub out_so : (m : ℕ) (z : ℤ) → is_out_of_range m z ≡ true → (m ≢ 0) × (clamp z ≡ z → ⊥)
out_so m z out = (
  λ zero. true≢false (sym out ∙ zero_in_range m z zero),
  λ fits. true≢false (sym out ∙ in_range_if m z fits),
)

pub fits_if_in_range : (m : ℕ) (z : ℤ) → m ≢ 0 → is_out_of_range m z ≡ false → clamp z ≡ z
fits_if_in_range m z some h = elim (by_test (int_eq (clamp z) z) refl) [
  | inl fits ↦ fits
  | inr other ↦ absurd (true≢false (sym (out_if m z some other) ∙ h))
]
  where
    by_test : (b : Bool) → int_eq (clamp z) z ≡ b → (clamp z ≡ z) ⊎ (clamp z ≡ z → ⊥)
    by_test true e = inl ((Decides-int_eq (clamp z) z).0 e)
    by_test false e = inr (λ same. true≢false (sym ((Decides-int_eq (clamp z) z).1 same) ∙ e))

-- ---- few digits

-- at most 19 digits are all kept
pub record FewDigits (whole fraction : List ℕ) : Type 0 where
  pub len : kept_len (whole ++ fraction) ≡ length whole + length fraction
  pub all : kept (whole ++ fraction) ≡ whole ++ fraction
  pub fits : digits_number (whole ++ fraction) < 2 ^ 64

pub few_digits : (whole fraction : List ℕ) → All IsDigit whole → All IsDigit fraction
    → length whole + length fraction ≤ 19 → FewDigits whole fraction
few_digits whole fraction w f few =
    let ds = whole ++ fraction in
    let all : All IsDigit ds = All-append IsDigit whole fraction w f in
    let short : length ds ≤ 19 = omega (arith, length-append whole fraction) in
    let e : kept_len ds ≡ length ds = few_kept ds all short in
    record {
      len = omega (arith, e, length-append whole fraction);
      all = ap (λ (n : ℕ). take n ds) e ∙ take_all (length ds) ds (omega arith);
      fits = few_fit ds all short;
    }

-- the exponent without a written one
few_power : (whole fraction : List ℕ) → FewDigits whole fraction
    → own_power whole fraction ≡ pos 0 -ℤ pos (length fraction)
few_power whole fraction k =
    let none : dropped whole fraction ≡ 0 = omega (arith, k.len) in
    let all : kept_fraction whole fraction ≡ length fraction = omega (arith, k.len) in
    ap₂ (λ (a b : ℕ). pos a -ℤ pos b) none all

between_positive : (p : ℤ) (m n : ℕ) → m ≤ n → clamp p ≡ p → clamp (p +ℤ pos n) ≡ p +ℤ pos n
    → clamp (p +ℤ pos m) ≡ p +ℤ pos m
between_positive p m n le low high = omega (arith, ints, clamps, low, high)

between_negative : (p : ℤ) (m n : ℕ) → m ≤ n → clamp p ≡ p → clamp (p +ℤ neg_ℤ (pos n)) ≡ p +ℤ neg_ℤ (pos n)
    → clamp (p +ℤ neg_ℤ (pos m)) ≡ p +ℤ neg_ℤ (pos m)
between_negative p m n le low high = omega (arith, ints, clamps, low, high)

-- if all digits of an exponent don't take a number out of range, no prefix of them does
fits_up_to : (m : ℕ) (p : ℤ) (positive : Bool) (ds : List ℕ) → clamp p ≡ p
    → clamp (p +ℤ signed positive (digits_number ds)) ≡ p +ℤ signed positive (digits_number ds)
    → HoldsOfNone (λ xs. is_out_of_range m (p +ℤ signed positive (digits_number xs))) ds
fits_up_to m p true ds low high i within =
    in_range_if m _ (between_positive p (digits_number (take (suc i) ds)) (digits_number ds) (prefix_le ds (suc i)
    (omega arith)) low high)
fits_up_to m p false ds low high i within =
    in_range_if m _ (between_negative p (digits_number (take (suc i) ds)) (digits_number ds) (prefix_le ds (suc i)
    (omega arith)) low high)

-- a missing exponent is 0
pub signed_none : (positive : Bool) (ds : List ℕ) → length ds ≡ 0 → signed positive (digits_number ds) ≡ pos 0
signed_none true [] none = refl
signed_none false [] none = refl
signed_none positive (d ∷ ds) none = absurd (omega (arith, none))

pub few_outcome : (d : NumberDigits) (number : ℕ) (sum : ℤ) → FewDigits d.whole d.fraction
    → length d.whole + length d.fraction ≤ 19 → number ≡ digits_number (d.whole ++ d.fraction) % 2 ^ 64
    → sum ≡ (pos 0 -ℤ pos (length d.fraction)) +ℤ signed d.positive (digits_number d.exponent) → clamp sum ≡ sum
    → IsReadableNumber true d × ((number, sum) ≡ mantissa_and_exponent d)
few_outcome d number sum k few e is fits =
    let power : ℤ = pos 0 -ℤ pos (length d.fraction) in
    let own : own_power d.whole d.fraction ≡ power = few_power d.whole d.fraction k in
    let low : clamp power ≡ power = omega (arith, ints, clamps, few) in
    let high : clamp (power +ℤ written d) ≡ power +ℤ written d = subst (λ (z : ℤ). clamp z ≡ z) is fits in
    let stays : HoldsOfNone (leaves_range d.whole d.fraction (signed d.positive)) d.exponent =
    rw own (fits_up_to (digits_number (kept (d.whole ++ d.fraction))) power d.positive d.exponent low high) in
    let all : kept_len (d.whole ++ d.fraction) ≡ length (d.whole ++ d.fraction) =
    omega (arith, k.len, length-append d.whole d.fraction) in (
      (
        (omega (arith, k.len), omega (arith, k.len)),
        λ on. (λ i within. held_if (d.whole ++ d.fraction) i within (λ past. absurd (omega (arith, all))), stays),
      ),
      ap₂ (λ (n : ℕ) (z : ℤ). (n, z)) (e ∙ mod-eq_of_lt k.fits ∙ ap digits_number (sym k.all))
          (sym fits ∙ ap clamp is ∙ ap (λ (z : ℤ). clamp (z +ℤ written d)) (sym own)),
    )

-- ---- a digit more

pub one_more : (ds : List ℕ) (i : ℕ) → i < length ds
    → digits_number (take (suc i) ds) ≡ digits_number (take i ds) * 10 + (get_or ds i 0 - 48)
one_more ds i within =
    let next : suc i ≡ i + 1 = omega arith in
    ap (λ n. digits_number (take n ds)) next ∙ ap digits_number (take_more ds i 0 within)
    ∙ fold-append add_digit 0 (take i ds) (get_or ds i 0 ∷ [])
