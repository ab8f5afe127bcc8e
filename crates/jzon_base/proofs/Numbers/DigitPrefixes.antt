-- The longest prefix of digits that spells a number below 2 ^ 64.
use Rattle.jzon_base.proofs.Common.{◌≡◌, ℕ, zero, suc, ◌+◌, ◌-◌, ◌^◌, ◌≤◌, ◌<◌, List, [], ◌∷◌, ◌++◌, length, take, drop}
use Rattle.jzon_base.proofs.Common.{ap, ◌∙◌, subst, arith, inl, inr, length-append, add-zero, zero-add, add-suc}
use Rattle.jzon_base.proofs.Common.{suc-add, pow-suc, nat_lt, if◌then◌else◌, lit<, fold, All, fold-append}
use Rattle.jzon_base.proofs.Common.{take-append-le, take_all, All-head, All-tail, pow-le-pow_right, take-add}
use Rattle.jzon_base.proofs.Common.{take-append-add, take-append-drop, length-take-le, min, cases_lt, nat_tests}
use Rattle.jzon_base.proofs.Common.{◌%◌, true, refl, sym, is_ascii_digit, prefix_len, All-append, All-take, length-take, mod-eq_of_lt}
use Rattle.jzon_base.specs.DigitLimits.{IsLongestPrefix}
use Rattle.jzon_base.specs.Digits.{IsDigit, add_digit, digits_number, longest_up_to, kept_len}

-- ---- a longer prefix spells a number that is at least as large

fold-ge : (v : ℕ) (ds : List ℕ) → v ≤ fold add_digit v ds
fold-ge v [] = omega arith
fold-ge v (d ∷ ds) = let h : add_digit v d ≤ fold add_digit (add_digit v d) ds = fold-ge (add_digit v d) ds in omega
    (arith, h)

pub fold-take-le : (v : ℕ) (ds : List ℕ) (i n : ℕ) → i ≤ n → fold add_digit v (take i ds) ≤ fold add_digit v (take n ds)
fold-take-le v ds i n h =
    let split : n ≡ i + (n - i) = omega arith in
    let e : fold add_digit v (take n ds) ≡ fold add_digit (fold add_digit v (take i ds)) (take (n - i) (drop i ds)) =
    ap (λ j. fold add_digit v (take j ds)) split ∙ ap (fold add_digit v) (take-add i (n - i) ds)
    ∙ fold-append add_digit v (take i ds) (take (n - i) (drop i ds)) in
    omega (arith, e, fold-ge (fold add_digit v (take i ds)) (take (n - i) (drop i ds)))

-- ---- the kept digits are the longest prefix

pub if-lt : {X : Type 0} (a b : ℕ) (x y : X) → a < b → (if nat_lt a b then x else y) ≡ x
if-lt a b x y h = grind (arith, nat_tests)

pub if-ge : {X : Type 0} (a b : ℕ) (x y : X) → b ≤ a → (if nat_lt a b then x else y) ≡ y
if-ge a b x y h = grind (arith, nat_tests)

longest_up_to-fits : (ds : List ℕ) (n : ℕ) → digits_number (take (suc n) ds) < 2 ^ 64 → longest_up_to (suc n) ds ≡ suc n
longest_up_to-fits ds n fits = if-lt (digits_number (take (suc n) ds)) (2 ^ 64) (suc n) (longest_up_to n ds) fits

longest_up_to-large : (ds : List ℕ) (n : ℕ) → 2 ^ 64 ≤ digits_number (take (suc n) ds)
    → longest_up_to (suc n) ds ≡ longest_up_to n ds
longest_up_to-large ds n large = if-ge (digits_number (take (suc n) ds)) (2 ^ 64) (suc n) (longest_up_to n ds) large

-- k is the greatest number up to n of leading digits that spell a number below 2 ^ 64
record IsLongestUpTo (ds : List ℕ) (n k : ℕ) : Type 0 where
  within : k ≤ n
  fits : digits_number (take k ds) < 2 ^ 64
  longest : (j : ℕ) → k < j → j ≤ n → 2 ^ 64 ≤ digits_number (take j ds)

-- one more digit, which is too many
longest_and_one_more : (ds : List ℕ) (n k : ℕ) → IsLongestUpTo ds n k → 2 ^ 64 ≤ digits_number (take (suc n) ds)
    → IsLongestUpTo ds (suc n) k
longest_and_one_more ds n k before large = record {
  within = omega (arith, before.within);
  fits = before.fits;
  longest = λ j above within. elim (cases_lt n j) [
    | inl last ↦ (let e : suc n ≡ j = omega arith in subst (λ (i : ℕ). 2 ^ 64 ≤ digits_number (take i ds)) e large)
    | inr earlier ↦ before.longest j above earlier
  ];
}

longest_up_to_is : (ds : List ℕ) (n : ℕ) → IsLongestUpTo ds n (longest_up_to n ds)
longest_up_to_is ds zero = record {
  within = omega arith;
  fits = lit< tt;
  longest = λ j above within. absurd
      (omega arith);
}
longest_up_to_is ds (suc n) =
    elim (cases_lt (digits_number (take (suc n) ds)) (2 ^ 64)) [
      | inl fits ↦
          (rw (longest_up_to-fits ds n fits) (record {
            within = omega arith;
            fits = fits;
            longest = λ j above within.
                absurd (omega arith);
          }))
      | inr large ↦
          (rw (longest_up_to-large ds n large) (longest_and_one_more ds n (longest_up_to n ds) (longest_up_to_is ds n)
          large))
    ]

pub kept_len_is_longest : (ds : List ℕ) → IsLongestPrefix ds (kept_len ds)
unfolding kept_len
kept_len_is_longest ds = let k = longest_up_to_is ds (length ds) in record
    { within = k.within; fits = k.fits; longest = k.longest }

-- ---- a prefix that is too large with one more digit is the longest

pub kept_len-at : (ds : List ℕ) (k : ℕ) → k ≤ length ds → digits_number (take k ds) < 2 ^ 64
    → (k < length ds → 2 ^ 64 ≤ digits_number (take (k + 1) ds)) → kept_len ds ≡ k
kept_len-at ds k within fits next =
    let kept = kept_len_is_longest ds in
    let at_least : k ≤ kept_len ds =
    elim (cases_lt (kept_len ds) k) [ inl below ↦ absurd (omega (arith, kept.longest k below within)) | inr h ↦ h ] in
    let at_most : kept_len ds ≤ k =
    elim (cases_lt k (kept_len ds)) [
      | inl above ↦ absurd (omega (
        arith,
        kept.fits,
        next (omega (arith, kept.within)),
        fold-take-le 0 ds (k + 1)
            (kept_len ds) (omega arith),
      ))
      | inr h ↦ h
    ] in
    omega arith

pub kept_len-within_whole : (whole fraction : List ℕ) (k : ℕ) → k < length whole → digits_number (take k whole) < 2 ^ 64
    → 2 ^ 64 ≤ digits_number (take (k + 1) whole) → kept_len (whole ++ fraction) ≡ k
kept_len-within_whole whole fraction k h fits large =
    let prefix : take k (whole ++ fraction) ≡ take k whole = take-append-le k whole fraction (omega arith) in
    let next : take (k + 1) (whole ++ fraction) ≡ take (k + 1) whole = take-append-le (k + 1) whole fraction
    (omega arith) in
    kept_len-at (whole ++ fraction) k (omega (arith, length-append whole fraction)) (rw prefix fits)
    (λ _. rw next large)

pub digits_number-take-append : (whole fraction : List ℕ) (n : ℕ)
    → digits_number (take (length whole + n) (whole ++ fraction))
    ≡ fold add_digit (digits_number whole) (take n fraction)
digits_number-take-append whole fraction n = ap digits_number (take-append-add whole fraction n)
    ∙ fold-append add_digit 0 whole (take n fraction)

pub kept_len-past_whole : (whole fraction : List ℕ) (k : ℕ) → k ≤ length fraction
    → fold add_digit (digits_number whole) (take k fraction) < 2 ^ 64
    → (k < length fraction → 2 ^ 64 ≤ fold add_digit (digits_number whole) (take (k + 1) fraction))
    → kept_len (whole ++ fraction) ≡ length whole + k
kept_len-past_whole whole fraction k h fits next =
    kept_len-at (whole ++ fraction) (length whole + k) (omega (arith, length-append whole fraction))
    (omega (arith, digits_number-take-append whole fraction k, fits))
    (λ below. let more : k < length fraction = omega (arith, below, length-append whole fraction) in
    let e : length whole + k + 1 ≡ length whole + (k + 1) = omega arith in
    rw e (rw digits_number-take-append (next more)))

-- ---- all digits are kept if they fit, as up to 19 do

pub kept_all : (ds : List ℕ) → digits_number ds < 2 ^ 64 → kept_len ds ≡ length ds
kept_all ds h = kept_len-at ds (length ds) (omega arith) (rw (take_all (length ds) ds (omega arith)) h)
    (λ below. absurd (omega arith))

below_power : (v k : ℕ) (ds : List ℕ) → All IsDigit ds → v < 10 ^ k → fold add_digit v ds < 10 ^ (k + length ds)
below_power v k [] all h = rw add-zero h
below_power v k (d ∷ ds) all h =
    let digit : IsDigit d = All-head IsDigit d ds all in
    let next : add_digit v d < 10 ^ suc k = omega (arith, pow-suc 10 k, digit) in
    rw (add-suc, ← suc-add k (length ds)) (below_power (add_digit v d) (suc k) ds (All-tail IsDigit d ds all) next)

pub below_ten_to : (n : ℕ) (ds : List ℕ) → All IsDigit ds → length ds ≤ n → digits_number ds < 10 ^ n
below_ten_to n ds all few =
    let most : 10 ^ length ds ≤ 10 ^ n = pow-le-pow_right (omega arith) few in
    let below : fold add_digit 0 ds < 10 ^ length ds = rw zero-add at (below_power 0 0 ds all (omega arith)) in
    omega (arith, below, most)

pub few_fit : (ds : List ℕ) → All IsDigit ds → length ds ≤ 19 → digits_number ds < 2 ^ 64
few_fit ds all few = let below = below_ten_to 19 ds all few in omega (arith, below)

pub few_kept : (ds : List ℕ) → All IsDigit ds → length ds ≤ 19 → kept_len ds ≡ length ds
few_kept ds all few = kept_all ds (few_fit ds all few)

-- ---- the first digits, of which so many fit

digit_true : (c : ℕ) → IsDigit c → is_ascii_digit c ≡ true
digit_true c h = grind (arith, nat_tests)

scan_all : (ds : List ℕ) → All IsDigit ds → prefix_len is_ascii_digit ds ≡ length ds
scan_all [] all = refl
scan_all (d ∷ ds) all =
    rw (digit_true d (All-head IsDigit d ds all)) (omega (arith, scan_all ds (All-tail IsDigit d ds all)))

-- a scan of the first digits, if their number fits
pub scan_of_digits : (ds : List ℕ) (n before count number : ℕ) → All IsDigit ds → n ≤ length ds → before < 2 ^ 64
    → fold add_digit before (take n ds) < 2 ^ 64 → count ≡ prefix_len is_ascii_digit (take n ds)
    → ((m : ℕ) → before ≡ m % 2 ^ 64 → number ≡ fold add_digit m (take count (take n ds)) % 2 ^ 64)
    → number ≡ fold add_digit before (take n ds)
scan_of_digits ds n before count number all within small fits e is =
    let counted : count ≡ length (take n ds) = e ∙ scan_all (take n ds) (All-take IsDigit n ds all) in
    let same : take count (take n ds) ≡ take n ds = take_all count (take n ds) (omega (arith, counted)) in
    is before (sym (mod-eq_of_lt small)) ∙ ap (λ l. fold add_digit before l % 2 ^ 64) same ∙ mod-eq_of_lt fits

pub few_after : (whole fraction : List ℕ) (n : ℕ) → All IsDigit whole → All IsDigit fraction → n ≤ length fraction
    → length whole + n ≤ 19 → fold add_digit (digits_number whole) (take n fraction) < 2 ^ 64
few_after whole fraction n w f within few =
    let ds = take (length whole + n) (whole ++ fraction) in
    let fits : digits_number ds < 2 ^ 64 =
    few_fit ds (All-take IsDigit (length whole + n) (whole ++ fraction) (All-append IsDigit whole fraction w f))
    (omega (arith, length-take (length whole + n) (whole ++ fraction))) in
    omega (arith, fits, digits_number-take-append whole fraction n)

-- ---- the kept digits of a prefix

-- a prefix keeps the digits that the whole list keeps of it
kept_len-prefix : (xs ys : List ℕ) → kept_len xs ≡ min (length xs) (kept_len (xs ++ ys))
kept_len-prefix xs ys =
    let prefix = kept_len_is_longest xs in
    let all = kept_len_is_longest (xs ++ ys) in
    elim (cases_lt (kept_len xs) (length xs)) [
      | inl less ↦
          (let e : kept_len (xs ++ ys) ≡ kept_len xs =
          kept_len-within_whole xs ys (kept_len xs) less prefix.fits
          (prefix.longest (kept_len xs + 1) (omega arith) (omega arith)) in
          omega arith)
      | inr more ↦
          (let full : digits_number (take (length xs) (xs ++ ys)) ≡ digits_number (take (kept_len xs) xs) =
          ap digits_number (take-append-le (length xs) xs ys (omega arith))
          ∙ ap (λ n. digits_number (take n xs)) (omega (arith, prefix.within)) in
          let enough : length xs ≤ kept_len (xs ++ ys) =
          elim (cases_lt (kept_len (xs ++ ys)) (length xs)) [
            | inl below ↦
                let more = all.longest (length xs) below (omega (arith, length-append xs ys)) in
                absurd (omega (arith, full, prefix.fits, more))
            | inr h ↦ h
          ] in
          omega (arith, prefix.within))
    ]

pub kept_len-take : (ds : List ℕ) (n : ℕ) → n ≤ length ds → kept_len (take n ds) ≡ min n (kept_len ds)
kept_len-take ds n h =
    let prefix : kept_len (take n ds) ≡ min (length (take n ds)) (kept_len (take n ds ++ drop n ds)) =
    kept_len-prefix (take n ds) (drop n ds) in
    let same : kept_len (take n ds ++ drop n ds) ≡ kept_len ds = ap kept_len (take-append-drop n ds) in
    let counted : length (take n ds) ≡ n = length-take-le n ds h in
    omega (arith, prefix, same, counted)
