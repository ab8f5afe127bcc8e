-- A printed number with zeros after its digits: it is read with a larger mantissa, and one zero is dropped if the
-- mantissa has no room for it.
use Rattle.jzon_base.proofs.Common.{◌≡◌, ℕ, suc, zero, ℤ, pos, ◌+ℤ◌, ◌-ℤ◌, ◌+◌, ◌*◌, ◌/◌, ◌%◌, ◌^◌, ◌&&◌, ◌≤◌, ◌<◌}
use Rattle.jzon_base.proofs.Common.{◌==◌, None, List, [], ◌∷◌, ◌++◌, length, take, replicate, Bool, true, false, not}
use Rattle.jzon_base.proofs.Common.{refl, sym, ap, ◌∙◌, arith, decimal, length-append, append_assoc, append-nil}
use Rattle.jzon_base.proofs.Common.{pow-add, fold, ints, not-not, one-le-pow, mul-le-mul_right, pow-le-pow_right}
use Rattle.jzon_base.proofs.Common.{fold-append, length-replicate, take_all, get_or, get_or_append_left}
use Rattle.std.proofs.Common.{eq-eqb}
use Rattle.std.proofs.lemmas.Fmt.{decimal_step}
use Rattle.std.proofs.Math.Bool.{or-true}
use Rattle.std.proofs.Math.Nat.{pow-suc, one-le-mul}
use Rattle.std.proofs.lemmas.List.{take_at}
use Rattle.jzon_base.specs.Digits.{add_digit, digits_number, kept_len, dropped, kept_fraction}
use Rattle.jzon_base.specs.Decimal.{parts, same_decimal, scaled}
use Rattle.jzon_base.specs.NumberText.{sign_text, number_text}
use Rattle.jzon_base.specs.Private.Same.{same_decimal_equiv}
use Rattle.jzon_base.proofs.Numbers.DigitPrefixes.{kept_len-at}
use Rattle.jzon_base.proofs.Numbers.Scaling.{scaled-eq-fits}
use Rattle.jzon.specs.Meaning.{number_of}
use Rattle.jzon.proofs.ReadBack.NumeralTexts.{numeral_spelled, minus_spelled}
use Rattle.jzon.proofs.ReadBack.PrintedParts.{HasNumeral, numeral, AllDigits, IsWholePart, whole_test, all-zeros}
use Rattle.jzon.proofs.ReadBack.PrintedParts.{number_decimal, digits-append, IsMantissa, mantissa, if-le, if-ne}
use Rattle.jzon.proofs.ReadBack.PrintedParts.{number_text-above, means_as, exact_parts, minus-is, all_kept}
use Rattle.jzon_base.specs.LostDigits.{HoldsOfNone, loses_last}
use Rattle.jzon_base.proofs.Numbers.LostDigits.{held_if}
use Rattle.std.proofs.Math.Seq.{get_or-append_seam}

-- ---- powers of ten

pub ten_more : (v n : ℕ) → (v * 10 + 0) * 10 ^ n ≡ v * 10 ^ suc n
ten_more v n = rw (pow-suc 10 n) (omega arith)

times_one : (m : ℕ) → m * 10 ^ 0 ≡ m
times_one m = omega arith

pub tenfold : (m n : ℕ) → m * 10 ^ suc n ≡ m * 10 ^ n * 10
tenfold m n = rw (pow-suc 10 n) (omega arith)

-- ---- digits and zeros

zeros_after : (v n : ℕ) → fold add_digit v (replicate n 48) ≡ v * 10 ^ n
zeros_after v zero = omega arith
zeros_after v (suc n) = zeros_after (v * 10 + 0) n ∙ ten_more v n

replicate_end : (n : ℕ) → ◌++◌ {A = ℕ} (replicate n 48) (48 ∷ []) ≡ replicate (suc n) 48
replicate_end zero = refl
replicate_end (suc n) = ap (λ t. 48 ∷ t) (replicate_end n)

-- ten times a number prints with one more zero
decimal-ten : (m : ℕ) → 0 < m → m * 10 < 2 ^ 64 → decimal (m * 10) ≡ decimal m ++ 48 ∷ []
decimal-ten m above fits =
    let over : m * 10 / 10 ≡ m = omega arith in
    let rest : m * 10 % 10 ≡ 0 = omega arith in
    decimal_step (m * 10) (omega arith) fits ∙ rw (over, rest) refl

-- a mantissa with n more zeros prints as its digits and n zeros
decimal-zeros : (m n : ℕ) → 0 < m → m * 10 ^ n < 2 ^ 64 → decimal (m * 10 ^ n) ≡ decimal m ++ replicate n 48
decimal-zeros m zero above fits = ap decimal (times_one m) ∙ sym (append-nil (decimal m))
decimal-zeros m (suc n) above fits =
    let e : m * 10 ^ suc n ≡ m * 10 ^ n * 10 = tenfold m n in
    let some : 0 < m * 10 ^ n = one-le-mul above (one-le-pow n 10 (omega arith)) in
    ap decimal e ∙ decimal-ten (m * 10 ^ n) some (omega (arith, e)) ∙ rw (
      decimal-zeros m n above (omega (arith, e)),
      append_assoc (decimal m) (replicate n 48) (48 ∷ []),
      replicate_end n,
    ) refl

digits_number-zeros : (m k : ℕ) → m < 2 ^ 64 → digits_number (decimal m ++ replicate k 48) ≡ m * 10 ^ k
digits_number-zeros m k fits =
    fold-append add_digit 0 (decimal m) (replicate k 48) ∙ ap (λ v. fold add_digit v (replicate k 48))
    (number_decimal m fits) ∙ zeros_after m k

zeros_whole : (m k : ℕ) → 0 < m → m < 2 ^ 64 → IsWholePart (decimal m ++ replicate k 48)
zeros_whole m k above fits =
    let is : IsMantissa m (decimal m) = mantissa m above fits in (
      digits-append (decimal m) (replicate k 48) is.digits (all-zeros k),
      omega (arith, length-append (decimal m) (replicate k 48), is.some),
      λ z. absurd (omega (arith, is.first, get_or_append_left (decimal m) (replicate k 48) 0 0 is.some)),
    )

-- ---- the text

number_text-zeros : (s : Bool) (m k : ℕ) → 0 < m → length (decimal m) + k ≤ 20
    → number_text s m (pos k) ≡ sign_text s ++ (decimal m ++ replicate k 48)
number_text-zeros s m zero above room = number_text-above s m (pos 0) above
    ∙ ap (λ t. sign_text s ++ t) (sym (append-nil (decimal m)))
number_text-zeros s m (suc k) above room =
    number_text-above s m (pos (suc k)) above
    ∙ ap (λ t. sign_text s ++ t) (if-ne (suc k) 0 _ _ (λ z. omega arith)
    ∙ if-le (length (decimal m) + suc k) 20 _ _ room)

zeros_spelled : (s : Bool) (m k : ℕ) → 0 < m → length (decimal m) + k ≤ 20
    → numeral_spelled (numeral s (decimal m ++ replicate k 48) [] None) ≡ number_text s m (pos k)
zeros_spelled s m k above room =
    ap (λ t. minus_spelled (not s) ++ t) (append-nil (decimal m ++ replicate k 48))
    ∙ ap (λ t. t ++ (decimal m ++ replicate k 48)) (minus-is s)
    ∙ sym (number_text-zeros s m k above room)

same_scaled : (s : Bool) (m : ℕ) (e : ℤ) (n : ℕ) (f : ℤ) → (scaled m e == scaled n f) ≡ true
    → same_decimal (parts s m e) (parts s n f) ≡ true
same_scaled true m e n f h = rw h (or-true ((m == 0) && (n == 0)))
same_scaled false m e n f h = rw h (or-true ((m == 0) && (n == 0)))

-- ---- if all zeros are kept

pub zeros_kept : (s : Bool) (m k : ℕ) → 0 < m → m < 2 ^ 64 → length (decimal m) + k ≤ 20 → m * 10 ^ k < 2 ^ 64
    → HasNumeral s m (pos k)
zeros_kept s m k above fits room all =
    let v : ℕ = m * 10 ^ k in
    let some : 0 < v = one-le-mul above (one-le-pow k 10 (omega arith)) in
    let w : List ℕ = decimal m ++ replicate k 48 in
    means_as s m (pos k) (numeral s w [] None) (parts s v (pos 0)) (whole_test w (zeros_whole m k above fits), tt, tt)
    (all_kept (w ++ []) (omega (arith, ap digits_number (append-nil w), digits_number-zeros m k fits, all)), tt)
    (zeros_spelled s m k above room)
    (exact_parts s w [] None v (pos 0) (ap digits_number (append-nil w) ∙ digits_number-zeros m k fits) all refl
    (omega (arith, ints)))
    (same_decimal_equiv.symm (parts s v (pos 0)) (parts s m (pos k))
    ∙ same_scaled s m (pos k) v (pos 0) (sym (scaled-eq-fits m (pos k) v (pos 0) k v (omega arith) refl)
    ∙ eq-eqb v v refl))
    (number_text-above s v (pos 0) some ∙ ap (λ t. sign_text s ++ t) (decimal-zeros m k above all)
    ∙ sym (number_text-zeros s m k above room))

-- ---- if the last zero is dropped

-- one digit of w is dropped
one_dropped : (s : Bool) (w : List ℕ) (u n : ℕ) → kept_len (w ++ []) ≡ n → digits_number (take n (w ++ [])) ≡ u
    → length w ≡ n + 1 → number_of (numeral s w [] None) ≡ parts s u (pos 1)
one_dropped s w u n all value size =
    let one : dropped w [] ≡ 1 = omega (arith, all, size) in
    let none : kept_fraction w [] ≡ 0 = omega (arith, all, size) in
    let inner : (pos (dropped w []) -ℤ pos (kept_fraction w [])) +ℤ pos 0 ≡ pos 1 = rw (one, none) refl in
    rw (not-not s, inner, all, value) refl

-- if only the last digit is dropped, and is 0, none is lost
last_zero : (w prefix : List ℕ) (n : ℕ) → n ≡ length prefix → kept_len w ≡ n → w ≡ prefix ++ 48 ∷ []
    → HoldsOfNone loses_last w
last_zero w prefix n size all split i within = held_if w i within (λ past.
    let len : length w ≡ n + 1 = ap length split ∙ length-append prefix (48 ∷ []) ∙ omega (arith, size) in
    let at : i ≡ length prefix = omega (arith, len, size, all) in
    rw at (ap (λ l. get_or l (length prefix) 0) split ∙ get_or-append_seam prefix 48 [] 0))

pub below_power : (v : ℕ) (ds : List ℕ) → AllDigits ds → fold add_digit v ds < (v + 1) * 10 ^ length ds
below_power v [] all = omega arith
below_power v (c ∷ cs) all =
    let more : add_digit v c + 1 ≤ (v + 1) * 10 = omega (arith, all.0) in
    let step = mul-le-mul_right (10 ^ length cs) more in
    omega (arith, below_power (add_digit v c) cs all.1, step, tenfold (v + 1) (length cs))

mantissa_below : (m : ℕ) → 0 < m → m < 2 ^ 64 → m < 10 ^ length (decimal m)
mantissa_below m above fits =
    let is : IsMantissa m (decimal m) = mantissa m above fits in
    omega (arith, below_power 0 (decimal m) is.digits, is.number)

-- at most 19 digits fit
nineteen_fit : (m d j : ℕ) → m < 10 ^ d → d + suc j ≤ 20 → m * 10 ^ j < 2 ^ 64
nineteen_fit m d j below room =
    let step : (m + 1) * 10 ^ j ≤ 10 ^ d * 10 ^ j = mul-le-mul_right (10 ^ j) (omega (arith, below)) in
    let close : d + j ≤ 19 = omega arith in
    let top : 10 ^ (d + j) ≤ 10 ^ 19 = pow-le-pow_right {n = 10} (omega arith) {i = d + j} {j = 19} close in
    omega (arith, step, top, pow-add 10 d j, one-le-pow j 10 (omega arith))

pub zero_dropped : (s : Bool) (m j : ℕ) → 0 < m → m < 2 ^ 64 → length (decimal m) + suc j ≤ 20 → 2 ^ 64 ≤ m * 10 ^ suc j
    → HasNumeral s m (pos (suc j))
zero_dropped s m j above fits room over =
    let u : ℕ = m * 10 ^ j in
    let some : 0 < u = one-le-mul above (one-le-pow j 10 (omega arith)) in
    let small : u < 2 ^ 64 = nineteen_fit m (length (decimal m)) j (mantissa_below m above fits) room in
    let prefix : List ℕ = decimal m ++ replicate j 48 in
    let w : List ℕ = decimal m ++ replicate (suc j) 48 in
    let n : ℕ = length prefix in
    let split : w ≡ prefix ++ 48 ∷ [] =
    sym (append_assoc (decimal m) (replicate j 48) (48 ∷ []) ∙ ap (λ t. decimal m ++ t) (replicate_end j)) in
    let size : length w ≡ n + 1 = ap length split ∙ length-append prefix (48 ∷ []) in
    let at : take n (w ++ []) ≡ prefix = ap (take n) (append-nil w ∙ split) ∙ take_at prefix (48 ∷ []) n refl in
    let value : digits_number (take n (w ++ [])) ≡ u = ap digits_number at ∙ digits_number-zeros m j fits in
    let whole : digits_number (take (n + 1) (w ++ [])) ≡ m * 10 ^ suc j =
    ap digits_number (ap (take (n + 1)) (append-nil w) ∙ take_all (n + 1) w (omega (arith, size)))
    ∙ digits_number-zeros m (suc j) fits in
    let all : kept_len (w ++ []) ≡ n =
    kept_len-at (w ++ []) n (omega (arith, length-append w [], size)) (omega (arith, value, small))
    (λ _. omega (arith, whole, over)) in
    let prefix_size : n ≡ length (decimal m) + j =
    length-append (decimal m) (replicate j 48) ∙ ap (λ t. length (decimal m) + t) (length-replicate j 48) in
    let shown : decimal u ≡ prefix = decimal-zeros m j above small in
    means_as s m (pos (suc j)) (numeral s w [] None) (parts s u (pos 1))
    (whole_test w (zeros_whole m (suc j) above fits), tt, tt)
    (last_zero (w ++ []) prefix n refl all (append-nil w ∙ split), tt)
    (zeros_spelled s m (suc j) above room) (one_dropped s w u n all value size)
    (same_decimal_equiv.symm (parts s u (pos 1)) (parts s m (pos (suc j)))
    ∙ same_scaled s m (pos (suc j)) u (pos 1) (sym (scaled-eq-fits m (pos (suc j)) u (pos 1) j u (omega arith) refl)
    ∙ eq-eqb u u refl))
    (number_text-zeros s u 1 some (omega (arith, ap length shown, prefix_size))
    ∙ ap (λ t. sign_text s ++ (t ++ 48 ∷ [])) shown
    ∙ ap (λ t. sign_text s ++ t) (sym split) ∙ sym (number_text-zeros s m (suc j) above room))
