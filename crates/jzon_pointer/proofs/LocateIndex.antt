-- A token of more than 20 bytes names no index: its digits make a number above each usize.
use Rattle.std.proofs.Common.{◌≡◌, ◌<◌, ◌≤◌, ◌-◌, ◌+◌, ◌*◌, ◌^◌, ℕ, zero, suc, List, [], ◌∷◌, length, Bool, true, false, not, ◌&&◌, ◌==◌, Some, None, if◌then◌else◌}
use Rattle.std.proofs.Common.{refl, subst, arith, slice_index}
use Rattle.std.proofs.lemmas.Bool.{and_parts, le-ltb}
use Rattle.std.proofs.lemmas.Bool.Decides.{nat_tests}
use Rattle.std.proofs.lemmas.Str.{digit_value_digit}
use Rattle.std.specs.Char.{is_ascii_digit, digit_value}
use Rattle.std.specs.Int.{IsInRange}
use Rattle.std.specs.List.{list_all}
use Rattle.std.specs.Prelude.{nat_lt}
use Rattle.std.specs.Str.Parse.{digits_value, digits_value_after}
use Rattle.jzon_pointer.specs.Pointer.{index_named, is_index}

-- the least number with a digit and j more
abbrev least : ℕ → ℕ
least zero = 1
least (suc j) = 10 * least j

least_after : (ds : List ℕ) (n j : ℕ) → least j ≤ n → least (length ds + j) ≤ digits_value_after 10 n ds
least_after [] n j h =
    let same : j ≡ 0 + j = omega arith in
    subst (λ (k : ℕ). least k ≤ n) same h
least_after (d ∷ ds) n j h =
    let more : 10 * least j ≤ n * 10 + digit_value d = omega (arith, h) in
    let same : length ds + suc j ≡ suc (length ds) + j = omega arith in
    subst (λ (k : ℕ). least k ≤ digits_value_after 10 (n * 10 + digit_value d) ds) same
    (least_after ds (n * 10 + digit_value d) (suc j) more)

least_grows : (k j : ℕ) → least j ≤ least (k + j)
least_grows zero j =
    let same : j ≡ 0 + j = omega arith in
    let least_same : least j ≤ least j = omega arith in
    subst (λ (m : ℕ). least j ≤ least m) same least_same
least_grows (suc k) j =
    let more : least j ≤ 10 * least (k + j) = omega (arith, least_grows k j) in
    let same : suc (k + j) ≡ suc k + j = omega arith in
    subst (λ (m : ℕ). least j ≤ least m) same more

in_range : (c : ℕ) → is_ascii_digit c ≡ true → IsInRange 48 57 c
in_range c h = (grind (arith, nat_tests), grind (arith, nat_tests))

no_zero : (c n : ℕ) → 1 ≤ n → not (nat_lt 1 (suc n) && (c == 48)) ≡ true → 48 ≤ c → 49 ≤ c
no_zero c n many h least = grind (arith, nat_tests)

first_digit : (c : ℕ) (cs : List ℕ) → 1 ≤ length cs → is_index (c ∷ cs) ≡ true → 1 ≤ digit_value c
first_digit c cs many h =
    let parts = and_parts (nat_lt 0 (length (c ∷ cs)) && list_all is_ascii_digit (c ∷ cs))
    (not (nat_lt 1 (length (c ∷ cs)) && (slice_index (c ∷ cs) 0 == 48))) h in
    let digits = and_parts (nat_lt 0 (length (c ∷ cs))) (list_all is_ascii_digit (c ∷ cs)) parts.0 in
    let digit = in_range c (and_parts (is_ascii_digit c) (list_all is_ascii_digit cs) digits.1).0 in
    omega (arith, digit_value_digit c digit, no_zero c (length cs) many parts.1 digit.0)

too_large : (t : List ℕ) → 20 < length t → is_index t ≡ true → 2 ^ 64 ≤ digits_value 10 t
too_large [] many h = absurd (omega arith)
too_large (c ∷ cs) many h =
    let spare : 20 ≤ length cs = omega (arith, many) in
    let first : 1 ≤ digit_value c = first_digit c cs (omega (arith, spare)) h in
    let same : (length cs - 20) + 20 ≡ length cs + 0 = omega (arith, spare) in
    let most : least 20 ≤ least (length cs + 0) =
    subst (λ (j : ℕ). least 20 ≤ least j) same (least_grows (length cs - 20) 20) in
    let grown : least (length cs + 0) ≤ digits_value 10 (c ∷ cs) =
    least_after cs (0 * 10 + digit_value c) 0 (omega (arith, first)) in
    omega (arith, most, grown)

none_by : (i b : Bool) (n : ℕ) → (i ≡ true → b ≡ false) → (if i && b then Some n else None) ≡ None
none_by false b n h = refl
none_by true b n h = rw (h refl) refl

pub long_token : (t : List ℕ) → 20 < length t → index_named t ≡ None
long_token t many =
    none_by (is_index t) (nat_lt (digits_value 10 t) (2 ^ 64)) (digits_value 10 t)
    (λ h. le-ltb (digits_value 10 t) (2 ^ 64) (too_large t many h))
