-- The number of spaces that an argument names.
use Rattle.std.proofs.Common.{◌≡◌, ℕ, ◌^◌, ◌≤◌, List, [], ◌∷◌, length, Bool, true, false, ◌==◌}
use Rattle.std.proofs.Common.{nat_lt, nat_le, Option, Some, None, Result, Ok, Err, refl, ap}
use Rattle.std.proofs.Common.{if◌then◌else◌}
use Rattle.std.proofs.lemmas.Bool.{ltb-true, lt-ltb, le-leb, and_parts}
use Rattle.std.specs.Char.{is_digit, digit_value}
use Rattle.std.specs.List.{list_all, slice_index, slice_get}
use Rattle.std.specs.Option.{option_eq}
use Rattle.std.specs.Result.{result_ok}
use Rattle.std.specs.Str.Parse.{AllDigits, ParsesUnsigned, digits_value, without_leading_plus}
use Rattle.jzonfmt.specs.Drive.{asked_spaces}

-- digits, by a test for digits
all_digits : (n : List ℕ) → AllDigits 10 n → list_all (λ c. is_digit c 10) n ≡ true
all_digits [] h = refl
all_digits (c ∷ cs) h = rw (lt-ltb (digit_value c) 10 h.0) (all_digits cs h.1)

digits_all : (n : List ℕ) → list_all (λ c. is_digit c 10) n ≡ true → AllDigits 10 n
digits_all [] h = tt
digits_all (c ∷ cs) h = let both = and_parts (is_digit c 10) (list_all (λ d. is_digit d 10) cs) h in
    (ltb-true (digit_value c) 10 both.0, digits_all cs both.1)

plain : (n : List ℕ) → (slice_index n 0 == 43) ≡ false → without_leading_plus n ≡ n
plain n h = rw h refl

not_plus : (n : List ℕ) (first : Option ℕ) → first ≡ slice_get n 0 → option_eq (λ x y. x == y) first (Some 43) ≡ false
    → (slice_index n 0 == 43) ≡ false
not_plus [] first e h = refl
not_plus (c ∷ cs) first e h = rw e at h

refused : (b : Bool) (v : ℕ) → (b ≡ true → ⊥) → ◌≡◌ {A = Option ℕ} None (if b then Some v else None)
refused true v h = absurd (h refl)
refused false v h = refl

-- the number parsed from an argument of at most five bytes that doesn't begin with `+` is the one that the argument
-- names
pub spaces_read : {E : Type 0} (n : List ℕ) (first : Option ℕ) (r : Result ℕ E) → length n ≤ 5 → first ≡ slice_get n 0
    → option_eq (λ x y. x == y) first (Some 43) ≡ false
    → ParsesUnsigned 16 10 n r → result_ok r ≡ asked_spaces n
spaces_read n first (Ok v) short e other h =
    let read = rw (plain n (not_plus n first e other)) at h in
    rw (
      lt-ltb 0 (length n) read.0.0.0,
      le-leb (length n) 5 short,
      all_digits n read.0.0.1,
      lt-ltb (digits_value 10 n)
          (2 ^ 16) read.0.1,
    ) (ap (λ (k : ℕ). Some k) read.1)
spaces_read n first (Err e) short f other h =
    let none = rw (plain n (not_plus n first f other)) at h in
    refused _ (digits_value 10 n) (λ all.
    let last = and_parts _ (nat_lt (digits_value 10 n) (2 ^ 16)) all in
    let digits = and_parts _ (list_all (λ c. is_digit c 10) n) last.0 in
    let within = and_parts (nat_lt 0 (length n)) (nat_le (length n) 5) digits.0 in
    none ((ltb-true 0 (length n) within.0, digits_all n digits.1), ltb-true (digits_value 10 n) (2 ^ 16) last.1))
