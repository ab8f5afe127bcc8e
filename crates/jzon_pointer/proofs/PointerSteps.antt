-- The index that a token names.
use Rattle.std.proofs.Common.{◌≡◌, ℕ, ◌^◌, ◌<◌, List, [], ◌∷◌, length, Bool, true, false, not, ◌&&◌, nat_lt, Option}
use Rattle.std.proofs.Common.{None, Some, slice_index, Result, Ok, Err, refl, ap, arith}
use Rattle.std.proofs.Common.{if◌then◌else◌}
use Rattle.std.proofs.lemmas.Bool.{ltb-true, lt-ltb, and_parts}
use Rattle.std.proofs.lemmas.Bool.Decides.{nat_tests}
use Rattle.std.specs.Prelude.{◌==◌}
use Rattle.std.specs.Char.{is_ascii_digit, digit_value}
use Rattle.std.specs.List.{list_all}
use Rattle.std.specs.Result.{result_ok}
use Rattle.std.specs.Str.Parse.{AllDigits, ParsesUnsigned, digits_value, without_leading_plus}
use Rattle.jzon_pointer.specs.Pointer.{is_index, index_named}

digit-small : (c : ℕ) → is_ascii_digit c ≡ true → digit_value c < 10
digit-small c h = grind (arith, nat_tests)

digits_all : (n : List ℕ) → list_all is_ascii_digit n ≡ true → AllDigits 10 n
digits_all [] h = tt
digits_all (c ∷ cs) h = let both =
    and_parts (is_ascii_digit c) (list_all is_ascii_digit cs) h in (digit-small c both.0, digits_all cs both.1)

no_plus : (n : List ℕ) → list_all is_ascii_digit n ≡ true → without_leading_plus n ≡ n
no_plus [] h = refl
no_plus (c ∷ cs) h =
    let digit : is_ascii_digit c ≡ true = (and_parts (is_ascii_digit c) (list_all is_ascii_digit cs) h).0 in
    let other : (c == 43) ≡ false = grind (arith, nat_tests) in
    rw other refl

refused : (b : Bool) (v : ℕ) → (b ≡ true → ⊥) → ◌≡◌ {A = Option ℕ} None (if b then Some v else None)
refused true v h = absurd (h refl)
refused false v h = refl

pub index_read : {E : Type 0} (n : List ℕ) (r : Result ℕ E) → is_index n ≡ true → ParsesUnsigned 64 10 n r
    → result_ok r ≡ index_named n
index_read n (Ok v) h p =
    let last = and_parts _ (not (nat_lt 1 (length n) && (slice_index n 0 == 48))) h in
    let digits : list_all is_ascii_digit n ≡ true =
    (and_parts (nat_lt 0 (length n)) (list_all is_ascii_digit n) last.0).1 in
    let read = rw (no_plus n digits) at p in
    rw (h, lt-ltb (digits_value 10 n) (2 ^ 64) read.0.1) (ap (λ (k : ℕ). Some k) read.1)
index_read n (Err e) h p =
    let last = and_parts _ (not (nat_lt 1 (length n) && (slice_index n 0 == 48))) h in
    let first = and_parts (nat_lt 0 (length n)) (list_all is_ascii_digit n) last.0 in
    let none = rw (no_plus n first.1) at p in
    refused (is_index n && nat_lt (digits_value 10 n) (2 ^ 64)) (digits_value 10 n)
    (λ all. none (
      (ltb-true 0 (length n) first.0, digits_all n first.1),
      ltb-true (digits_value 10 n) (2 ^ 64) (and_parts (is_index n) _ all).1,
    ))
