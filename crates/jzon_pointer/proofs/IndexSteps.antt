-- The token of an index is its decimal text.
use Rattle.std.proofs.Common.{◌≡◌, ◌<◌, ◌^◌, ℕ, zero, suc, List, [], ◌∷◌, length, get_or, true, false, ◌&&◌, ◌==◌, nat_lt, Some, option_and_then, slice_get, slice_index}
use Rattle.std.proofs.Common.{refl, ap, ◌∙◌, arith, ne_eqb}
use Rattle.std.proofs.lemmas.Bool.{lt-ltb}
use Rattle.std.proofs.lemmas.Bool.Decides.{nat_tests}
use Rattle.std.proofs.Math.Bool.{and-false}
use Rattle.std.proofs.lemmas.Option.{none-some}
use Rattle.std.proofs.lemmas.Fmt.{decimal_is_IsNumeral, decimal_nonempty, decimal_digit, first_decimal}
use Rattle.std.proofs.lemmas.Str.Parse.{digit_at, digit_from_value}
use Rattle.std.specs.Char.{is_ascii_digit}
use Rattle.std.specs.Fmt.{decimal}
use Rattle.std.specs.Int.{IsInRange}
use Rattle.std.specs.List.{list_all}
use Rattle.std.specs.Str.Parse.{AllDigits}
use Rattle.jzon.specs.Readers.{items}
use Rattle.jzon.specs.Value.{Value, null, boolean, text, number, array, object, list_of_values}
use Rattle.jzon_pointer.specs.Pointer.{child_of, index_named, is_index}
use Rattle.jzon_pointer.proofs.TokenSteps.{Lacks}

digit_test : (c : ℕ) → IsInRange 48 57 c → is_ascii_digit c ≡ true
digit_test c h = grind (arith, nat_tests)

digits_test : (ds : List ℕ) → AllDigits 10 ds → list_all is_ascii_digit ds ≡ true
digits_test [] h = refl
digits_test (c ∷ cs) (d, ds) = rw (digit_test c (digit_from_value c d), digits_test cs ds) refl

no_zero_by : (ds : List ℕ) → 48 < get_or ds 0 0 → (slice_index ds 0 == 48) ≡ false
no_zero_by [] h = absurd (omega arith)
no_zero_by (c ∷ cs) h = ne_eqb c 48 (omega arith)

no_leading_zero : (n : ℕ) → n < 2 ^ 64
    → (nat_lt 1 (length (decimal n)) && (slice_index (decimal n) 0 == 48)) ≡ false
no_leading_zero zero small = rw (decimal_digit 0 (omega arith)) refl
no_leading_zero (suc n) small =
    rw (no_zero_by (decimal (suc n)) (first_decimal (suc n) (omega arith) small))
    (and-false (nat_lt 1 (length (decimal (suc n)))))

index_text : (n : ℕ) → n < 2 ^ 64 → is_index (decimal n) ≡ true
index_text n small =
    let whole = decimal_is_IsNumeral n small in
    rw (
      lt-ltb 0 (length (decimal n)) (decimal_nonempty n small),
      digits_test (decimal n) whole.0.1,
      no_leading_zero n small,
    ) refl

pub index-named : (n : ℕ) → n < 2 ^ 64 → index_named (decimal n) ≡ Some n
index-named n small =
    let whole = decimal_is_IsNumeral n small in
    rw (index_text n small, whole.1, lt-ltb n (2 ^ 64) small) refl

pub lacks-decimal : (n : ℕ) → n < 2 ^ 64 → Lacks 47 (decimal n)
lacks-decimal n small =
    let whole = decimal_is_IsNumeral n small in
    λ i less. let digit = digit_at (decimal n) i whole.0.1 less in omega arith

pub index-child : (n : ℕ) (v w : Value) → n < 2 ^ 64 → slice_get (items v) n ≡ Some w
    → child_of v (decimal n) ≡ Some w
index-child n null w small h = absurd (none-some w h)
index-child n (boolean b) w small h = absurd (none-some w h)
index-child n (text s t) w small h = absurd (none-some w h)
index-child n (number d) w small h = absurd (none-some w h)
index-child n (object ps) w small h = absurd (none-some w h)
index-child n (array vs) w small h =
    ap (option_and_then (λ i. slice_get (list_of_values vs) i)) (index-named n small) ∙ h
