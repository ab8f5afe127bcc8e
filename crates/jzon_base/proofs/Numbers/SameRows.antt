-- Equality of some numbers (docs/RULES.md, "Numbers"), computed from the definition.
use Rattle.jzon_base.proofs.Common.{◌≡◌, pos, negsuc, true, false, refl}
use Rattle.jzon_base.specs.Decimal.{nan, parts, same_decimal, scaled}

greatest_exponent : same_decimal (parts true 10 (pos 32767)) (parts true 100 (pos 32766)) ≡ true
unfolding scaled
greatest_exponent = refl

greatest_exponent_apart : same_decimal (parts true 10 (pos 32767)) (parts true 1 (pos 32767)) ≡ false
unfolding scaled
greatest_exponent_apart = refl

signs_of_zero : same_decimal (parts false 0 (pos 7)) (parts true 0 (pos 0)) ≡ true
unfolding scaled
signs_of_zero = refl

nan_and_nan : same_decimal nan nan ≡ true
unfolding scaled
nan_and_nan = refl

nan_and_zero : same_decimal nan (parts false 0 (pos 0)) ≡ false
unfolding scaled
nan_and_zero = refl

twenty_powers_and_one : same_decimal (parts true 1 (pos 20)) (parts true 1 (pos 0)) ≡ false
unfolding scaled
twenty_powers_and_one = refl

five_hundred : same_decimal (parts true 5 (pos 2)) (parts true 500 (pos 0)) ≡ true
unfolding scaled
five_hundred = refl

one_place : same_decimal (parts true 1 (pos 0)) (parts true 10 (negsuc 0)) ≡ true
unfolding scaled
one_place = refl

read_back : same_decimal (parts true 5000000000000000000 (pos 1)) (parts true 5 (pos 19)) ≡ true
unfolding scaled
read_back = refl

signs_of_one : same_decimal (parts true 1 (pos 0)) (parts false 1 (pos 0)) ≡ false
unfolding scaled
signs_of_one = refl
