-- The texts of some numbers (docs/RULES.md, "Printed numbers"), computed from the definition.
use Rattle.jzon_base.proofs.Common.{◌≡◌, pos, negsuc, true, false, codes, refl, digits}
use Rattle.jzon_base.specs.NumberText.{number_text}

zero : number_text true 0 (pos 100) ≡ codes "0"
unfolding digits
zero = refl

minus_zero : number_text false 0 (negsuc 99) ≡ codes "-0"
unfolding digits
minus_zero = refl

whole_part_zero : number_text true 5 (negsuc 1) ≡ codes "0.05"
unfolding digits
whole_part_zero = refl

zero_kept : number_text true 100 (negsuc 0) ≡ codes "10.0"
unfolding digits
zero_kept = refl

fifteen_places : number_text true 3141592653589793 (negsuc 14) ≡ codes "3.141592653589793"
unfolding digits
fifteen_places = refl

seventeen_places : number_text true 1 (negsuc 16) ≡ codes "0.00000000000000001"
unfolding digits
seventeen_places = refl

eighteen_places : number_text true 1 (negsuc 17) ≡ codes "1e-18"
unfolding digits
eighteen_places = refl

eighteen_places_of_more_digits : number_text true 4750000000000001 (negsuc 17) ≡ codes "4.750000000000001e-3"
unfolding digits
eighteen_places_of_more_digits = refl

thirty_one_places : number_text true 3141592653589793 (negsuc 30) ≡ codes "3.141592653589793e-16"
unfolding digits
thirty_one_places = refl

least_exponent : number_text true 1 (negsuc 32767) ≡ codes "1e-32768"
unfolding digits
least_exponent = refl

twenty_digits : number_text true 1 (pos 19) ≡ codes "10000000000000000000"
unfolding digits
twenty_digits = refl

twenty_one_digits : number_text true 1 (pos 20) ≡ codes "1e20"
unfolding digits
twenty_one_digits = refl

twenty_digits_of_five : number_text true 5 (pos 19) ≡ codes "50000000000000000000"
unfolding digits
twenty_digits_of_five = refl

seventy_one_digits : number_text true 7 (pos 70) ≡ codes "7e70"
unfolding digits
seventy_one_digits = refl

fifty_one_digits : number_text true 3141592653589793 (pos 35) ≡ codes "3.141592653589793e50"
unfolding digits
fifty_one_digits = refl

greatest_exponent : number_text true 18446744073709551615 (pos 32767) ≡ codes "1.8446744073709551615e32786"
unfolding digits
greatest_exponent = refl

twenty_digits_over_eighteen_places : number_text true 10000000000000000001 (negsuc 17)
    ≡ codes "1.0000000000000000001e+1"
unfolding digits
twenty_digits_over_eighteen_places = refl

twenty_digits_over_nineteen_places : number_text true 10000000000000000001 (negsuc 18) ≡ codes "1.0000000000000000001"
unfolding digits
twenty_digits_over_nineteen_places = refl

longest : number_text false 18446744073709551615 (negsuc 32767) ≡ codes "-1.8446744073709551615e-32749"
unfolding digits
longest = refl

digits_dropped : number_text true 1844674407370955161 (pos 2) ≡ codes "1.844674407370955161e20"
unfolding digits
digits_dropped = refl

exponent_past_sixteen_bits : number_text true 12 (pos 32767) ≡ codes "1.2e32768"
unfolding digits
exponent_past_sixteen_bits = refl

zeros_before_the_point : number_text false 1250 (pos 1) ≡ codes "-12500"
unfolding digits
zeros_before_the_point = refl

zeros_after_the_point : number_text true 100 (negsuc 1) ≡ codes "1.00"
unfolding digits
zeros_after_the_point = refl

nineteen_nines : number_text true 9999999999999999999 (negsuc 17) ≡ codes "9.999999999999999999"
unfolding digits
nineteen_nines = refl

twenty_digits_read_back : number_text true 5000000000000000000 (pos 1) ≡ codes "50000000000000000000"
unfolding digits
twenty_digits_read_back = refl
