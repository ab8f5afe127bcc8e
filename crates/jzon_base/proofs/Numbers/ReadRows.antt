-- What some digits mean (docs/RULES.md, "Numbers"), computed from the definitions.
use Rattle.jzon_base.proofs.Common.{◌≡◌, ℕ, ℤ, pos, negsuc, ◌-◌, ◌≤◌, ◌+ℤ◌, ◌-ℤ◌, Bool, true, false, List, [], ◌++◌}
use Rattle.jzon_base.proofs.Common.{length, take, replicate, codes, refl, ap, lit<, lit≤, arith, ints, clamps}
use Rattle.jzon_base.specs.Decimal.{parts}
use Rattle.jzon_base.specs.Digits.{digits_number, kept_len, dropped, kept_fraction, clamp, number_read}
use Rattle.jzon_base.proofs.Numbers.DigitPrefixes.{kept_len-at}

-- ---- digits that are read

fraction_digits_dropped : number_read true (codes "2") (codes "22507385850720113605740979670913197593481954635164564")
    (negsuc 307) ≡ parts true 2225073858507201136 (negsuc 325)
unfolding kept_len
fraction_digits_dropped = refl

small_digit_dropped : number_read true (codes "184467440737095516165") [] (pos 0)
    ≡ parts true 1844674407370955161 (pos 2)
unfolding kept_len
small_digit_dropped = refl

clamped_once : number_read true (codes "1") (codes "2") (pos 32768) ≡ parts true 12 (pos 32767)
unfolding kept_len
clamped_once = refl

sixty_nines : number_read true (codes "1") [] (pos (digits_number (replicate 60 57))) ≡ parts true 1 (pos 32767)
unfolding kept_len
sixty_nines = refl

any_large_exponent : (n : ℕ) → 32767 ≤ n → number_read true (codes "1") [] (pos n) ≡ parts true 1 (pos 32767)
unfolding kept_len
any_large_exponent n h = ap (parts true 1) (omega (arith, ints, clamps))

any_small_exponent : (n : ℕ) → 32767 ≤ n → number_read true (codes "1") [] (negsuc n) ≡ parts true 1 (negsuc 32767)
unfolding kept_len
any_small_exponent n h = ap (parts true 1) (omega (arith, ints, clamps))

least_exponent : number_read true (codes "1") [] (negsuc 32767) ≡ parts true 1 (negsuc 32767)
unfolding kept_len
least_exponent = refl

below_least_exponent : number_read true (codes "1") [] (negsuc 32768) ≡ parts true 1 (negsuc 32767)
unfolding kept_len
below_least_exponent = refl

greatest_mantissa : number_read true (codes "18446744073709551615") (codes "5") (pos 0)
    ≡ parts true 18446744073709551615 (pos 0)
unfolding kept_len
greatest_mantissa = refl

zero_keeps_exponent : number_read true (codes "0") [] (pos 5) ≡ parts true 0 (pos 5)
unfolding kept_len
zero_keeps_exponent = refl

zeros_keep_places : number_read false (codes "12") (codes "50") (pos 3) ≡ parts false 1250 (pos 1)
unfolding kept_len
zeros_keep_places = refl

last_zero_dropped : number_read true (codes "50000000000000000000") [] (pos 0) ≡ parts true 5000000000000000000 (pos 1)
unfolding kept_len
last_zero_dropped = refl

-- ---- many digits

-- the number if the first k digits are kept
number_read-at : (positive : Bool) (whole fraction : List ℕ) (written : ℤ) (k : ℕ) → kept_len (whole ++ fraction) ≡ k
    → number_read positive whole fraction written ≡ parts positive (digits_number (take k (whole ++ fraction)))
    (clamp ((pos (length whole - k) -ℤ pos (k - length whole)) +ℤ written))
number_read-at positive whole fraction written k e = rw e refl

dropped-at : (whole fraction : List ℕ) (k : ℕ) → kept_len (whole ++ fraction) ≡ k
    → dropped whole fraction ≡ length whole - k
dropped-at whole fraction k e = rw e refl

most_kept_zeros : number_read true (codes "0") (replicate 32768 48) (pos 0) ≡ parts true 0 (negsuc 32767)
unfolding kept_len
most_kept_zeros = refl

most_kept_zeros_and_exponent : number_read true (codes "0") (replicate 32768 48) (pos 32768) ≡ parts true 0 (pos 0)
unfolding kept_len
most_kept_zeros_and_exponent = refl

one_after_most_zeros : number_read true (codes "0") (replicate 32767 48 ++ codes "1") (pos 0)
    ≡ parts true 1 (negsuc 32767)
unfolding kept_len
one_after_most_zeros = refl

one_zero_too_many : kept_fraction (codes "0") (replicate 32769 48) ≡ 32769
unfolding kept_len
one_zero_too_many = refl

eight_and_zeros : kept_len (codes "8" ++ replicate 32785 48) ≡ 19
eight_and_zeros = kept_len-at (codes "8" ++ replicate 32785 48) 19 (lit≤ tt) (lit< tt) (λ _. lit≤ tt)

most_dropped : number_read true (codes "8" ++ replicate 32785 48) [] (pos 0)
    ≡ parts true 8000000000000000000 (pos 32767)
most_dropped = number_read-at true (codes "8" ++ replicate 32785 48) [] (pos 0) 19 eight_and_zeros

most_dropped_and_one_power : number_read true (codes "8" ++ replicate 32785 48) [] (pos 1)
    ≡ parts true 8000000000000000000 (pos 32767)
most_dropped_and_one_power = number_read-at true (codes "8" ++ replicate 32785 48) [] (pos 1) 19 eight_and_zeros

most_dropped_and_as_many_places : number_read true (codes "8" ++ replicate 32785 48) [] (negsuc 32766)
    ≡ parts true 8000000000000000000 (pos 0)
most_dropped_and_as_many_places = number_read-at true (codes "8" ++ replicate 32785 48) [] (negsuc 32766) 19
    eight_and_zeros

one_dropped_too_many : dropped (codes "8" ++ replicate 32786 48) [] ≡ 32768
one_dropped_too_many = dropped-at (codes "8" ++ replicate 32786 48) [] 19
    (kept_len-at (codes "8" ++ replicate 32786 48) 19 (lit≤ tt) (lit< tt) (λ _. lit≤ tt))

fraction_nines_dropped : number_read true (codes "9") (replicate 40000 57) (pos 0)
    ≡ parts true 9999999999999999999 (negsuc 17)
fraction_nines_dropped = number_read-at true (codes "9") (replicate 40000 57) (pos 0) 19
    (kept_len-at (codes "9" ++ replicate 40000 57) 19 (lit≤ tt) (lit< tt) (λ _. lit≤ tt))

too_many_zeros : kept_fraction (codes "0") (replicate 40000 48) ≡ 40000
unfolding kept_len
too_many_zeros = refl
