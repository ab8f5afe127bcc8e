-- The leading digits of a text, as they are accumulated.
use Rattle.jzon_base.proofs.Common.{◌≡◌, ℕ, zero, suc, ◌+◌, ◌-◌, ◌*◌, ◌^◌, ◌%◌, ◌≤◌, true, List, [], ◌∷◌, ◌++◌, length}
use Rattle.jzon_base.proofs.Common.{take, drop, refl, ap, sym, ◌∙◌, arith, pow-suc, is_ascii_digit, fold, prefix_len}
use Rattle.jzon_base.proofs.Common.{take_while, All, mul-mod_first, length-drop, length-take, take_rest, All-head}
use Rattle.jzon_base.proofs.Common.{All-tail, nat_tests, fold-append, prefix_len-le-length}
use Rattle.std.proofs.Math.Nat.{add-mod, mod-mod}
use Rattle.std.proofs.lemmas.List.Sums.{take_while-cons}
use Rattle.jzon_base.proofs.Strings.PlainBlocks.{goes_past}
use Rattle.jzon_base.specs.Digits.{IsDigit, add_digit, digits_number}

value_after : (n : ℕ) (ds : List ℕ) → fold add_digit n ds ≡ n * 10 ^ length ds + digits_number ds
value_after n [] = omega arith
value_after n (c ∷ cs) =
    let a = value_after (n * 10 + (c - 48)) cs in
    let b = value_after (0 * 10 + (c - 48)) cs in
    omega (arith, ap (λ x. n * x) (pow-suc 10 (length cs)))

-- the number with more digits, if its remainder is known
more_digits : (n v m : ℕ) (ds : List ℕ) → v ≡ n % m
    → (v * 10 ^ length ds % m + digits_number ds) % m ≡ fold add_digit n ds % m
more_digits n v m ds h =
    let shift : ℕ = 10 ^ length ds in
    let value : ℕ = digits_number ds in
    let known : v * shift % m ≡ n * shift % m = ap (λ x. x * shift % m) h ∙ mul-mod_first n shift m in
    ap (λ x. (x + value) % m) known ∙ added (n * shift) value m ∙ ap (λ x. x % m) (sym (value_after n ds))
  where
    added : (a b m : ℕ) → (a % m + b) % m ≡ (a + b) % m
    added a b m = add-mod (a % m) b m ∙ ap (λ x. (x + b % m) % m) (mod-mod a m) ∙ sym (add-mod a b m)

take_nil : (n : ℕ) → take {A = ℕ} n [] ≡ []
take_nil zero = refl
take_nil (suc n) = refl

take_sum : (m n : ℕ) (xs : List ℕ) → take (m + n) xs ≡ take m xs ++ take n (drop m xs)
take_sum zero n xs = ap (λ k. take k xs) {y = n} (omega arith)
take_sum (suc m) n [] = take_nil (suc m + n) ∙ sym (take_nil n)
take_sum (suc m) n (x ∷ xs) =
    ap (λ k. take k (x ∷ xs)) {y = suc (m + n)} (omega arith) ∙ ap (λ (l : List ℕ). x ∷ l) (take_sum m n xs)

-- The bytes before `at` are digits, and `number` is what they spell when appended to `before`, modulo 2 ^ 64.
pub record HasScanned (bytes : List ℕ) (before at number : ℕ) : Type 0 where
  pub within : at ≤ length bytes
  pub count : prefix_len is_ascii_digit bytes ≡ at + prefix_len is_ascii_digit (drop at bytes)
  pub number_is : (n : ℕ) → before ≡ n % 2 ^ 64 → number ≡ fold add_digit n (take at bytes) % 2 ^ 64

pub number_more : (bytes : List ℕ) (before at number count next : ℕ) → HasScanned bytes before at number
    → at + count ≤ length bytes → next ≡ digits_number (take count (drop at bytes)) → (n : ℕ) → before ≡ n % 2 ^ 64
    → (number * 10 ^ count % 2 ^ 64 + next) % 2 ^ 64 ≡ fold add_digit n (take (at + count) bytes) % 2 ^ 64
number_more bytes before at number count next scanned room is n given =
    let ds = take count (drop at bytes) in
    let long : length ds ≡ count = omega (arith, length-take count (drop at bytes), length-drop at bytes) in
    let more = rw long at
    (more_digits (fold add_digit n (take at bytes)) number (2 ^ 64) ds (scanned.number_is n given)) in
    ap (λ x. (number * 10 ^ count % 2 ^ 64 + x) % 2 ^ 64) is ∙ more
    ∙ ap (λ x. x % 2 ^ 64) (sym (fold-append add_digit n (take at bytes) ds))
    ∙ ap (λ l. fold add_digit n l % 2 ^ 64) (sym (take_sum at count bytes))

-- a block of n digits
pub scanned_block : (bytes : List ℕ) (before at number n count next : ℕ) → HasScanned bytes before at number
    → at + n ≤ length bytes → count ≡ prefix_len is_ascii_digit (take n (drop at bytes)) → n ≤ count
    → next ≡ digits_number (take count (drop at bytes))
    → HasScanned bytes before (at + count) ((number * 10 ^ count % 2 ^ 64 + next) % 2 ^ 64)
scanned_block bytes before at number n count next scanned room counted all is =
    let block = take n (drop at bytes) in
    let same : n ≡ count = omega (arith, prefix_len-le-length is_ascii_digit block, length-take n (drop at bytes)) in
    record {
      within = omega arith;
      count = rw same at (goes_past is_ascii_digit bytes at n count room counted all scanned.count);
      number_is = number_more bytes before at number count next scanned (omega arith) is;
    }

-- and the rest of the bytes
pub number_rest : (bytes : List ℕ) (before at number count last : ℕ) → HasScanned bytes before at number
    → ((n : ℕ) → number ≡ n % 2 ^ 64
    → last ≡ fold add_digit n (take count (take (length bytes - at) (drop at bytes))) % 2 ^ 64)
    → (n : ℕ) → before ≡ n % 2 ^ 64 → last ≡ fold add_digit n (take (at + count) bytes) % 2 ^ 64
number_rest bytes before at number count last scanned rest n given =
    let known = fold add_digit n (take at bytes) in
    rest known (scanned.number_is n given)
    ∙ ap (λ l. fold add_digit known (take count l) % 2 ^ 64) (take_rest bytes at)
    ∙ ap (λ x. x % 2 ^ 64) (sym (fold-append add_digit n (take at bytes) (take count (drop at bytes))))
    ∙ ap (λ l. fold add_digit n l % 2 ^ 64) (sym (take_sum at count bytes))

is_digit : (d : ℕ) → IsDigit d → is_ascii_digit d ≡ true
is_digit d h = grind (arith, nat_tests)

-- in a list of digits all are leading digits
pub all_scanned : (ds : List ℕ) → All IsDigit ds → take_while is_ascii_digit ds ≡ ds
all_scanned [] all = refl
all_scanned (d ∷ ds) all =
    rw (take_while-cons is_ascii_digit d ds, is_digit d (All-head IsDigit d ds all))
    (ap (λ (xs : List ℕ). d ∷ xs) (all_scanned ds (All-tail IsDigit d ds all)))
