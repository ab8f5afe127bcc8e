-- The leading digits of eight bytes: how many they are, and their word.
use Rattle.jzon_base.proofs.Common.{◌≡◌, ℕ, zero, suc, ◌+◌, ◌-◌, ◌*◌, ◌%◌, ◌^◌, ◌<◌, ◌≤◌, Bool, true, false, not, cond}
use Rattle.jzon_base.proofs.Common.{ltb, eqb, List, [], ◌∷◌, ◌++◌, length, take, drop, map, replicate, Fits, w8, refl}
use Rattle.jzon_base.proofs.Common.{sym, ap, ◌∙◌, arith, pow-suc, is_ascii_digit, fold, prefix_len, All, agree_below_at}
use Rattle.jzon_base.proofs.Common.{cond-true, cond-false, eq-eqb, ne_eqb, nat_tests, length-map, length-take}
use Rattle.jzon_base.proofs.Common.{one-le-pow, mul-le-mul_right, prefix_len-le-length, All-append, All-cons, All-nil}
use Rattle.jzon_base.proofs.Common.{first_set_mask_l, map-map, mask_l-mod, zip2_splat}
use Rattle.std.proofs.Common.{w64}
use Rattle.std.specs.Int.{from_le_bytes}
use Rattle.std.proofs.lemmas.Bool.{eqb-true}
use Rattle.std.proofs.lemmas.List.{length-append, take-map}
use Rattle.std.proofs.Math.Nat.{pos_of_ne-zero}
use Rattle.std.proofs.lemmas.List.Elements.{All-replicate}
use Rattle.std.proofs.lemmas.Nat.{mod-mul-add, pow-add}
use Rattle.std.proofs.lemmas.Nat.Bits.{bit_at-trailing_zeros, bit_at_above}
use Rattle.std.proofs.lemmas.Simd.{length-replicate, mask_l-lt}
use Rattle.std.proofs.lemmas.Simd.{zip2_splat_left}
use lib.Count.{count_trailing_zeros}
use lib.Lanes.{Each1, mask_l, number_l, top, zip2}
use Rattle.jzon_base.specs.Digits.{add_digit, digits_number, add_value, values_number}
use Rattle.jzon_base.proofs.Strings.PlainBlocks.{same_run}

-- a byte minus that of `0`, in the eight bits of a lane
abbrev less : ℕ → ℕ → ℕ
less a b = (a + (2 ^ 8 - b)) % 2 ^ 8

abbrev pub value_of : ℕ → ℕ
value_of x = less x 48

abbrev below : ℕ → ℕ → ℕ
below a b = cond (ltb a b) 255 0

abbrev stops : ℕ → Bool
stops x = top 7 (below 9 (value_of x))

-- the values of eight bytes, and the mask of those that aren't digits
abbrev pub lanes : List ℕ → List ℕ
lanes xs = zip2 less xs (replicate 8 48)

abbrev pub others : List ℕ → ℕ
others xs = mask_l (map (top 7) (zip2 below (replicate 8 9) (lanes xs))) % 2 ^ 64

lanes_are : (xs : List ℕ) → length xs ≡ 8 → lanes xs ≡ map value_of xs
lanes_are xs long = zip2_splat less xs 8 48 long

others_are : (xs : List ℕ) → length xs ≡ 8 → others xs ≡ mask_l (map stops xs)
others_are xs long =
    let compared = ap (zip2 below (replicate 8 9)) (lanes_are xs long)
    ∙ zip2_splat_left below 9 8 (map value_of xs) (length-map xs value_of ∙ long)
    ∙ map-map (below 9) value_of xs in
    ap (λ l. mask_l (map (top 7) l) % 2 ^ 64) compared
    ∙ ap (λ l. mask_l l % 2 ^ 64) (map-map (top 7) (λ x. below 9 (value_of x)) xs)
    ∙ mask_l-mod (map stops xs) 64 (omega (arith, length-map xs stops, long))

counted : (xs : List ℕ) → length xs ≡ 8 → Each1 (Fits w8) xs
    → cond (eqb (others xs) 0) 8 (count_trailing_zeros 64 (others xs)) ≡ prefix_len is_ascii_digit xs
counted xs long fits =
    ap (λ m. cond (eqb m 0) 8 (count_trailing_zeros 64 m)) (others_are xs long)
    ∙ first_set_mask_l stops xs 8 long (omega arith)
    ∙ same_run (λ x. not (stops x)) is_ascii_digit xs refl fits

-- if no lane is above nine, all eight are digits
pub all_eight : (xs : List ℕ) → length xs ≡ 8 → Each1 (Fits w8) xs → others xs ≡ 0 → 8 ≡ prefix_len is_ascii_digit xs
all_eight xs long fits none = sym (cond-true _ _ _ (eq-eqb _ _ none)) ∙ counted xs long fits

-- otherwise the first lane above nine ends the run
pub first_other : (xs : List ℕ) → length xs ≡ 8 → Each1 (Fits w8) xs → (others xs ≡ 0 → ⊥)
    → count_trailing_zeros 64 (others xs) ≡ prefix_len is_ascii_digit xs
first_other xs long fits some = sym (cond-false _ _ _ (ne_eqb _ _ some)) ∙ counted xs long fits

near : (t b : ℕ) → b ≡ 1 → (8 ≤ t → b ≡ 0) → t < 8
near t b one far = grind arith

pub first_below : (xs : List ℕ) → length xs ≡ 8 → (others xs ≡ 0 → ⊥) → count_trailing_zeros 64 (others xs) < 8
first_below xs long some =
    let eight : length (map stops xs) ≡ 8 = length-map xs stops ∙ long in
    let small : others xs < 2 ^ 8 = rw (others_are xs long) (rw eight at (mask_l-lt (map stops xs))) in
    let lowest = bit_at-trailing_zeros w64 (others xs) (pos_of_ne-zero some) (omega arith) in
    near _ _ lowest.1 (λ far. bit_at_above (others xs) 8 (count_trailing_zeros 64 (others xs)) small far)

-- ---- the word of eight lanes

pub word_is : (xs : List ℕ) → length xs ≡ 8 → from_le_bytes w64 xs ≡ number_l 256 xs
word_is (a ∷ b ∷ c ∷ d ∷ e ∷ f ∷ g ∷ h ∷ []) long = omega arith
word_is _ long = absurd (omega arith)

digit_value : (x : ℕ) → is_ascii_digit x ≡ true → (value_of x < 10) × (value_of x ≡ x - 48)
digit_value x h =
    let bounds : (48 ≤ x) × (x ≤ 57) = grind (arith, nat_tests) in
    (omega arith, omega arith)

record AreDigits (xs : List ℕ) (n : ℕ) : Type 0 where
  small : All (λ d. d < 10) (map value_of (take n xs))
  worth : (v : ℕ) → fold add_value v (map value_of (take n xs)) ≡ fold add_digit v (take n xs)
  fits : number_l 256 (map value_of (take n xs)) < 256 ^ n

-- the lanes of the leading digits are the digits' values
are_digits : (xs : List ℕ) (n : ℕ) → n ≤ prefix_len is_ascii_digit xs → AreDigits xs n
are_digits xs zero h = record { small = All-nil (λ d. d < 10); worth = λ v. refl; fits = omega arith }
are_digits [] (suc n) h = absurd (omega arith)
are_digits (x ∷ xs) (suc n) h = go (are_digits xs n) (is_ascii_digit x) refl h
  where
    go : (n ≤ prefix_len is_ascii_digit xs → AreDigits xs n) → (b : Bool) → is_ascii_digit x ≡ b
        → suc n ≤ cond b (1 + prefix_len is_ascii_digit xs) 0 → AreDigits (x ∷ xs) (suc n)
    go rest false e few = absurd (omega arith)
    go rest true e few =
        let r = rest (omega arith) in
        let d = digit_value x e in
        record {
          small = All-cons (λ d. d < 10) (value_of x) (map value_of (take n xs)) d.0 r.small;
          worth = λ v. r.worth (v * 10 + value_of x) ∙ ap (λ w. fold add_digit (v * 10 + w) (take n xs)) d.1;
          fits = omega (arith, r.fits, d.0, pow-suc 256 n);
        }

joined : (xs : List ℕ) (n : ℕ) → n ≤ length xs
    → number_l 256 xs ≡ number_l 256 (take n xs) + 256 ^ n * number_l 256 (drop n xs)
joined xs zero h = omega arith
joined [] (suc n) h = absurd (omega arith)
joined (x ∷ xs) (suc n) h =
    omega (arith, joined xs n (omega arith), ap (λ p. p * number_l 256 (drop n xs)) (pow-suc 256 n))

-- zeros below the lanes
zeros_below : (k : ℕ) (ds : List ℕ) → number_l 256 (replicate k 0 ++ ds) ≡ number_l 256 ds * 256 ^ k
zeros_below zero ds = omega arith
zeros_below (suc k) ds = omega (arith, zeros_below k ds, ap (λ p. number_l 256 ds * p) (pow-suc 256 k))

zeros_worth : (k : ℕ) (ds : List ℕ) → values_number (replicate k 0 ++ ds) ≡ values_number ds
zeros_worth zero ds = refl
zeros_worth (suc k) ds = zeros_worth k ds

pub two_shifts : (n : ℕ) → n < 8 → 256 * 2 ^ (56 - 8 * n) ≡ 256 ^ (8 - n)
two_shifts n few = eqb-true _ _
    (agree_below_at (λ k. eqb (256 * 2 ^ (56 - 8 * k)) (256 ^ (8 - k))) (λ _. true) 8 n refl few)

-- the lowest n lanes, moved to the highest
moved_up : (xs : List ℕ) (n : ℕ) → length xs ≡ 8 → n ≤ 8 → number_l 256 (take n xs) < 256 ^ n
    → number_l 256 xs * 256 ^ (8 - n) % 2 ^ 64 ≡ number_l 256 (take n xs) * 256 ^ (8 - n)
moved_up xs n long few fits =
    let up = 256 ^ (8 - n) in
    let low = number_l 256 (take n xs) in
    let high = number_l 256 (drop n xs) in
    let all : 256 ^ n * up ≡ 2 ^ 64 = sym (pow-add 256 n (8 - n)) ∙ ap (λ k. 256 ^ k) {y = 8} (omega arith) in
    let above : (low + 256 ^ n * high) * up ≡ high * 2 ^ 64 + low * up = omega (arith, ap (λ p. high * p) all) in
    let some : 0 < up = one-le-pow (8 - n) 256 (omega arith) in
    let below : low * up < 2 ^ 64 = omega (arith, mul-le-mul_right up fits) in
    ap (λ m. m * up % 2 ^ 64) (joined xs n (omega arith)) ∙ ap (λ m. m % 2 ^ 64) above
    ∙ mod-mul-add high (2 ^ 64) (low * up) below

-- a word whose highest bytes are the first n digits, with zeros before them, as eight digits
pub record SpellsFirst (xs : List ℕ) (n word : ℕ) : Type 0 where
  pub digits : List ℕ
  pub eight : length digits ≡ 8
  pub small : All (λ d. d < 10) digits
  pub word_is : word ≡ number_l 256 digits
  pub worth : values_number digits ≡ digits_number (take n xs)

pub spells_first : (xs : List ℕ) (n base word : ℕ) → length xs ≡ 8 → n ≡ prefix_len is_ascii_digit xs
    → base ≡ from_le_bytes w64 (lanes xs) → word ≡ base * 256 ^ (8 - n) % 2 ^ 64 → SpellsFirst xs n word
spells_first xs n base word long count given is =
    let few : n ≤ 8 = omega (arith, prefix_len-le-length is_ascii_digit xs) in
    let vs = map value_of xs in
    let r = are_digits xs n (omega arith) in
    let first = take-map value_of n xs in
    let length-vs : length vs ≡ 8 = length-map xs value_of ∙ long in
    let whole : base ≡ number_l 256 vs =
    given ∙ ap (from_le_bytes w64) (lanes_are xs long) ∙ word_is vs length-vs in
    let moved = moved_up vs n length-vs few (rw first r.fits) in
    record {
      digits = replicate (8 - n) 0 ++ map value_of (take n xs);
      eight = omega (
        arith,
        length-append (replicate (8 - n) 0) (map value_of (take n xs)),
        length-replicate {A = ℕ} (8 - n) 0,
        length-map (take n xs) value_of,
        length-take n xs,
      );
      small = All-append (λ d. d < 10) _ _ (All-replicate (λ d. d < 10) (8 - n) 0 (omega arith)) r.small;
      word_is = is ∙ ap (λ m. m * 256 ^ (8 - n) % 2 ^ 64) whole ∙ moved
          ∙ ap (λ l. number_l 256 l * 256 ^ (8 - n)) first ∙ sym (zeros_below (8 - n) (map value_of (take n xs)));
      worth = zeros_worth (8 - n) (map value_of (take n xs)) ∙ r.worth 0;
    }
