-- Whitespace of 16 bytes at once. Letters: v the bytes of a block, d all bytes, i the offset of the block.
use Rattle.jzon_base.proofs.Common.{◌≡◌, ℕ, zero, suc, ◌+◌, ◌-◌, ◌*◌, ◌%◌, ◌^◌, ◌≤◌, ◌<◌, eqb, Bool, true, false, not, cond}
use Rattle.jzon_base.proofs.Common.{List, [], ◌∷◌, length, take, drop, get_or, map, replicate, bit_or, Fits, w8, refl}
use Rattle.jzon_base.proofs.Common.{sym, ap, ◌∙◌, arith, nat_tests, prefix_len, length-drop, length-map, pow-suc}
use Rattle.jzon_base.proofs.Common.{cases_lt, inl, inr, take_rest, chunk-fits, length-chunk, map-map, mask_l-mod}
use Rattle.jzon_base.proofs.Common.{zip2_splat, true≢false}
use Rattle.std.proofs.lemmas.Bool.{agree_below_at}
use Rattle.std.proofs.lemmas.List.Sums.{prefix_len_passes}
use Rattle.std.proofs.lemmas.Simd.{leading_from_mask_l, trailing_mask_l, zip2_of_maps}
use lib.Count.{count_trailing_zeros}
use lib.Lanes.{Each1, chunk, mask_l, top, zip2}
use Rattle.jzon_tree.specs.Writing.{is_whitespace}
use Rattle.jzon.proofs.Texts.AsciiRuns.{above_is_no_space}
use Rattle.jzon_base.proofs.Strings.PlainBlocks.{past, prefix_ends, prefix_passes, same_run}

abbrev equal : ℕ → ℕ → ℕ
equal a b = cond (eqb a b) 255 0

-- the result of the code's four tests for one byte
abbrev lane : ℕ → ℕ
lane x = bit_or (bit_or (equal x 32) (equal x 9)) (bit_or (equal x 10) (equal x 13))

abbrev other : ℕ → Bool
other x = not (top 7 (lane x))

-- the bytes of a block that pass one of the tests, a bit for each
abbrev pub mask_of : List ℕ → ℕ
mask_of v = mask_l (map (top 7) (zip2 bit_or
    (zip2 bit_or (zip2 equal v (replicate 16 32)) (zip2 equal v (replicate 16 9)))
    (zip2 bit_or (zip2 equal v (replicate 16 10)) (zip2 equal v (replicate 16 13))))) % 2 ^ 64

mask_is : (v : List ℕ) → length v ≡ 16 → mask_of v ≡ mask_l (map (λ x. top 7 (lane x)) v)
mask_is v long =
    let blanks = zip2_of_maps bit_or _ _ v (zip2_splat equal v 16 32 long) (zip2_splat equal v 16 9 long) in
    let ends = zip2_of_maps bit_or _ _ v (zip2_splat equal v 16 10 long) (zip2_splat equal v 16 13 long) in
    ap (λ l. mask_l l % 2 ^ 64)
    (ap (map (top 7)) (zip2_of_maps bit_or _ _ v blanks ends) ∙ map-map (top 7) lane v)
    ∙ mask_l-mod (map (λ x. top 7 (lane x)) v) 64 (omega (arith, length-map v (λ x. top 7 (lane x)), long))

-- the mask of the other bytes
others-at : (b : Bool) (m k n : ℕ) → m + k + 1 ≡ 2 ^ n
    → (cond b 1 0 + 2 * m) + (cond (not b) 1 0 + 2 * k) + 1 ≡ 2 ^ suc n
others-at true m k n e = omega (arith, e, pow-suc 2 n)
others-at false m k n e = omega (arith, e, pow-suc 2 n)

others : (p : ℕ → Bool) (v : List ℕ) → mask_l (map p v) + mask_l (map (λ x. not (p x)) v) + 1 ≡ 2 ^ length v
others p [] = refl
others p (x ∷ xs) = others-at (p x) (mask_l (map p xs)) (mask_l (map (λ y. not (p y)) xs)) (length xs) (others p xs)

-- if there is one, it is in the block
first-at : (b : Bool) (m n l : ℕ) → (0 < m → n < l) → 0 < cond b 1 0 + 2 * m → cond (not b) (1 + n) 0 < suc l
first-at true m n l later some = omega arith
first-at false m n l later some = omega (arith, later (omega arith))

first : (p : ℕ → Bool) (v : List ℕ) → 0 < mask_l (map p v) → prefix_len (λ x. not (p x)) v < length v
first p [] some = absurd (omega arith)
first p (x ∷ xs) some =
    first-at (p x) (mask_l (map p xs)) (prefix_len (λ y. not (p y)) xs) (length xs) (first p xs) some

-- Of 16 bytes v, mask v has a bit for each byte that passes the test p; 65535 - mask v has one for each of the others.
module _ (p : ℕ → Bool) (mask : List ℕ → ℕ) (is : (v : List ℕ) → length v ≡ 16 → mask v ≡ mask_l (map p v)) where
  others_are : (v : List ℕ) → length v ≡ 16
      → (mask v ≤ 65535) × (65535 - mask v ≡ mask_l (map (λ x. not (p x)) v))
  others_are v long =
      let both = others p v ∙ ap (λ (n : ℕ). 2 ^ n) long in
      (omega (arith, both, is v long), omega (arith, both, is v long))

  all_pass : (v : List ℕ) → length v ≡ 16 → 65535 - mask v ≡ 0 → prefix_len (λ x. not (not (p x))) v ≡ 16
  all_pass v long none = leading_from_mask_l (λ x. not (p x)) v (sym (others_are v long).1 ∙ none) ∙ long

  first_other : (v : List ℕ) → length v ≡ 16 → (65535 - mask v ≡ 0 → ⊥)
      → (count_trailing_zeros 64 (65535 - mask v) ≡ prefix_len (λ x. not (not (p x))) v)
      × (prefix_len (λ x. not (not (p x))) v < 16)
  first_other v long some =
      let at = (others_are v long).1 in
      let one : 0 < mask_l (map (λ x. not (p x)) v) = omega (arith, some, at) in (
        ap (count_trailing_zeros 64) at ∙ trailing_mask_l (λ x. not (p x)) 64 v (omega (arith, long)) one,
        omega (arith, first (λ x. not (p x)) v one, long),
      )

-- ---- all whitespace

spaces : (d : List ℕ) (i : ℕ) → ((k : ℕ) → Fits w8 (get_or d k 0))
    → prefix_len (λ x. not (other x)) (chunk i 16 d) ≡ prefix_len (is_whitespace true) (chunk i 16 d)
spaces d i fits = same_run (λ x. not (other x)) (is_whitespace true) (chunk i 16 d) refl (chunk-fits w8 i 16 d fits)

pub block_fits : (d : List ℕ) (i : ℕ) → i + 16 ≤ length d → mask_of (chunk i 16 d) ≤ 65535
block_fits d i room = (others_are (λ x. top 7 (lane x)) mask_of mask_is (chunk i 16 d) (length-chunk i 16 d room)).0

pub block_none : (d : List ℕ) (i : ℕ) → i + 16 ≤ length d → ((k : ℕ) → Fits w8 (get_or d k 0))
    → 65535 - mask_of (chunk i 16 d) ≡ 0 → 16 ≤ prefix_len (is_whitespace true) (drop i d)
block_none d i room fits none =
    let all = all_pass (λ x. top 7 (lane x)) mask_of mask_is (chunk i 16 d) (length-chunk i 16 d room) none in
    let passed = prefix_passes (is_whitespace true) (drop i d) 16 16 (omega (arith, length-drop i d))
    (sym (sym (spaces d i fits) ∙ all)) (omega arith) in
    omega (arith, passed)

block_zeros : (d : List ℕ) (i : ℕ) → i + 16 ≤ length d → (65535 - mask_of (chunk i 16 d) ≡ 0 → ⊥)
    → (count_trailing_zeros 64 (65535 - mask_of (chunk i 16 d)) ≡ prefix_len (λ x. not (other x)) (chunk i 16 d))
    × (prefix_len (λ x. not (other x)) (chunk i 16 d) < 16)
block_zeros d i room =
    first_other (λ x. top 7 (lane x)) mask_of mask_is (chunk i 16 d) (length-chunk i 16 d room)

pub block_within : (d : List ℕ) (i : ℕ) → i + 16 ≤ length d → (65535 - mask_of (chunk i 16 d) ≡ 0 → ⊥)
    → count_trailing_zeros 64 (65535 - mask_of (chunk i 16 d)) < 16
block_within d i room some = let zeros = block_zeros d i room some in omega (arith, zeros.0, zeros.1)

pub block_some : (d : List ℕ) (i : ℕ) → i + 16 ≤ length d → ((k : ℕ) → Fits w8 (get_or d k 0))
    → (65535 - mask_of (chunk i 16 d) ≡ 0 → ⊥)
    → count_trailing_zeros 64 (65535 - mask_of (chunk i 16 d)) ≡ prefix_len (is_whitespace true) (drop i d)
block_some d i room fits some = prefix_ends (is_whitespace true) (drop i d) 16 _ (omega (arith, length-drop i d))
    ((block_zeros d i room some).0 ∙ spaces d i fits) (block_within d i room some)

-- ---- in any reading

strict_is_any : (s : Bool) (c : ℕ) → is_whitespace true c ≡ true → is_whitespace s c ≡ true
strict_is_any true c h = h
strict_is_any false c h = grind (arith, nat_tests)

grows-at : (a b : Bool) (m n : ℕ) → (a ≡ true → b ≡ true) → m ≤ n → cond a (1 + m) 0 ≤ cond b (1 + n) 0
grows-at true true m n h le = omega arith
grows-at true false m n h le = absurd (let no : false ≡ true = h refl in cc)
grows-at false b m n h le = omega arith

grows : (s : Bool) (xs : List ℕ) → prefix_len (is_whitespace true) xs ≤ prefix_len (is_whitespace s) xs
grows s [] = omega arith
grows s (x ∷ xs) = grows-at (is_whitespace true x) (is_whitespace s x) _ _ (strict_is_any s x) (grows s xs)

-- a run that goes on from i by at least n bytes
pub goes_on : (s : Bool) (d : List ℕ) (i n : ℕ) → i ≤ prefix_len (is_whitespace s) d
    → n ≤ prefix_len (is_whitespace true) (drop i d) → i + n ≤ prefix_len (is_whitespace s) d
goes_on s d i n before more = omega (arith, past (is_whitespace s) d i before, grows s (drop i d))

-- a run at the start
pub in_any : (s : Bool) (d : List ℕ) (n : ℕ) → n ≤ prefix_len (is_whitespace true) d
    → n ≤ prefix_len (is_whitespace s) d
in_any s d n more = omega (arith, more, grows s d)

-- it ends at a byte above the space
pub ends_above : (s : Bool) (d : List ℕ) (i : ℕ) → i ≤ prefix_len (is_whitespace s) d → 32 < get_or d i 0
    → i ≡ prefix_len (is_whitespace s) d
ends_above s d i before above =
    elim (cases_lt i (prefix_len (is_whitespace s) d)) [
      | inl lt ↦
          absurd (true≢false (sym (prefix_len_passes (is_whitespace s) d i 0 lt) ∙ above_is_no_space s (get_or d i 0) above))
      | inr ge ↦ omega (arith, before, ge)
    ]

-- it ends after the r bytes that are counted from i on
pub ends_after : (s : Bool) (d : List ℕ) (i r : ℕ) → i ≤ prefix_len (is_whitespace s) d
    → r ≡ prefix_len (is_whitespace s) (take (length d - i) (drop i d)) → i + r ≡ prefix_len (is_whitespace s) d
ends_after s d i r before counted =
    omega (arith, counted ∙ ap (prefix_len (is_whitespace s)) (take_rest d i), past (is_whitespace s) d i before)

-- ---- newlines and spaces alone

abbrev usual : ℕ → ℕ
usual x = bit_or (equal x 32) (equal x 10)

abbrev unusual : ℕ → Bool
unusual x = not (top 7 (usual x))

abbrev pub usual_mask : List ℕ → ℕ
usual_mask v =
    mask_l (map (top 7) (zip2 bit_or (zip2 equal v (replicate 16 32)) (zip2 equal v (replicate 16 10)))) % 2 ^ 64

usual_mask_is : (v : List ℕ) → length v ≡ 16 → usual_mask v ≡ mask_l (map (λ x. top 7 (usual x)) v)
usual_mask_is v long =
    let lanes = zip2_of_maps bit_or _ _ v (zip2_splat equal v 16 32 long) (zip2_splat equal v 16 10 long) in
    ap (λ l. mask_l l % 2 ^ 64) (ap (map (top 7)) lanes ∙ map-map (top 7) usual v)
    ∙ mask_l-mod (map (λ x. top 7 (usual x)) v) 64 (omega (arith, length-map v (λ x. top 7 (usual x)), long))

implied : (a b : Bool) → cond a true b ≡ true → not a ≡ true → b ≡ true
implied true b e h = absurd (let no : false ≡ true = h in cc)
implied false b e h = e

usual_run : (v : List ℕ) → Each1 (Fits w8) v
    → prefix_len (λ x. not (unusual x)) v ≤ prefix_len (is_whitespace true) v
usual_run [] fits = omega arith
usual_run (x ∷ xs) fits =
    let all = agree_below_at (λ y. cond (unusual y) true (is_whitespace true y)) (λ y. true) 256 x refl fits.0.fits in
    grows-at (not (unusual x)) (is_whitespace true x) _ _ (implied (unusual x) (is_whitespace true x) all)
    (usual_run xs fits.1)

run_in_part : (p : ℕ → Bool) (n : ℕ) (d : List ℕ) → prefix_len p (take n d) ≤ prefix_len p d
run_in_part p zero d = omega arith
run_in_part p (suc n) [] = omega arith
run_in_part p (suc n) (x ∷ xs) = grows-at (p x) (p x) _ _ (λ h. h) (run_in_part p n xs)

usual_part : (d : List ℕ) → ((k : ℕ) → Fits w8 (get_or d k 0))
    → prefix_len (λ x. not (unusual x)) (chunk 0 16 d) ≤ prefix_len (is_whitespace true) d
usual_part d fits =
    let run = usual_run (chunk 0 16 d) (chunk-fits w8 0 16 d fits) in
    omega (arith, run, run_in_part (is_whitespace true) 16 d)

pub usual_fits : (d : List ℕ) → 16 ≤ length d → usual_mask (chunk 0 16 d) ≤ 65535
usual_fits d room =
    (others_are (λ x. top 7 (usual x)) usual_mask usual_mask_is (chunk 0 16 d) (length-chunk 0 16 d room)).0

pub usual_none : (d : List ℕ) → 16 ≤ length d → ((k : ℕ) → Fits w8 (get_or d k 0))
    → 65535 - usual_mask (chunk 0 16 d) ≡ 0 → 16 ≤ prefix_len (is_whitespace true) d
usual_none d room fits none =
    let all = all_pass (λ x. top 7 (usual x)) usual_mask usual_mask_is (chunk 0 16 d) (length-chunk 0 16 d room) none in
    omega (arith, all, usual_part d fits)

usual_zeros : (d : List ℕ) → 16 ≤ length d → (65535 - usual_mask (chunk 0 16 d) ≡ 0 → ⊥)
    → (count_trailing_zeros 64 (65535 - usual_mask (chunk 0 16 d)) ≡ prefix_len (λ x. not (unusual x)) (chunk 0 16 d))
    × (prefix_len (λ x. not (unusual x)) (chunk 0 16 d) < 16)
usual_zeros d room =
    first_other (λ x. top 7 (usual x)) usual_mask usual_mask_is (chunk 0 16 d) (length-chunk 0 16 d room)

pub usual_within : (d : List ℕ) → 16 ≤ length d → (65535 - usual_mask (chunk 0 16 d) ≡ 0 → ⊥)
    → count_trailing_zeros 64 (65535 - usual_mask (chunk 0 16 d)) < 16
usual_within d room some = let zeros = usual_zeros d room some in omega (arith, zeros.0, zeros.1)

pub usual_some : (d : List ℕ) → 16 ≤ length d → ((k : ℕ) → Fits w8 (get_or d k 0))
    → (65535 - usual_mask (chunk 0 16 d) ≡ 0 → ⊥)
    → count_trailing_zeros 64 (65535 - usual_mask (chunk 0 16 d)) ≤ prefix_len (is_whitespace true) d
usual_some d room fits some = omega (arith, (usual_zeros d room some).0, usual_part d fits)
