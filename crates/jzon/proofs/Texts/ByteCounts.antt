-- The newlines and the characters of a text, counted over its bytes.
use Rattle.jzon_base.proofs.Common.{◌≡◌, ℕ, ◌+◌, ◌/◌, ◌%◌, ◌^◌, ◌<◌, ◌≤◌, ltb, Bool, true, false, cond, List, [], ◌∷◌, length, refl}
use Rattle.jzon_base.proofs.Common.{sym, ap, ap₂, subst, ◌∙◌, arith, ne_eqb, ◌==◌, ◌||◌, zero-add, chars, IsUtf8, encode_utf8}
use Rattle.jzon_base.proofs.Common.{encodes-chars, count_by, encode_utf8_all, take, drop, get_or, Fits, w8, length-chunk, zip2_splat, map, replicate}
use Rattle.jzon_base.proofs.Common.{agree_below_at, map-map, drop-drop, length-map}
use Rattle.std.proofs.lemmas.Bool.{agree_below}
use Rattle.std.proofs.lemmas.List.Sums.{sum_by-append, sum_by-cons, sum_by-take-drop}
use Rattle.std.proofs.lemmas.Simd.{Each1-from_get_or, bitmask_splat, ones-mask_l}
use Rattle.std.proofs.Common.{leb}
use Rattle.std.specs.Int.Bits.{bit_xor}
use Rattle.std.specs.Int.RustNames.{count_ones}
use lib.Lanes.{Each1, chunk, mask_l, top, zip2}
use Rattle.jzon.specs.Private.Lines.{is_below}

-- ---- many bytes at once

pub in_lanes : (d : List ℕ) (i a b : ℕ) → i + 16 ≤ length d
    → count_ones (mask_l (map (top 7) (zip2 (λ x y. cond (ltb x y) 255 0)
    (zip2 bit_xor (chunk i 16 d) (replicate 16 a)) (replicate 16 b))) % 2 ^ 64)
    ≡ count_by (is_below a b) (take 16 (drop i d))
in_lanes d i a b room =
    let v = chunk i 16 d in
    let long = length-chunk i 16 d room in
    let turned = zip2_splat bit_xor v 16 a long in
    ap count_ones (ap (λ l. mask_l (map (top 7) (zip2 (λ x y. cond (ltb x y) 255 0) l (replicate 16 b))) % 2 ^ 64) turned
    ∙ bitmask_splat w8 ltb (map (λ x. bit_xor x a) v) 16 b (length-map v (λ x. bit_xor x a) ∙ long) (omega arith)
    ∙ ap mask_l (map-map (λ x. ltb x b) (λ x. bit_xor x a) v))
    ∙ ones-mask_l (is_below a b) v

-- a count goes on by 16 bytes
pub more : (p : ℕ → Bool) (d : List ℕ) (i : ℕ)
    → count_by p (take (i + 16) d) ≡ count_by p (take i d) + count_by p (take 16 (drop i d))
more p d i =
    let f : ℕ → ℕ = λ x. cond (p x) 1 0 in
    omega (
      arith,
      sum_by-take-drop f d i,
      sum_by-take-drop f d (i + 16),
      sum_by-take-drop f (drop i d) 16,
      ap (count_by p) (drop-drop 16 i d),
    )

-- and to the end
pub rest : (p : ℕ → Bool) (d : List ℕ) (i : ℕ) → count_by p (take i d) + count_by p (drop i d) ≡ count_by p d
rest p d i = sum_by-take-drop (λ x. cond (p x) 1 0) d i

-- ---- two tests that agree on bytes

same_count : (p q : ℕ → Bool) (xs : List ℕ) → agree_below p q 256 ≡ true → Each1 (Fits w8) xs
    → count_by p xs ≡ count_by q xs
same_count p q [] all fits = refl
same_count p q (x ∷ xs) all fits =
    sum_by-cons (λ y. cond (p y) 1 0) x xs
    ∙ ap₂ (λ (b : Bool) (n : ℕ). cond b 1 0 + n) (agree_below_at p q 256 x all fits.0.fits) (same_count p q xs all fits.1)
    ∙ sym (sum_by-cons (λ y. cond (q y) 1 0) x xs)

bytes_fit : (xs : List ℕ) → ((k : ℕ) → Fits w8 (get_or xs k 0)) → Each1 (Fits w8) xs
bytes_fit xs fits = Each1-from_get_or (Fits w8) xs 0 (λ i lt. fits i)

-- ---- from bytes to characters: a test that passes as many bytes of each character as q passes the character

of_chars : (p q : ℕ → Bool) → ((c : ℕ) → count_by p (encode_utf8 c) ≡ cond (q c) 1 0) → (cs : List ℕ)
    → count_by p (encode_utf8_all cs) ≡ count_by q cs
of_chars p q h [] = refl
of_chars p q h (c ∷ cs) =
    sum_by-append (λ x. cond (p x) 1 0) (encode_utf8 c) (encode_utf8_all cs)
    ∙ ap₂ (λ (m n : ℕ). m + n) (h c) (of_chars p q h cs) ∙ sym (sum_by-cons (λ x. cond (q x) 1 0) c cs)

of_text : (p q : ℕ → Bool) → ((c : ℕ) → count_by p (encode_utf8 c) ≡ cond (q c) 1 0) → (bs : List ℕ) → IsUtf8 bs
    → count_by p bs ≡ count_by q (chars bs)
of_text p q h bs u = subst (λ z. count_by p z ≡ count_by q (chars bs)) (encodes-chars bs u) (of_chars p q h (chars bs))

abbrev bytes_by : ℕ → Bool → Bool → Bool → List ℕ
bytes_by c x y z = cond x (c ∷ [])
    (cond y ((192 + c / 64) ∷ (128 + c % 64) ∷ [])
    (cond z ((224 + c / 4096) ∷ (128 + c / 64 % 64) ∷ (128 + c % 64) ∷ [])
    ((240 + c / 262144) ∷ (128 + c / 4096 % 64) ∷ (128 + c / 64 % 64) ∷ (128 + c % 64) ∷ [])))

-- p is the same of each byte that begins a wide character, and false of the bytes after it
counts_by : (p q : ℕ → Bool) (first : Bool) → ((b : ℕ) → 192 ≤ b → p b ≡ first)
    → ((b : ℕ) → 128 ≤ b → b < 192 → p b ≡ false) → (c : ℕ) → (ltb c 128 ≡ true → p c ≡ q c)
    → (ltb c 128 ≡ false → q c ≡ first) → (x y z : Bool) → ltb c 128 ≡ x → count_by p (bytes_by c x y z) ≡ cond (q c) 1 0
counts_by p q first lead next c small large true y z e = rw (small e) (zero-add (cond (q c) 1 0))
counts_by p q first lead next c small large false true z e =
    rw (lead (192 + c / 64) (omega arith), next (128 + c % 64) (omega arith) (omega arith), large e) (omega arith)
counts_by p q first lead next c small large false false true e =
    rw (
      lead (224 + c / 4096) (omega arith),
      next (128 + c / 64 % 64) (omega arith) (omega arith),
      next (128 + c % 64) (omega arith) (omega arith),
      large e,
    ) (omega arith)
counts_by p q first lead next c small large false false false e =
    rw (
      lead (240 + c / 262144) (omega arith),
      next (128 + c / 4096 % 64) (omega arith) (omega arith),
      next (128 + c / 64 % 64) (omega arith) (omega arith),
      next (128 + c % 64) (omega arith) (omega arith),
      large e,
    ) (omega arith)

-- ---- newlines

abbrev pub is_newline : ℕ → Bool
is_newline c = c == 10

wide : (b : ℕ) → 128 ≤ b → is_newline b ≡ false
wide b le = ne_eqb b 10 (λ e. omega (arith, e))

wide_char : (c : ℕ) → ltb c 128 ≡ false → is_newline c ≡ false
wide_char c e = ne_eqb c 10 (λ q. grind (arith, e, q))

newline : (c : ℕ) → count_by is_newline (encode_utf8 c) ≡ cond (is_newline c) 1 0
unfolding encode_utf8
newline c = counts_by is_newline is_newline false (λ b le. wide b (omega (arith, le))) (λ b le lt. wide b le) c (λ e. refl)
    (wide_char c) (ltb c 128) (ltb c 2048) (ltb c 65536) refl

pub newlines_of : (bs : List ℕ) → IsUtf8 bs → ((k : ℕ) → Fits w8 (get_or bs k 0))
    → count_by (is_below 10 1) bs ≡ count_by is_newline (chars bs)
newlines_of bs u fits =
    same_count (is_below 10 1) is_newline bs refl (bytes_fit bs fits) ∙ of_text is_newline is_newline newline bs u

-- ---- characters

abbrev begins : ℕ → Bool
begins b = ltb b 128 || leb 192 b

lead : (b : ℕ) → 192 ≤ b → begins b ≡ true
lead b le = grind (arith)

next : (b : ℕ) → 128 ≤ b → b < 192 → begins b ≡ false
next b le lt = grind (arith)

begin : (c : ℕ) → count_by begins (encode_utf8 c) ≡ 1
unfolding encode_utf8
begin c = counts_by begins (λ _. true) true lead next c (λ e. rw e refl) (λ e. refl) (ltb c 128) (ltb c 2048) (ltb c 65536)
    refl

all_of : (cs : List ℕ) → count_by (λ _. true) cs ≡ length cs
all_of [] = refl
all_of (c ∷ cs) = sum_by-cons (λ _. 1) c cs ∙ omega (arith, all_of cs)

pub characters_of : (bs : List ℕ) → IsUtf8 bs → ((k : ℕ) → Fits w8 (get_or bs k 0))
    → count_by (is_below 127 192) bs ≡ length (chars bs)
characters_of bs u fits =
    same_count (is_below 127 192) begins bs refl (bytes_fit bs fits) ∙ of_text begins (λ _. true) begin bs u
    ∙ all_of (chars bs)
