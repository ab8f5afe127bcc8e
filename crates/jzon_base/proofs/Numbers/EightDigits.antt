-- Eight digits joined two by two, then four by four, then all eight, in the bytes of a word.
use Rattle.jzon_base.proofs.Common.{◌≡◌, ℕ, ◌+◌, ◌*◌, ◌/◌, ◌%◌, ◌^◌, ◌<◌, List, [], ◌∷◌, length, bit_and, ap, ap₂, ◌∙◌}
use Rattle.jzon_base.proofs.Common.{arith, All}
use lib.Bits.{and_block, and_mask}
use lib.Lanes.{number_l}
use Rattle.jzon_base.specs.Digits.{values_number}

-- what is left of a 64-bit product without its lowest 8, 16 or 32 bits
less_byte : (n high sum low : ℕ) → n ≡ high * 2 ^ 64 + (sum * 2 ^ 8 + low) → sum < 2 ^ 56 → low < 2 ^ 8
    → n % 2 ^ 64 / 2 ^ 8 ≡ sum
less_byte n high sum low e s l = omega arith

less_half : (n high sum low : ℕ) → n ≡ high * 2 ^ 64 + (sum * 2 ^ 16 + low) → sum < 2 ^ 48 → low < 2 ^ 16
    → n % 2 ^ 64 / 2 ^ 16 ≡ sum
less_half n high sum low e s l = omega arith

less_word : (n high sum low : ℕ) → n ≡ high * 2 ^ 64 + (sum * 2 ^ 32 + low) → sum < 2 ^ 32 → low < 2 ^ 32
    → n % 2 ^ 64 / 2 ^ 32 ≡ sum
less_word n high sum low e s l = omega arith

-- a mask keeps the lower of two neighbouring bytes
even_byte : (rest mask x p : ℕ) → x < 2 ^ 8 → p < 2 ^ 8
    → bit_and (rest * 2 ^ 16 + (x * 2 ^ 8 + p)) (mask * 2 ^ 16 + 255) ≡ bit_and rest mask * 2 ^ 16 + p
even_byte rest mask x p X P =
    let low : (x * 2 ^ 8 + p) % 2 ^ 8 ≡ p = omega arith in
    and_block 16 rest mask (x * 2 ^ 8 + p) 255 (omega arith) (omega arith)
    ∙ ap (λ n. bit_and rest mask * 2 ^ 16 + n) (and_mask (x * 2 ^ 8 + p) 8 ∙ low)

-- and the lower of two neighbouring 16-bit halves
even_half : (x p r : ℕ) → x < 2 ^ 16 → p < 2 ^ 16 → r < 2 ^ 16
    → bit_and (r * 2 ^ 32 + (x * 2 ^ 16 + p)) 0x0000_ffff_0000_ffff ≡ r * 2 ^ 32 + p
even_half x p r X P R =
    let low : (x * 2 ^ 16 + p) % 2 ^ 16 ≡ p = omega arith in
    let high : r % 2 ^ 16 ≡ r = omega arith in
    and_block 32 r 65535 (x * 2 ^ 16 + p) 65535 (omega arith) (omega arith)
    ∙ ap₂ (λ m n. m * 2 ^ 32 + n) (and_mask r 16 ∙ high) (and_mask (x * 2 ^ 16 + p) 16 ∙ low)

even_bytes : (p x q y r z s n : ℕ) → p < 100 → x < 100 → q < 100 → y < 100 → r < 100 → z < 100 → s < 100
    → n ≡ p + 2 ^ 8 * x + 2 ^ 16 * q + 2 ^ 24 * y + 2 ^ 32 * r + 2 ^ 40 * z + 2 ^ 48 * s
    → bit_and n 0x00ff_00ff_00ff_00ff ≡ p + 2 ^ 16 * q + 2 ^ 32 * r + 2 ^ 48 * s
even_bytes p x q y r z s n P X Q Y R Z S e =
    let parts : n ≡ ((s * 2 ^ 16 + (z * 2 ^ 8 + r)) * 2 ^ 16 + (y * 2 ^ 8 + q)) * 2 ^ 16 + (x * 2 ^ 8 + p) =
    omega arith in
    let last : s % 2 ^ 8 ≡ s = omega arith in
    let joined : ((s * 2 ^ 16 + r) * 2 ^ 16 + q) * 2 ^ 16 + p ≡ p + 2 ^ 16 * q + 2 ^ 32 * r + 2 ^ 48 * s =
    omega arith in
    ap (λ m. bit_and m 0x00ff_00ff_00ff_00ff) parts
    ∙ even_byte ((s * 2 ^ 16 + (z * 2 ^ 8 + r)) * 2 ^ 16 + (y * 2 ^ 8 + q)) 0x00ff_00ff_00ff x p (omega arith)
    (omega arith)
    ∙ ap (λ m. m * 2 ^ 16 + p) (even_byte (s * 2 ^ 16 + (z * 2 ^ 8 + r)) 0x00ff_00ff y q (omega arith) (omega arith)
    ∙ ap (λ m. m * 2 ^ 16 + q) (even_byte s 255 z r (omega arith) (omega arith)
    ∙ ap (λ m. m * 2 ^ 16 + r) (and_mask s 8 ∙ last)))
    ∙ joined

pairs : (a b c d e f g h word : ℕ) → a < 10 → b < 10 → c < 10 → d < 10 → e < 10 → f < 10 → g < 10 → h < 10
    → word ≡ a + 256 * (b + 256 * (c + 256 * (d + 256 * (e + 256 * (f + 256 * (g + 256 * (h + 256 * 0)))))))
    → bit_and (word * 2561 % 2 ^ 64 / 2 ^ 8) 0x00ff_00ff_00ff_00ff
    ≡ (a * 10 + b) + 2 ^ 16 * (c * 10 + d) + 2 ^ 32 * (e * 10 + f) + 2 ^ 48 * (g * 10 + h)
pairs a b c d e f g h word A B C D E F G H is =
    let sum : ℕ = (a * 10 + b) + 2 ^ 8 * (b * 10 + c) + 2 ^ 16 * (c * 10 + d) + 2 ^ 24 * (d * 10 + e)
    + 2 ^ 32 * (e * 10 + f) + 2 ^ 40 * (f * 10 + g) + 2 ^ 48 * (g * 10 + h) in
    let product : word * 2561 ≡ h * 10 * 2 ^ 64 + (sum * 2 ^ 8 + a) = omega arith in
    even_bytes (a * 10 + b) (b * 10 + c) (c * 10 + d) (d * 10 + e) (e * 10 + f) (f * 10 + g) (g * 10 + h) _
    (omega arith) (omega arith) (omega arith) (omega arith) (omega arith) (omega arith) (omega arith)
    (less_byte _ (h * 10) sum a product (omega arith) (omega arith))

fours : (p q r s word : ℕ) → p < 100 → q < 100 → r < 100 → s < 100
    → word ≡ p + 2 ^ 16 * q + 2 ^ 32 * r + 2 ^ 48 * s
    → bit_and (word * 6553601 % 2 ^ 64 / 2 ^ 16) 0x0000_ffff_0000_ffff ≡ (r * 100 + s) * 2 ^ 32 + (p * 100 + q)
fours p q r s word P Q R S is =
    let sum : ℕ = (r * 100 + s) * 2 ^ 32 + ((q * 100 + r) * 2 ^ 16 + (p * 100 + q)) in
    let product : word * 6553601 ≡ s * 100 * 2 ^ 64 + (sum * 2 ^ 16 + p) = omega arith in
    ap (λ n. bit_and n 0x0000_ffff_0000_ffff) (less_half _ (s * 100) sum p product (omega arith) (omega arith))
    ∙ even_half (q * 100 + r) (p * 100 + q) (r * 100 + s) (omega arith) (omega arith) (omega arith)

eight : (x y word : ℕ) → x < 10_000 → y < 10_000 → word ≡ y * 2 ^ 32 + x
    → word * 42949672960001 % 2 ^ 64 / 2 ^ 32 ≡ x * 10_000 + y
eight x y word X Y is =
    let product : word * 42949672960001 ≡ y * 10_000 * 2 ^ 64 + ((x * 10_000 + y) * 2 ^ 32 + x) = omega arith in
    less_word _ (y * 10_000) (x * 10_000 + y) x product (omega arith) (omega arith)

-- the number that the three multiplications compute from a word
abbrev pub joined : ℕ → ℕ
joined word = bit_and (bit_and (word * 2561 % 2 ^ 64 / 2 ^ 8) 0x00ff_00ff_00ff_00ff * 6553601 % 2 ^ 64 / 2 ^ 16)
    0x0000_ffff_0000_ffff * 42949672960001 % 2 ^ 64 / 2 ^ 32

pub joined_is : (ds : List ℕ) (word : ℕ) → length ds ≡ 8 → All (λ d. d < 10) ds → word ≡ number_l 256 ds
    → joined word ≡ values_number ds
joined_is (a ∷ b ∷ c ∷ d ∷ e ∷ f ∷ g ∷ h ∷ []) word long all is =
    let two = pairs a b c d e f g h word (all 0 0 (omega arith)) (all 1 0 (omega arith)) (all 2 0 (omega arith))
    (all 3 0 (omega arith)) (all 4 0 (omega arith)) (all 5 0 (omega arith)) (all 6 0 (omega arith))
    (all 7 0 (omega arith)) is in
    let A : a < 10 = all 0 0 (omega arith) in
    let B : b < 10 = all 1 0 (omega arith) in
    let C : c < 10 = all 2 0 (omega arith) in
    let D : d < 10 = all 3 0 (omega arith) in
    let E : e < 10 = all 4 0 (omega arith) in
    let F : f < 10 = all 5 0 (omega arith) in
    let G : g < 10 = all 6 0 (omega arith) in
    let H : h < 10 = all 7 0 (omega arith) in
    let four = fours (a * 10 + b) (c * 10 + d) (e * 10 + f) (g * 10 + h) _ (omega arith) (omega arith) (omega arith)
    (omega arith) two in
    let whole = eight ((a * 10 + b) * 100 + (c * 10 + d)) ((e * 10 + f) * 100 + (g * 10 + h)) _ (omega arith)
    (omega arith) four in
    whole ∙ omega arith
joined_is _ word long all is = absurd (omega arith)
