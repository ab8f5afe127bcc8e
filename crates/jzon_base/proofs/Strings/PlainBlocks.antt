-- From the lanes of one block to the bytes that need no escape.
use Rattle.jzon_base.proofs.Common.{◌≡◌, ℕ, ◌+◌, ◌-◌, ◌%◌, ◌^◌, ◌≤◌, ◌<◌, ltb, eqb, Bool, true, false, not, cond, List}
use Rattle.jzon_base.proofs.Common.{[], ◌∷◌, ◌++◌, cases_eq, length, take, drop, get_or, map, replicate, bit_or, Fits, w8, refl, sym}
use Rattle.jzon_base.proofs.Common.{ap, ap₂, ◌∙◌, zero, suc, zero-add, arith, prefix_len, agree_below_at, cond-true}
use Rattle.jzon_base.proofs.Common.{cond-false, eq-eqb, ne_eqb, drop-drop, length-drop, length-map, take_rest}
use Rattle.jzon_base.proofs.Common.{prefix_len-le-length, chunk-fits, first_set_mask_l, length-chunk, map-map}
use Rattle.jzon_base.proofs.Common.{inl, inr, length-take-le, mask_l-mod, zip2_splat}
use Rattle.std.proofs.lemmas.Bool.{agree_below}
use Rattle.std.proofs.lemmas.List.{take-append-drop}
use Rattle.std.proofs.lemmas.List.Folds.{prefix_len-append}
use Rattle.std.proofs.lemmas.Simd.{length-put_chunk, take_more_put_chunk, zip2_of_maps}
use Rattle.std.specs.Int.Bits.{bit_xor}
use lib.Count.{count_trailing_zeros}
use lib.Lanes.{Each1, chunk, mask_l, put_chunk, top, zip2}
use Rattle.jzon_base.specs.Private.PlainBytes.{is_plain}

abbrev below : ℕ → ℕ → ℕ
below a b = cond (ltb a b) 255 0

abbrev equal : ℕ → ℕ → ℕ
equal a b = cond (eqb a b) 255 0

-- the result of the code's two tests for one lane
abbrev lane : ℕ → ℕ → ℕ → ℕ → ℕ
lane a b c x = bit_or (below (bit_xor x a) b) (equal x c)

abbrev pub stops : ℕ → ℕ → ℕ → ℕ → Bool
stops a b c x = top 7 (lane a b c x)

pub same_run : (p q : ℕ → Bool) (v : List ℕ) → agree_below p q 256 ≡ true → Each1 (Fits w8) v
    → prefix_len p v ≡ prefix_len q v
same_run p q [] all fits = refl
same_run p q (x ∷ xs) all fits = ap₂ (λ (b : Bool) (n : ℕ). cond b (1 + n) 0) (agree_below_at p q 256 x all fits.0.fits)
    (same_run p q xs all fits.1)

-- the mask of a block of n bytes
abbrev pub mask_of : ℕ → ℕ → ℕ → ℕ → List ℕ → ℕ
mask_of a b c n v = mask_l (map (top 7) (zip2 bit_or (zip2 below (zip2 bit_xor v (replicate n a)) (replicate n b))
    (zip2 equal v (replicate n c)))) % 2 ^ 64

mask_is : (a b c n : ℕ) (v : List ℕ) → length v ≡ n → n ≤ 64 → mask_of a b c n v ≡ mask_l (map (stops a b c) v)
mask_is a b c n v long few =
    let turned = zip2_splat bit_xor v n a long in
    let low = ap (λ l. zip2 below l (replicate n b)) turned
    ∙ zip2_splat below (map (λ x. bit_xor x a) v) n b (length-map v (λ x. bit_xor x a) ∙ long)
    ∙ map-map (λ x. below x b) (λ x. bit_xor x a) v in
    let lanes = zip2_of_maps bit_or _ _ v low (zip2_splat equal v n c long) in
    ap (λ l. mask_l l % 2 ^ 64) (ap (map (top 7)) lanes ∙ map-map (top 7) (lane a b c) v)
    ∙ mask_l-mod (map (stops a b c) v) 64 (omega (arith, length-map v (stops a b c), long))

-- a lane stops exactly at the bytes that aren't plain
abbrev pub AtEscapes : ℕ → ℕ → ℕ → Type 0
AtEscapes a b c = agree_below (λ x. not (stops a b c x)) is_plain 256 ≡ true

first_set : (a b c : ℕ) (d : List ℕ) (i n : ℕ) → i + n ≤ length d → n ≤ 64 → ((k : ℕ) → Fits w8 (get_or d k 0))
    → AtEscapes a b c
    → cond (eqb (mask_of a b c n (chunk i n d)) 0) n (count_trailing_zeros 64 (mask_of a b c n (chunk i n d)))
    ≡ prefix_len is_plain (chunk i n d)
first_set a b c d i n room few fits all =
    let v = chunk i n d in
    let long = length-chunk i n d room in
    ap (λ m. cond (eqb m 0) n (count_trailing_zeros 64 m)) (mask_is a b c n v long few)
    ∙ first_set_mask_l (stops a b c) v n long few
    ∙ same_run (λ x. not (stops a b c x)) is_plain v all (chunk-fits w8 i n d fits)

-- if no lane stops, the whole block is plain
pub block_none : (a b c : ℕ) (d : List ℕ) (i n : ℕ) → i + n ≤ length d → n ≤ 64 → ((k : ℕ) → Fits w8 (get_or d k 0))
    → mask_of a b c n (chunk i n d) ≡ 0 → AtEscapes a b c → n ≡ prefix_len is_plain (chunk i n d)
block_none a b c d i n room few fits none all = sym (cond-true _ _ _ (eq-eqb _ _ none))
    ∙ first_set a b c d i n room few fits all

-- otherwise the first lane that stops ends the run
pub block_some : (a b c : ℕ) (d : List ℕ) (i n : ℕ) → i + n ≤ length d → n ≤ 64 → ((k : ℕ) → Fits w8 (get_or d k 0))
    → (mask_of a b c n (chunk i n d) ≡ 0 → ⊥) → AtEscapes a b c
    → count_trailing_zeros 64 (mask_of a b c n (chunk i n d)) ≡ prefix_len is_plain (chunk i n d)
block_some a b c d i n room few fits some all = sym (cond-false _ _ _ (ne_eqb _ _ some))
    ∙ first_set a b c d i n room few fits all

split : (p : ℕ → Bool) (d : List ℕ) (n : ℕ) → prefix_len p d
    ≡ cond (eqb (prefix_len p (take n d)) (length (take n d)))
    (length (take n d) + prefix_len p (drop n d)) (prefix_len p (take n d))
split p d n = ap (prefix_len p) (sym (take-append-drop n d)) ∙ prefix_len-append p (take n d) (drop n d)

-- a run that ends in a first block
pub prefix_ends : (p : ℕ → Bool) (d : List ℕ) (n r : ℕ) → n ≤ length d → r ≡ prefix_len p (take n d) → r < n
    → r ≡ prefix_len p d
prefix_ends p d n r room counted short =
    let other = ne_eqb (prefix_len p (take n d)) (length (take n d))
    (λ same. absurd (omega (arith, length-chunk 0 n d (omega arith)))) in
    counted ∙ sym (split p d n ∙ cond-false _ _ _ other)

-- a run that goes on past a first block
pub prefix_passes : (p : ℕ → Bool) (d : List ℕ) (n r : ℕ) → n ≤ length d → r ≡ prefix_len p (take n d) → n ≤ r
    → n + prefix_len p (drop n d) ≡ prefix_len p d
prefix_passes p d n r room counted whole =
    let long = length-chunk 0 n d (omega arith) in
    let same : prefix_len p (take n d) ≡ length (take n d) = omega
    (arith, long, prefix_len-le-length p (take n d)) in
    ap (λ (m : ℕ). m + prefix_len p (drop n d)) (sym long) ∙ sym (split p d n ∙ cond-true _ _ _ (eq-eqb _ _ same))

-- the same from an offset on, up to which the run is known
pub goes_past : (p : ℕ → Bool) (d : List ℕ) (i n r : ℕ) → i + n ≤ length d → r ≡ prefix_len p (chunk i n d) → n ≤ r
    → prefix_len p d ≡ i + prefix_len p (drop i d)
    → prefix_len p d ≡ (i + n) + prefix_len p (drop (i + n) d)
goes_past p d i n r room counted whole before =
    let rest = prefix_passes p (drop i d) n r (omega (arith, length-drop i d)) counted whole in
    let joined = ap (prefix_len p) (drop-drop n i d) in
    omega (arith, rest, joined)

-- ---- a run that is known up to an offset
past-at : (b : Bool) (i n m : ℕ) → (i ≤ n → i + m ≡ n) → suc i ≤ cond b (1 + n) 0 → suc i + m ≡ cond b (1 + n) 0
past-at true i n m later h = omega (arith, later (omega arith))
past-at false i n m later h = absurd (omega arith)

pub past : (p : ℕ → Bool) (d : List ℕ) (i : ℕ) → i ≤ prefix_len p d → i + prefix_len p (drop i d) ≡ prefix_len p d
past p d zero h = zero-add (prefix_len p d)
past p [] (suc i) h = absurd (omega arith)
past p (x ∷ xs) (suc i) h = past-at (p x) i (prefix_len p xs) (prefix_len p (drop i xs)) (past p xs i) h

-- it goes on past a block there
pub passes_block : (d : List ℕ) (i n r : ℕ) → i + n ≤ length d → r ≡ prefix_len is_plain (chunk i n d) → n ≤ r
    → i ≤ prefix_len is_plain d → i + n ≤ prefix_len is_plain d
passes_block d i n r room counted whole before =
    let rest = prefix_passes is_plain (drop i d) n r (omega (arith, length-drop i d)) counted whole in
    omega (arith, rest, past is_plain d i before)

-- it ends in that block
pub ends_in_block : (d : List ℕ) (i n r : ℕ) → i + n ≤ length d → r ≡ prefix_len is_plain (chunk i n d) → r < n
    → i ≤ prefix_len is_plain d → i + r ≡ prefix_len is_plain d
ends_in_block d i n r room counted short before =
    let rest = prefix_ends is_plain (drop i d) n r (omega (arith, length-drop i d)) counted short in
    omega (arith, rest, past is_plain d i before)

-- that block is the last
pub ends_in_last : (d : List ℕ) (i n r : ℕ) → i + n ≡ length d → r ≡ prefix_len is_plain (chunk i n d)
    → i ≤ prefix_len is_plain d → i + r ≡ prefix_len is_plain d
ends_in_last d i n r whole counted before =
    let left : n ≡ length d - i = omega arith in
    ap (λ (m : ℕ). i + m) (counted ∙ ap (λ (m : ℕ). prefix_len is_plain (take m (drop i d))) left
    ∙ ap (prefix_len is_plain) (take_rest d i)) ∙ past is_plain d i before

-- ---- the first n bytes of a text and the last n, side by side
side_by_side : (d zs : List ℕ) (n : ℕ) → length zs ≡ n + n → n ≤ length d
    → take (n + n) (put_chunk n (put_chunk 0 zs (chunk 0 n d)) (chunk (length d - n) n d))
    ≡ take n d ++ chunk (length d - n) n d
side_by_side d zs n long room =
    let one = put_chunk 0 zs (take n d) in
    let last = chunk (length d - n) n d in
    let len : length (take n d) ≡ n = length-take-le n d room in
    take_more_put_chunk n one last (n + n) (omega (arith, length-chunk (length d - n) n d (omega arith)))
    (omega (arith, long, length-put_chunk 0 zs (take n d)))
    ∙ ap (λ (l : List ℕ). l ++ last) (take_more_put_chunk 0 zs (take n d) n (omega (arith, len)) (omega (arith, long)))

-- if they are all plain, the text is
pub plain_by_ends : (d zs : List ℕ) (n : ℕ) → length zs ≡ n + n → n ≤ length d → length d ≤ n + n
    → n + n ≡ prefix_len is_plain (take (n + n) (put_chunk n (put_chunk 0 zs (chunk 0 n d)) (chunk (length d - n) n d)))
    → length d ≤ prefix_len is_plain d
plain_by_ends d zs n long room covered plain =
    let k : ℕ = length d - n in
    let first : ℕ = prefix_len is_plain (take n d) in
    let len : length (take n d) ≡ n = length-take-le n d room in
    let both = plain ∙ ap (prefix_len is_plain) (side_by_side d zs n long room)
    ∙ prefix_len-append is_plain (take n d) (chunk k n d) in
    elim (cases_eq first (length (take n d))) [
      | inl e ↦
          let one : n ≡ first = omega (arith, e, len) in
          let two : n ≡ prefix_len is_plain (chunk k n d) = omega (arith, both ∙ cond-true _ _ _ (eq-eqb _ _ e), len) in
          let passed = prefix_passes is_plain d n n room one (omega arith) in
          omega (arith, ends_in_last d k n n (omega arith) two (omega (arith, passed)))
      | inr e ↦
          omega (arith, both ∙ cond-false _ _ _ (ne_eqb _ _ e), len, prefix_len-le-length is_plain (take n d))
    ]
