-- The walk passes over runs of bytes that mean nothing to it: whitespace and digits outside of strings, and inside them
-- bytes that need no escape. And a string is passed as a whole.
use Rattle.jzon_base.proofs.Common.{◌≡◌, ◌∙◌, ◌≤◌, ◌<◌, ◌+◌, ◌^◌, ◌%◌, ℕ, suc, List, [], ◌∷◌, Bool, true, false, not, cond, ◌==◌, if◌then◌else◌, refl, sym, ap, ap₂, arith, nat_tests, length, drop, get_or, Some, eqb, ltb, replicate, map}
use Rattle.jzon_base.proofs.Common.{and_parts, cond-false, cond-true, drop-drop, eq-eqb, length-chunk, length-map, map-map, mask_l-mod, ne_eqb, zip2_splat}
use Rattle.std.proofs.Common.{leb}
use Rattle.std.proofs.lemmas.List.{drop_more}
use Rattle.std.proofs.lemmas.Simd.{first_set_mask_l, zip2_splat_left}
use lib.Count.{count_trailing_zeros}
use lib.Lanes.{chunk, mask_l, top, zip2}
use Rattle.jzon_base.specs.Private.PlainBytes.{is_plain}
use Rattle.jzon.specs.Private.Lines.{is_below}
use Rattle.jzon.proofs.Texts.AsciiRuns.{within_run}
use Rattle.std.specs.Int.Bits.{bit_xor, xor_zero_r}
use Rattle.std.specs.List.{prefix_len}
use Rattle.std.specs.Option.{option_map_or}
use Rattle.jzon_pointer.specs.Private.Walk.{after_whitespace, is_blank, skim, string_rest, Escaped, Outside, Quoted}
use Rattle.jzon_pointer.proofs.LocateSteps.{passes, pass_one, string_one}

-- f goes on after a byte that passes the test
abbrev Passes : (ℕ → Bool) → (List ℕ → List ℕ) → Type 0
Passes p f = (c : ℕ) (cs : List ℕ) → p c ≡ true → f (c ∷ cs) ≡ f cs

run_by : (p : ℕ → Bool) (f : List ℕ → List ℕ) → Passes p f → (c : ℕ) (cs : List ℕ) (q : Bool) → p c ≡ q
    → f (drop (prefix_len p cs) cs) ≡ f cs
    → f (drop (cond q (1 + prefix_len p cs) 0) (c ∷ cs)) ≡ f (c ∷ cs)
run_by p f h c cs true e ih =
    let same : 1 + prefix_len p cs ≡ suc (prefix_len p cs) = omega arith in
    ap (λ k. f (drop k (c ∷ cs))) same ∙ ih ∙ sym (h c cs e)
run_by p f h c cs false e ih = refl

run : (p : ℕ → Bool) (f : List ℕ → List ℕ) → Passes p f → (xs : List ℕ) → f (drop (prefix_len p xs) xs) ≡ f xs
run p f h [] = refl
run p f h (c ∷ cs) = run_by p f h c cs (p c) refl (run p f h cs)

run_at : (p : ℕ → Bool) (f : List ℕ → List ℕ) → Passes p f → (bytes : List ℕ) (at n : ℕ)
    → n ≡ prefix_len p (drop at bytes) → f (drop (at + n) bytes) ≡ f (drop at bytes)
run_at p f h bytes at n e =
    ap f (sym (drop-drop n at bytes) ∙ ap (λ k. drop k (drop at bytes)) e) ∙ run p f h (drop at bytes)

pub string_plain : (bytes : List ℕ) (at n : ℕ) → n ≡ prefix_len is_plain (drop at bytes)
    → string_rest false (drop (at + n) bytes) ≡ string_rest false (drop at bytes)
string_plain bytes at n e =
    run_at is_plain (string_rest false) (λ c cs p. string_one c cs (c == 34) (c == 92) (and_parts _ _ p).1) bytes at n e

-- ---- outside of strings

digit_passes : (c : ℕ) → is_below 48 10 c ≡ true → passes c ≡ true
digit_passes c h = grind (arith, nat_tests)

-- the end of the run of bytes that pass a test
abbrev EndsRun : (ℕ → Bool) → List ℕ → ℕ → ℕ → Type 0
EndsRun p bytes at end = end ≡ at + prefix_len p (drop at bytes)

skim_run : (p : ℕ → Bool) → ((c : ℕ) → p c ≡ true → passes c ≡ true) → (bytes : List ℕ) (at end : ℕ)
    → EndsRun p bytes at end → (d : ℕ) → skim (Outside d) (drop end bytes) ≡ skim (Outside d) (drop at bytes)
skim_run p h bytes at end e d =
    ap (λ k. skim (Outside d) (drop k bytes)) e
    ∙ run_at p (skim (Outside d)) (λ c cs is. pass_one d c cs (h c is)) bytes at (prefix_len p (drop at bytes)) refl

pub skim_digits : (bytes : List ℕ) (at end : ℕ) → EndsRun (is_below 48 10) bytes at end
    → (d : ℕ) → skim (Outside d) (drop end bytes) ≡ skim (Outside d) (drop at bytes)
skim_digits = skim_run (is_below 48 10) digit_passes

pub run_ends_within : (p : ℕ → Bool) (bytes : List ℕ) (at end : ℕ) → at ≤ length bytes → EndsRun p bytes at end
    → end ≤ length bytes
run_ends_within p bytes at end h e =
    omega (arith, e, within_run p bytes at (prefix_len p (drop at bytes)) h refl)

below_blank : (c : ℕ) → is_below 0 33 c ≡ is_blank c
below_blank c = ap (λ x. ltb x 33) (xor_zero_r c)

blank_passes : (c : ℕ) → is_below 0 33 c ≡ true → passes c ≡ true
blank_passes c h = let b = sym (below_blank c) ∙ h in grind (arith, nat_tests, b)

pub skim_blanks : (bytes : List ℕ) (at end : ℕ) → EndsRun (is_below 0 33) bytes at end
    → (d : ℕ) → skim (Outside d) (drop end bytes) ≡ skim (Outside d) (drop at bytes)
skim_blanks = skim_run (is_below 0 33) blank_passes

blank_by : (c : ℕ) (cs : List ℕ) (q : Bool) → is_blank c ≡ q → drop (prefix_len (is_below 0 33) cs) cs ≡ after_whitespace cs
    → drop (cond q (1 + prefix_len (is_below 0 33) cs) 0) (c ∷ cs) ≡ (if q then after_whitespace cs else c ∷ cs)
blank_by c cs true e ih =
    let same : 1 + prefix_len (is_below 0 33) cs ≡ suc (prefix_len (is_below 0 33) cs) = omega arith in
    ap (λ k. drop k (c ∷ cs)) same ∙ ih
blank_by c cs false e ih = refl

blanks : (xs : List ℕ) → drop (prefix_len (is_below 0 33) xs) xs ≡ after_whitespace xs
blanks [] = refl
blanks (c ∷ cs) =
    ap (λ (q : Bool). drop (cond q (1 + prefix_len (is_below 0 33) cs) 0) (c ∷ cs)) (below_blank c)
    ∙ blank_by c cs (is_blank c) refl (blanks cs)

pub after_blanks : (bytes : List ℕ) (at end : ℕ) → EndsRun (is_below 0 33) bytes at end
    → drop end bytes ≡ after_whitespace (drop at bytes)
after_blanks bytes at end e =
    ap (λ k. drop k bytes) e ∙ sym (drop-drop (prefix_len (is_below 0 33) (drop at bytes)) at bytes)
    ∙ blanks (drop at bytes)

-- ---- a string as a whole

quoted_by : (d : ℕ) (q f : Bool) (c : ℕ) (cs : List ℕ) → skim (Quoted d) cs ≡ skim (Outside d) (string_rest false cs)
    → skim (Escaped d) cs ≡ skim (Outside d) (string_rest true cs)
    → option_map_or (λ p. skim p cs)
    (if q then Some (Outside d) else (if f then Some (Escaped d) else Some (Quoted d))) (c ∷ cs)
    ≡ skim (Outside d) (if q then cs else string_rest f cs)
quoted_by d true f c cs one two = refl
quoted_by d false true c cs one two = two
quoted_by d false false c cs one two = one

mutual
  quoted : (d : ℕ) (cs : List ℕ) → skim (Quoted d) cs ≡ skim (Outside d) (string_rest false cs)
  quoted d [] = refl
  quoted d (c ∷ cs) = quoted_by d (c == 34) (c == 92) c cs (quoted d cs) (escaped d cs)

  escaped : (d : ℕ) (cs : List ℕ) → skim (Escaped d) cs ≡ skim (Outside d) (string_rest true cs)
  escaped d [] = refl
  escaped d (c ∷ cs) = quoted d cs

-- a string whose opening quote is at an offset
pub skim_string : (bytes : List ℕ) (d at end : ℕ) → at < length bytes → get_or bytes at 0 ≡ 34
    → drop end bytes ≡ string_rest false (drop (at + 1) bytes)
    → skim (Outside d) (drop end bytes) ≡ skim (Outside d) (drop at bytes)
skim_string bytes d at end lt quote e =
    ap (skim (Outside d)) e ∙ sym (quoted d (drop (at + 1) bytes))
    ∙ ap (λ c. skim (Outside d) (c ∷ drop (at + 1) bytes)) (sym quote) ∙ sym (ap (skim (Outside d)) (drop_more bytes at 0 lt))

-- ---- 16 bytes at once

abbrev above : ℕ → ℕ → ℕ
above b x = cond (leb b x) 255 0

abbrev stops : ℕ → ℕ → ℕ → Bool
stops a b x = top 7 (above b (bit_xor x a))

-- the bytes of a block that end the run, a bit for each
abbrev pub mask_of : ℕ → ℕ → List ℕ → ℕ
mask_of a b v = mask_l (map (top 7) (zip2 above (replicate 16 b) (zip2 bit_xor v (replicate 16 a)))) % 2 ^ 64

mask_is : (a b : ℕ) (v : List ℕ) → length v ≡ 16 → mask_of a b v ≡ mask_l (map (stops a b) v)
mask_is a b v long =
    let turned = zip2_splat bit_xor v 16 a long in
    let lanes = ap (zip2 above (replicate 16 b)) turned
    ∙ zip2_splat_left above b 16 (map (λ x. bit_xor x a) v) (length-map v (λ x. bit_xor x a) ∙ long)
    ∙ map-map (above b) (λ x. bit_xor x a) v in
    ap (λ l. mask_l l % 2 ^ 64) (ap (map (top 7)) lanes ∙ map-map (top 7) (λ x. above b (bit_xor x a)) v)
    ∙ mask_l-mod (map (stops a b) v) 64 (omega (arith, length-map v (stops a b), long))

lane_by : (q : Bool) → not (top 7 (cond q 255 0)) ≡ not q
lane_by true = refl
lane_by false = refl

not_above : (b x : ℕ) → not (leb b x) ≡ ltb x b
not_above b x = grind (arith, nat_tests)

same_run : (a b : ℕ) (v : List ℕ) → prefix_len (λ x. not (stops a b x)) v ≡ prefix_len (is_below a b) v
same_run a b [] = refl
same_run a b (x ∷ xs) =
    ap₂ (λ (q : Bool) (n : ℕ). cond q (1 + n) 0)
    (lane_by (leb b (bit_xor x a)) ∙ not_above b (bit_xor x a)) (same_run a b xs)

first_stop : (a b : ℕ) (d : List ℕ) (i : ℕ) → i + 16 ≤ length d
    → cond (eqb (mask_of a b (chunk i 16 d)) 0) 16 (count_trailing_zeros 64 (mask_of a b (chunk i 16 d)))
    ≡ prefix_len (is_below a b) (chunk i 16 d)
first_stop a b d i room =
    let v = chunk i 16 d in
    let long = length-chunk i 16 d room in
    ap (λ m. cond (eqb m 0) 16 (count_trailing_zeros 64 m)) (mask_is a b v long)
    ∙ first_set_mask_l (stops a b) v 16 long (omega arith) ∙ same_run a b v

-- if no byte stops, the run goes on past the block
pub block_none : (a b : ℕ) (d : List ℕ) (i : ℕ) → i + 16 ≤ length d → mask_of a b (chunk i 16 d) ≡ 0
    → 16 ≡ prefix_len (is_below a b) (chunk i 16 d)
block_none a b d i room none = sym (cond-true _ _ _ (eq-eqb _ _ none)) ∙ first_stop a b d i room

-- otherwise the first that stops ends it
pub block_some : (a b : ℕ) (d : List ℕ) (i : ℕ) → i + 16 ≤ length d → (mask_of a b (chunk i 16 d) ≡ 0 → ⊥)
    → count_trailing_zeros 64 (mask_of a b (chunk i 16 d)) ≡ prefix_len (is_below a b) (chunk i 16 d)
block_some a b d i room some = sym (cond-false _ _ _ (ne_eqb _ _ some)) ∙ first_stop a b d i room
