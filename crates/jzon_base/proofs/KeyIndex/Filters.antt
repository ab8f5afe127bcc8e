-- The filter of keys.
use Rattle.jzon_base.proofs.Common.{◌≡◌, ◌∙◌, ℕ, ◌<◌, ◌*◌, ◌%◌, ◌^◌, List, ◌∷◌, ◌++◌, [], Bool, true, false, length}
use Rattle.jzon_base.proofs.Common.{get_or, set, bit_or, sym, ap, subst, inl, inr, arith, get_or-set_same, get_or-set_other}
use Rattle.jzon_base.proofs.Common.{get_or_append_left, length-append}
use Rattle.jzon_base.proofs.Common.{All, All-push, cases_Bool, bytes_eq, bytes_eq-Decides, list_any, true≢false, IsDistinct}
use Rattle.std.specs.Int.{bit_at, w64}
use Rattle.std.proofs.lemmas.Bool.{cases_eq}
use Rattle.std.proofs.lemmas.List.Folds.{list_any_none}
use Rattle.std.proofs.lemmas.Nat.Bits.{bit_at_set_same, bit_at_set_other}
use Rattle.jzon_base.specs.declared.keys.known.KnownKeys.{KnownKeys}
use Rattle.jzon_base.specs.declared.keys.known.KnownKeys.TheVariants.{Few, Indexed}
use Rattle.jzon_base.specs.Private.Filter.{HasBit, HaveBits, HasWordBit, word_bit_of}
use Rattle.jzon_base.specs.Private.KnownKeys.{Knows}

-- the word, with one bit set
abbrev pub word_with : ℕ → ℕ → ℕ
word_with w s = bit_or w (1 * 2 ^ s % 2 ^ 64)

pub word_bit_kept : (w s t : ℕ) → s < 64 → bit_at w t ≡ 1 → bit_at (word_with w s) t ≡ 1
word_bit_kept w s t within h = elim (cases_eq t s) [
  | inl same ↦ subst (λ n. bit_at (word_with w s) n ≡ 1) (sym same) (bit_at_set_same w64 w s within)
  | inr other ↦ bit_at_set_other w64 w s within t other ∙ h
]

-- the words, with one bit set
abbrev pub with_bit : List ℕ → ℕ → ℕ → List ℕ
with_bit ws i s = set ws i (word_with (get_or ws i 0) s)

module _ (ws : List ℕ) (i s : ℕ) (l : i < length ws) (within : s < 64) where
  pub bit_same : bit_at (get_or (with_bit ws i s) i 0) s ≡ 1
  bit_same = ap (λ w. bit_at w s) (get_or-set_same ws i _ 0 l) ∙ bit_at_set_same w64 (get_or ws i 0) s within

  pub bit_kept : (j t : ℕ) → bit_at (get_or ws j 0) t ≡ 1 → bit_at (get_or (with_bit ws i s) j 0) t ≡ 1
  bit_kept j t h = elim (cases_eq j i) [
    | inr apart ↦ ap (λ w. bit_at w t) (get_or-set_other ws i j _ 0 apart) ∙ h
    | inl here ↦ subst (λ n. bit_at (get_or (with_bit ws i s) n 0) t ≡ 1) (sym here)
        (ap (λ w. bit_at w t) (get_or-set_same ws i _ 0 l)
        ∙ word_bit_kept (get_or ws i 0) s t within (subst (λ n. bit_at (get_or ws n 0) t ≡ 1) here h))
  ]

-- of what all keys have, a key that hasn't got it is missing
pub missing_by : (P : List ℕ → Type 0) (ks : List (List ℕ)) (name : List ℕ) (b : Bool) → All P ks
    → (P name → b ≡ true) → b ≡ false → list_any (λ k. bytes_eq k name) ks ≡ false
missing_by P ks name b all known clear = list_any_none (λ k. bytes_eq k name) ks
    (λ i d l. elim (cases_Bool (bytes_eq (get_or ks i d) name)) [
      | inr other ↦ other
      | inl same ↦ absurd (true≢false (sym (known (subst P ((bytes_eq-Decides _ name).0 same) (all i d l))) ∙ clear))
    ])

-- keys and one more have their bits, once its bit is set
pub HasWordBit-push : (w s : ℕ) (ks : List (List ℕ)) (k : List ℕ) → s < 64 → s ≡ word_bit_of k → All (HasWordBit w) ks
    → All (HasWordBit (word_with w s)) (ks ++ k ∷ [])
HasWordBit-push w s ks k within is bits = All-push (HasWordBit (word_with w s)) ks k
    (λ i d l. word_bit_kept w s _ within (bits i d l))
    (subst (λ n. bit_at (word_with w s) n ≡ 1) is (bit_at_set_same w64 w s within))

pub HaveBits-before : (ks : List (List ℕ)) (k : List ℕ) (ws : List ℕ) → HaveBits (ks ++ k ∷ []) ws → HaveBits ks ws
HaveBits-before ks k ws bits = λ i d l. subst (HasBit ws) (get_or_append_left ks (k ∷ []) d i l)
    (bits i d (omega (arith, l, length-append ks (k ∷ []))))

-- known keys are distinct, few or many
pub IsDistinct-known : (ks : List (List ℕ)) (known : KnownKeys) → Knows ks known → IsDistinct bytes_eq ks
IsDistinct-known ks (Few filter) k = k.0
IsDistinct-known ks (Indexed index) k = k.distinct
