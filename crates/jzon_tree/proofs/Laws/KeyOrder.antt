-- Positions that were sorted by the keys at them, for generators that sort.
use Rattle.jzon_base.proofs.Common.{Ordering, ◌≡◌, ℕ, zero, suc, ◌+◌, ◌<◌, false, IsTrue, List, [], ◌∷◌, ◌++◌}
use Rattle.jzon_base.proofs.Common.{append-nil, length, get_or, map, Bor, Some, refl, sym, ap, ◌∙◌, subst, arith}
use Rattle.jzon_base.proofs.Common.{length-map, slice_get-get_or, slice_get, slice_cmp, nat_cmp, is_lt}
use Rattle.std.specs.List.Sorted.{IsSortedByKey}
use Rattle.std.specs.Option.{option_cmp}
use Rattle.jzon_base.specs.PairList.{keys_of}
use Rattle.jzon_tree.specs.SortedStyle.{is_before, ascend}
use Rattle.jzon_tree.specs.Writing.{IsOrder, text_at}
use Rattle.jzon_tree.proofs.Laws.Sorted.{ascend_in_order}

-- the texts that the references point to
abbrev pub texts_of : List (Bor (List ℕ)) → List (List ℕ)
texts_of = map (λ key. key.now)

text_lent : (keys : List (Bor (List ℕ))) (p : ℕ) (d : Bor (List ℕ)) → p < length keys
    → (get_or keys p d).now ≡ text_at (texts_of keys) p
text_lent [] p d h = absurd (omega arith)
text_lent (k ∷ ks) zero d h = refl
text_lent (k ∷ ks) (suc p) d h = text_lent ks p d (omega arith)

key_at : (keys : List (Bor (List ℕ))) (p : ℕ) → p < length keys
    → (key : Bor (List ℕ)) × (slice_get keys p ≡ Some key) × (key.now ≡ text_at (texts_of keys) p)
key_at [] p h = absurd (omega arith)
key_at (k ∷ ks) p h = (get_or (k ∷ ks) p k, slice_get-get_or (k ∷ ks) p k h, text_lent (k ∷ ks) p k h)

abbrev by_text : Bor (List ℕ) → Bor (List ℕ) → Ordering
by_text a b = slice_cmp nat_cmp a.now b.now

module _ (keys : List (Bor (List ℕ))) (ps : List ℕ) (order : IsOrder (length keys) ps)
    (sorted : IsSortedByKey (slice_get keys) (option_cmp by_text) ps) where
  step : (p q : ℕ) (k : ℕ) → k + 1 < length ps → get_or ps k 0 ≡ p → get_or ps (k + 1) 0 ≡ q
      → p < length (texts_of keys)
      → q < length (texts_of keys) → is_before (text_at (texts_of keys) q) (text_at (texts_of keys) p) ≡ false
  step p q k h e f l m =
      let a = key_at keys p (omega (arith, l, length-map keys (λ key. key.now))) in
      let b = key_at keys q (omega (arith, m, length-map keys (λ key. key.now))) in
      let here : is_lt (option_cmp by_text (slice_get keys q) (slice_get keys p)) ≡ false =
      subst (λ (x : ℕ). is_lt (option_cmp by_text (slice_get keys x) (slice_get keys p)) ≡ false) f
      (subst (λ (x : ℕ). is_lt (option_cmp by_text (slice_get keys (get_or ps (k + 1) 0)) (slice_get keys x)) ≡ false) e
      (sorted k 0 (omega arith) h))
      in
      (λ i. is_before (sym b.2 i) (sym a.2 i)) ∙ (λ i. is_lt (option_cmp by_text (sym b.1 i) (sym a.1 i))) ∙ here

  pub in_key_order : IsTrue (ascend (map (text_at (texts_of keys)) ps))
  in_key_order = ascend_in_order (texts_of keys) ps (rw (length-map keys (λ key. key.now)) order) step

-- ---- the keys of entries, one after the other
texts_append : (keys : List (Bor (List ℕ))) (key : Bor (List ℕ)) (more : List (List ℕ))
    → texts_of (keys ++ key ∷ []) ++ more ≡ texts_of keys ++ key.now ∷ more
texts_append [] key more = refl
texts_append (k ∷ ks) key more = ap (λ (ts : List (List ℕ)). k.now ∷ ts) (texts_append ks key more)

module _ {V : Type 0} (keys : List (Bor (List ℕ))) (rest : List (List ℕ × V)) (all : List (List ℕ))
    (h : texts_of keys ++ keys_of rest ≡ all) where
  pub key_taken : (more : List (Bor (List ℕ))) (key : Bor (List ℕ)) (next : List (List ℕ × V)) (v : V)
      → more ≡ keys ++ key ∷ []
      → rest ≡ (key.now, v) ∷ next → texts_of more ++ keys_of next ≡ all
  key_taken more key next v e f =
      ap (λ (ks : List (Bor (List ℕ))). texts_of ks ++ keys_of next) e ∙ texts_append keys key (keys_of next)
      ∙ ap (λ (ps : List (List ℕ × V)). texts_of keys ++ keys_of ps) (sym f) ∙ h

  pub keys_taken : rest ≡ [] → texts_of keys ≡ all
  keys_taken e =
      sym (append-nil (texts_of keys)) ∙ ap (λ (ps : List (List ℕ × V)). texts_of keys ++ keys_of ps) (sym e) ∙ h
