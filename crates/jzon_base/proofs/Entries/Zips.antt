-- Separate lists of keys and values, as a list of entries.
use Rattle.jzon_base.proofs.Common.{◌≡◌, ℕ, zero, suc, List, [], ◌∷◌, ◌++◌, length, set, Some, refl, sym, ap, ◌∙◌}
use Rattle.jzon_base.proofs.Common.{arith, length_push, keys_of-zip, length-zip, zip, remove, slice_get}
use Rattle.std.proofs.lemmas.Slice.Zip.{seconds-zip}
use Rattle.jzon_base.specs.PairList.{keys_of, values_of, set_value}

none_at : {A : Type 0} {x : A} (i : ℕ) → slice_get [] i ≡ Some x → ⊥
none_at i e = cc

module _ {V : Type 0} where
  pub slice_get-zip : (ks : List (List ℕ)) (vs : List V) (i : ℕ) (k : List ℕ) (v : V) → slice_get ks i ≡ Some k
      → slice_get vs i ≡ Some v → slice_get (zip ks vs) i ≡ Some (k, v)
  slice_get-zip [] vs i k v a b = absurd (none_at i a)
  slice_get-zip (x ∷ ks) [] i k v a b = absurd (none_at i b)
  slice_get-zip (x ∷ ks) (y ∷ vs) zero k v a b = cc
  slice_get-zip (x ∷ ks) (y ∷ vs) (suc i) k v a b = slice_get-zip ks vs i k v a b

  pub zip-push : (ks : List (List ℕ)) (vs : List V) (k : List ℕ) (v : V) → length vs ≡ length ks
      → zip (ks ++ k ∷ []) (vs ++ v ∷ []) ≡ zip ks vs ++ (k, v) ∷ []
  zip-push [] [] k v e = refl
  zip-push [] (w ∷ vs) k v e = absurd (omega arith)
  zip-push (l ∷ ks) [] k v e = absurd (omega arith)
  zip-push (l ∷ ks) (w ∷ vs) k v e = ap (λ r. (l, w) ∷ r) (zip-push ks vs k v (omega arith))

  pub zip-parts : (ps : List (List ℕ × V)) → zip (keys_of ps) (values_of ps) ≡ ps
  zip-parts [] = refl
  zip-parts (p ∷ ps) = ap (λ r. p ∷ r) (zip-parts ps)

  -- the last key and the last of as many values
  pub length-last : (ks ls : List (List ℕ)) (vs ws : List V) (k : List ℕ) (v : V) → ks ≡ ls ++ k ∷ []
      → vs ≡ ws ++ v ∷ [] → length vs ≡ length ks → length ws ≡ length ls
  length-last ks ls vs ws k v e f n = omega (arith, ap length e, ap length f, length_push ls k, length_push ws v)

  pub zip-last : (ks ls : List (List ℕ)) (vs ws : List V) (k : List ℕ) (v : V) → ks ≡ ls ++ k ∷ [] → vs ≡ ws ++ v ∷ []
      → length vs ≡ length ks → zip ks vs ≡ zip ls ws ++ (k, v) ∷ []
  zip-last ks ls vs ws k v e f n = (λ i. zip (e i) (f i)) ∙ zip-push ls ws k v (length-last ks ls vs ws k v e f n)

  pub zip-set : (ks : List (List ℕ)) (vs : List V) (i : ℕ) (v : V) → zip ks (set vs i v) ≡ set_value (zip ks vs) i v
  zip-set [] vs i v = refl
  zip-set (k ∷ ks) [] i v = refl
  zip-set (k ∷ ks) (w ∷ vs) zero v = refl
  zip-set (k ∷ ks) (w ∷ vs) (suc i) v = ap (λ r. (k, w) ∷ r) (zip-set ks vs i v)

  pub zip-remove : (ks : List (List ℕ)) (vs : List V) (i : ℕ) → length vs ≡ length ks
      → zip (remove ks i) (remove vs i) ≡ remove (zip ks vs) i
  zip-remove [] [] zero e = refl
  zip-remove [] [] (suc i) e = refl
  zip-remove [] (v ∷ vs) i e = absurd (omega arith)
  zip-remove (k ∷ ks) [] i e = absurd (omega arith)
  zip-remove (k ∷ ks) (v ∷ vs) zero e = refl
  zip-remove (k ∷ ks) (v ∷ vs) (suc i) e = ap (λ r. (k, v) ∷ r) (zip-remove ks vs i (omega arith))

  -- keys and as many values, and the entries that they represent
  pub record AreParts (ks : List (List ℕ)) (vs : List V) (ps : List (List ℕ × V)) : Type 0 where
    pub keys : ks ≡ keys_of ps
    pub values : vs ≡ values_of ps
    pub keys_length : length ks ≡ length ps
    pub values_length : length vs ≡ length ps

  pub AreParts-zip : (ks : List (List ℕ)) (vs : List V) (ps : List (List ℕ × V)) → zip ks vs ≡ ps
      → length vs ≡ length ks → AreParts ks vs ps
  AreParts-zip ks vs ps e n =
      let l : length ks ≡ length ps = omega (arith, length-zip ks vs, ap length e) in
      record {
        keys = sym (keys_of-zip ks vs n) ∙ ap keys_of e;
        values = sym (seconds-zip ks vs n) ∙ ap values_of e;
        keys_length = l;
        values_length = n ∙ l;
      }
