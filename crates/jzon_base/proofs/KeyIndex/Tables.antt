-- Keys, and the index of their hashes if there is one.
use Rattle.jzon_base.proofs.Common.{◌≡◌, ℕ, zero, suc, ◌+◌, ◌<◌, eqb, not, List, [], ◌∷◌, ◌++◌, length, get_or, map}
use Rattle.jzon_base.proofs.Common.{filter, None, refl, sym, ap, ◌∙◌, subst, arith, append-nil, get_or-map, All-nil}
use Rattle.jzon_base.proofs.Common.{All-cons, IsPermutation-refl, bytes_eq-Decides, position, remove, IsDistinct}
use Rattle.jzon_base.proofs.Common.{IsPermutation, IsSorted, bytes_eq}
use Rattle.std.proofs.Math.ListN.{length-map}
use Rattle.jzon_base.specs.Private.Runs.{numbered, all_entries, AreHanded, IsIndexOf, IsIndexed, IsTable}
use Rattle.jzon_base.specs.Private.Hash.{hash_of}
use Rattle.jzon_base.specs.Private.Keys.{entry_cmp, hashed_from, index_entry, lowered}
use Rattle.jzon_base.proofs.KeyIndex.FlatRuns.{flat_cut}
use Rattle.jzon_base.proofs.KeyIndex.Searches.{IsIndexOf-remove}
use Rattle.jzon_base.proofs.KeyIndex.Indexes.{is_other, IsDistinct-missing, IsDistinct-remove}
use Rattle.jzon_base.specs.declared.keys.entries.IndexEntry.{IndexEntry}

-- ---- hashes passed by the caller

pub hashed_from-numbered : (n : ℕ) (ks : List (List ℕ)) → hashed_from n ks ≡ numbered n (map hash_of ks)
unfolding hashed_from numbered
hashed_from-numbered n [] = refl
hashed_from-numbered n (k ∷ ks) = ap (λ ps. index_entry (hash_of k) n ∷ ps) (hashed_from-numbered (n + 1) ks)

pub IsIndexOf-none : IsIndexOf [] [] []
unfolding numbered
IsIndexOf-none = record { even = refl; whole = IsPermutation-refl []; sorted = All-nil (IsSorted (entry_cmp [])) }

-- the entries of keys in one run
pub IsIndexOf-one : (ks : List (List ℕ)) (r : List IndexEntry) → IsPermutation (hashed_from 0 ks) r
    → IsSorted (entry_cmp ks) r → IsIndexOf (map hash_of ks) ks (r ∷ [])
IsIndexOf-one ks r whole up = record {
  even = length-map ks hash_of;
  whole = subst (λ ps. IsPermutation ps (r ++ [])) (hashed_from-numbered 0 ks)
      (subst (IsPermutation (hashed_from 0 ks)) (sym (append-nil r)) whole);
  sorted = All-cons (IsSorted (entry_cmp ks)) r [] up (All-nil (IsSorted (entry_cmp ks)));
}

-- sorted entries of distinct keys
pub IsTable-one : (ks : List (List ℕ)) (r : List IndexEntry) → IsPermutation (hashed_from 0 ks) r
    → IsSorted (entry_cmp ks) r → IsDistinct bytes_eq ks → IsTable ks (r ∷ [])
IsTable-one ks r whole up distinct =
    record { indexed = record { index = λ _. IsIndexOf-one ks r whole up }; distinct = distinct }

-- the hashes may be those of any function
module _ (hash : List ℕ → ℕ) where
  pub hashes-push : (ks : List (List ℕ)) (k : List ℕ) → map hash (ks ++ k ∷ []) ≡ map hash ks ++ hash k ∷ []
  hashes-push [] k = refl
  hashes-push (x ∷ ks) k = ap (λ hs. hash x ∷ hs) (hashes-push ks k)

  hashes-remove : (ks : List (List ℕ)) (i : ℕ) → map hash (remove ks i) ≡ remove (map hash ks) i
  hashes-remove [] zero = refl
  hashes-remove [] (suc i) = refl
  hashes-remove (k ∷ ks) zero = refl
  hashes-remove (k ∷ ks) (suc i) = ap (λ hs. hash k ∷ hs) (hashes-remove ks i)

  pub AreHanded-own : (ks : List (List ℕ)) (name : List ℕ) (h : ℕ) → h ≡ hash name
      → AreHanded (map hash ks) ks h name
  AreHanded-own ks name h own = record {
    own = λ i l same. get_or-map hash ks i [] 0 l ∙ ap hash ((bytes_eq-Decides (get_or ks i []) name).0 same)
        ∙ sym own;
  }

  -- one more key
  pub IsIndexOf-key : (ks : List (List ℕ)) (k : List ℕ) (h : ℕ) (rs : List (List IndexEntry)) → h ≡ hash k
      → IsIndexOf (map hash ks ++ h ∷ []) (ks ++ k ∷ []) rs → IsIndexOf (map hash (ks ++ k ∷ [])) (ks ++ k ∷ []) rs
  IsIndexOf-key ks k h rs own index =
      subst (λ hs. IsIndexOf hs (ks ++ k ∷ []) rs) ((λ i. map hash ks ++ own i ∷ []) ∙ sym (hashes-push ks k)) index

  -- one key fewer
  pub IsIndexOf-cut : (ks : List (List ℕ)) (rs : List (List IndexEntry)) (i : ℕ) → i < length ks
      → IsIndexOf (map hash ks) ks rs
      → IsIndexOf (map hash (remove ks i)) (remove ks i) (map (λ r. map (lowered i) (filter (is_other i) r)) rs)
  IsIndexOf-cut ks rs i l index =
      subst (λ hs. IsIndexOf hs (remove ks i) (map (λ r. map (lowered i) (filter (is_other i) r)) rs))
      (sym (hashes-remove ks i)) (IsIndexOf-remove ks i l (map hash ks) rs index)

-- ---- adding and removing keys

-- runs without entries are the index of no keys
pub IsIndexed-empty : (ks : List (List ℕ)) (rs : List (List IndexEntry)) → length (all_entries rs) ≡ 0 → IsIndexed ks rs
IsIndexed-empty ks rs none = record { index = λ some. absurd (some none) }

pub IsTable-none : (rs : List (List IndexEntry)) → length (all_entries rs) ≡ 0 → IsTable [] rs
unfolding IsDistinct
IsTable-none rs none = record { indexed = IsIndexed-empty [] rs none; distinct = tt }

pub IsTable-push : (ks : List (List ℕ)) (k : List ℕ) (rs : List (List IndexEntry)) → IsDistinct bytes_eq ks
    → position (λ x. bytes_eq x k) ks ≡ None → IsIndexed (ks ++ k ∷ []) rs → IsTable (ks ++ k ∷ []) rs
IsTable-push ks k rs distinct missing indexed = record {
  indexed = indexed;
  distinct = IsDistinct-missing k ks distinct missing;
}

fewer_none : (i : ℕ) (ps : List IndexEntry) → length ps ≡ 0 → length (map (lowered i) (filter (is_other i) ps)) ≡ 0
fewer_none i [] none = refl
fewer_none i (p ∷ ps) none = absurd (omega arith)

pub IsTable-remove : (ks : List (List ℕ)) (rs : List (List IndexEntry)) (i : ℕ) → i < length ks → IsTable ks rs
    → IsTable (remove ks i) (map (λ r. map (lowered i) (filter (λ p. not (eqb p.position i)) r)) rs)
IsTable-remove ks rs i l table = record {
  indexed = record {
    index = λ some. IsIndexOf-cut hash_of ks rs i l (table.indexed.index (λ none.
        some (ap length (flat_cut i rs) ∙ fewer_none i (all_entries rs) none)));
  };
  distinct = IsDistinct-remove ks i l table.distinct;
}
