-- An index of fewer keys in the room of the index of more.
use Rattle.jzon_base.proofs.Common.{◌≡◌, ◌≢◌, ◌∙◌, ℕ, ◌+◌, ◌-◌, ◌<◌, ◌≤◌, min, List, [], ◌∷◌, ◌++◌, length, get_or, set}
use Rattle.jzon_base.proofs.Common.{take, drop, map, sym, ap, subst, arith, zero-add, append-nil, length-append}
use Rattle.jzon_base.proofs.Common.{take-add, take_more_set, drop-set-lt, drop_more, drop_all, length-take-le}
use Rattle.jzon_base.proofs.Common.{flat_map-append, IsPermutation-refl, length_permutation, flat_map, IsPermutation}
use Rattle.jzon_base.proofs.Common.{IsSorted, All-nil, All-push, All-same}
use Rattle.std.proofs.Common.{take_all}
use Rattle.std.proofs.lemmas.List.Sorted.{IsPermutation-append}
use Rattle.std.proofs.Math.ListN.{length-map}
use Rattle.jzon_base.specs.Private.Runs.{all_entries, AreSorted, IsIndexOf, IsIndexed}
use Rattle.jzon_base.specs.Private.Hash.{hash_of}
use Rattle.jzon_base.specs.Private.Keys.{entry_cmp, hashed_from, index_entry}
use Rattle.jzon_base.proofs.KeyIndex.Indexes.{hashed_from-more, hashed_from-append, hashed_from-none}
use Rattle.jzon_base.proofs.KeyIndex.Searches.{length-numbered}
use Rattle.jzon_base.proofs.KeyIndex.Tables.{hashed_from-numbered}
use Rattle.jzon_base.specs.declared.keys.entries.IndexEntry.{IndexEntry}

-- one entry more is replaced
pub hashed_from-set : (from : ℕ) (ks : List (List ℕ)) (n : ℕ) (ps : List IndexEntry) (h : ℕ) (x y : List ℕ)
    → n < length ks → n < length ps → take n ps ≡ hashed_from from (take n ks) → x ≡ get_or ks n x → y ≡ x
    → h ≡ hash_of y → take (n + 1) (set ps n (index_entry h (from + n))) ≡ hashed_from from (take (n + 1) ks)
hashed_from-set from ks n ps h x y l m before is same own =
    take_more_set ps n (index_entry h (from + n)) m ∙ hashed_from-more from ks n (take n ps) h x y l before is same own

-- the first runs have the entries of the first n keys, and the others have room for the rest
pub record AreRefilled (ks : List (List ℕ)) (rs : List (List IndexEntry)) (n i : ℕ) : Type 0 where
  pub within : n ≤ length ks
  pub whole : IsPermutation (hashed_from 0 (take n ks)) (flat_map (λ r. r) (take i rs))
  pub sorted : AreSorted ks (take i rs)
  pub room : length ks ≤ n + length (flat_map (λ r. r) (drop i rs))

pub AreRefilled-none : (ks : List (List ℕ)) (rs : List (List IndexEntry)) → length ks ≤ length (flat_map (λ r. r) rs)
    → AreRefilled ks rs 0 0
AreRefilled-none ks rs room = record {
  within = omega arith;
  whole = subst (λ ps. IsPermutation ps []) (sym (hashed_from-none 0)) (IsPermutation-refl []);
  sorted = All-nil (IsSorted (entry_cmp ks));
  room = omega (arith, room);
}

pub AreRefilled-more : (ks : List (List ℕ)) (rs : List (List IndexEntry)) (n m i : ℕ) (r s : List IndexEntry) → i < length rs
    → r ≡ get_or rs i r → AreRefilled ks rs n i → m ≡ min (n + length r) (length ks)
    → IsPermutation (hashed_from n (take (m - n) (drop n ks))) s → IsSorted (entry_cmp ks) s
    → AreRefilled ks (set rs i s) m (i + 1)
AreRefilled-more ks rs n m i r s l is before end refilled up =
    let w = before.within in
    let split : m ≡ n + (m - n) = omega arith in
    let long = length-take-le n ks w in
    let keys : hashed_from 0 (take m ks) ≡ hashed_from 0 (take n ks) ++ hashed_from n (take (m - n) (drop n ks)) =
    ap (λ (k : ℕ). hashed_from 0 (take k ks)) split
    ∙ ap (hashed_from 0) (take-add n (m - n) ks) ∙ hashed_from-append 0 (take n ks) (take (m - n) (drop n ks))
    ∙ ap (λ (k : ℕ). hashed_from 0 (take n ks) ++ hashed_from k (take (m - n) (drop n ks))) (zero-add _ ∙ long) in
    let runs : flat_map (λ r. r) (take (i + 1) (set rs i s)) ≡ flat_map (λ r. r) (take i rs) ++ s =
    ap (flat_map (λ r. r)) (take_more_set rs i s l) ∙ flat_map-append (λ (r : List IndexEntry). r) (take i rs) (s ∷ [])
    ∙ ap (λ x. flat_map (λ r. r) (take i rs) ++ x) (append-nil s) in
    let rest : flat_map (λ r. r) (drop i rs) ≡ r ++ flat_map (λ r. r) (drop (i + 1) rs) =
    ap (flat_map (λ r. r)) (drop_more rs i r l ∙ ap (λ x. x ∷ drop (i + 1) rs) (sym is)) in
    let left : drop (i + 1) (set rs i s) ≡ drop (i + 1) rs = drop-set-lt (i + 1) rs i s (omega arith) in
    let lengths = length-append r (flat_map (λ r. r) (drop (i + 1) rs)) in
    let room : length ks ≤ n + length (flat_map (λ r. r) (drop i rs)) = before.room in
    record {
      within = omega arith;
      whole = rw (keys, runs) (IsPermutation-append (hashed_from 0 (take n ks)) (flat_map (λ r. r) (take i rs))
          (hashed_from n (take (m - n) (drop n ks))) s before.whole refilled);
      sorted = All-same (IsSorted (entry_cmp ks)) (take (i + 1) (set rs i s)) (take i rs ++ s ∷ [])
          (take_more_set rs i s l) (All-push (IsSorted (entry_cmp ks)) (take i rs) s before.sorted up);
      room = rw left (omega (arith, room, ap length rest, lengths, end));
    }

pub AreRefilled-all : (ks : List (List ℕ)) (rs : List (List IndexEntry)) (n i : ℕ) → length rs ≤ i → AreRefilled ks rs n i
    → IsIndexOf (map hash_of ks) ks rs
AreRefilled-all ks rs n i le before =
    let none : length (flat_map (λ r. r) (drop i rs)) ≡ 0 =
    ap (λ us. length (flat_map (λ r. r) us)) (drop_all i rs le) in
    let all : take n ks ≡ ks = take_all n ks (omega (arith, before.room, none)) in
    record {
      even = length-map ks hash_of;
      sorted = All-same (IsSorted (entry_cmp ks)) rs (take i rs) (sym (take_all i rs le)) before.sorted;
      whole = subst (λ ps. IsPermutation ps (flat_map (λ r. r) rs)) (ap (hashed_from 0) all ∙ hashed_from-numbered 0 ks)
          (subst (λ us. IsPermutation (hashed_from 0 (take n ks)) (flat_map (λ r. r) us))
          (take_all i rs le) before.whole);
    }

-- an index with entries has room for fewer keys
pub room_for_fewer : (ks ls : List (List ℕ)) (rs : List (List IndexEntry)) → IsIndexed ks rs → length ls ≤ length ks
    → length (all_entries rs) ≢ 0 → length ls ≤ length (all_entries rs)
room_for_fewer ks ls rs indexed fewer some = omega (
  arith,
  fewer,
  length_permutation _ (all_entries rs) (indexed.index some).whole,
  length-numbered 0 (map hash_of ks),
  length-map ks hash_of,
)
