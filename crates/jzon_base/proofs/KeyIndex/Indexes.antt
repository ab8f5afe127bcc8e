-- Keys, and the index over their hashes.
use Rattle.jzon_base.proofs.Common.{◌||◌, ◌≡◌, ◌≢◌, ℕ, zero, suc, ◌+◌, ◌-◌, ◌<◌, ◌≤◌, Bool, true, false, not, eqb, List}
use Rattle.jzon_base.proofs.Common.{[], ◌∷◌, ◌++◌, length, get_or, filter, None, Some, take, refl, sym, ap, ◌∙◌, subst}
use Rattle.jzon_base.proofs.Common.{inl, inr, arith, add-zero, zero-add, ltb, get_or_default, get_or-take, take_more}
use Rattle.jzon_base.proofs.Common.{length-take-le, length-take, All-permutation, cases_Bool, cases_lt, ne_eqb, lt-ltb}
use Rattle.jzon_base.proofs.Common.{le-ltb, AllPairs-from_IsDistinct, IsDistinct-from_AllPairs, bytes_eq-Decides}
use Rattle.jzon_base.proofs.Common.{nat_list_eq_equiv, from_bool, All, position, remove, IsDistinct, list_any, bytes_eq}
use Rattle.std.proofs.lemmas.List.Folds.{Any-from_list_any}
use Rattle.std.proofs.lemmas.List.Quantifiers.{all_pairs_remove}
use Rattle.std.proofs.lemmas.Map.Keys.{IsDistinct-push}
use Rattle.jzon_base.specs.Private.Hash.{hash_of}
use Rattle.jzon_base.specs.Private.Keys.{hashed_from, index_entry, lowered, IsIndex}
use Rattle.jzon_base.proofs.KeyIndex.Positions.{position-first, position-None-before}
use Rattle.jzon_base.specs.declared.keys.entries.IndexEntry.{IndexEntry}

-- ---- the index entry (hash, position) of each key

pub length-hashed_from : (n : ℕ) (ks : List (List ℕ)) → length (hashed_from n ks) ≡ length ks
unfolding hashed_from
length-hashed_from n [] = refl
length-hashed_from n (k ∷ ks) = ap suc (length-hashed_from (n + 1) ks)

pub get_or-hashed_from : (ks : List (List ℕ)) (n i : ℕ) (d : IndexEntry) → i < length ks
    → get_or (hashed_from n ks) i d ≡ index_entry (hash_of (get_or ks i [])) (n + i)
unfolding hashed_from
get_or-hashed_from [] n i d l = absurd (omega arith)
get_or-hashed_from (k ∷ ks) n zero d l = ap (index_entry (hash_of k)) (sym (add-zero n))
get_or-hashed_from (k ∷ ks) n (suc i) d l =
    let e : n + 1 + i ≡ n + suc i = omega arith in
    get_or-hashed_from ks (n + 1) i d (omega arith) ∙ ap (index_entry (hash_of (get_or ks i []))) e

pub hashed_from-push : (n : ℕ) (ks : List (List ℕ)) (k : List ℕ)
    → hashed_from n (ks ++ k ∷ []) ≡ hashed_from n ks ++ index_entry (hash_of k) (n + length ks) ∷ []
unfolding hashed_from
hashed_from-push n [] k = ap (λ (m : ℕ). index_entry (hash_of k) m ∷ []) (sym (add-zero n))
hashed_from-push n (x ∷ ks) k =
    let e : n + 1 + length ks ≡ n + suc (length ks) = omega arith in
    ap (λ ps. index_entry (hash_of x) n ∷ ps) (hashed_from-push (n + 1) ks k
    ∙ ap (λ (m : ℕ). hashed_from (n + 1) ks ++ index_entry (hash_of k) m ∷ []) e)

-- p is the index entry of a key
pub record IsEntry (ks : List (List ℕ)) (p : IndexEntry) : Type 0 where
  pub within : p.position < length ks
  pub own : p.hash ≡ hash_of (get_or ks p.position [])

All-hashed : (ks : List (List ℕ)) → All (IsEntry ks) (hashed_from 0 ks)
All-hashed ks i d l =
    let lt : i < length ks = omega (arith, length-hashed_from 0 ks) in
    let e : get_or (hashed_from 0 ks) i d ≡ index_entry (hash_of (get_or ks i [])) i = get_or-hashed_from ks 0 i d lt
    ∙ ap (index_entry (hash_of (get_or ks i []))) (zero-add i) in
    subst (IsEntry ks) (sym e) (record { within = lt; own = refl })

module _ (ks : List (List ℕ)) (ps : List IndexEntry) (index : IsIndex ks ps) where
  pub entry_at : (j : ℕ) (d : IndexEntry) → j < length ps → IsEntry ks (get_or ps j d)
  entry_at = All-permutation (IsEntry ks) (hashed_from 0 ks) ps index.whole (All-hashed ks)

-- ---- a lookup

-- the position of a key equal to the name is the only one
pub only_place : (name : List ℕ) (ks : List (List ℕ)) (i : ℕ) → IsDistinct bytes_eq ks → i < length ks
    → bytes_eq (get_or ks i []) name ≡ true → position (λ k. bytes_eq k name) ks ≡ Some i
only_place name ks i distinct l e =
    position-first (λ k. bytes_eq k name) ks i [] l e (λ j lt. elim (cases_Bool (bytes_eq (get_or ks j []) name)) [
      | inl same ↦ absurd (AllPairs-from_IsDistinct bytes_eq-Decides ks distinct j i [] lt l
          ((bytes_eq-Decides _ name).0 same ∙ sym ((bytes_eq-Decides _ name).0 e)))
      | inr other ↦ other
    ])

-- texts with different last bytes differ
pub other_last : (a b : List ℕ) → get_or a (length a - 1) 0 ≢ get_or b (length b - 1) 0 → bytes_eq a b ≡ false
other_last a b other = elim (cases_Bool (bytes_eq a b)) [
  | inl same ↦ absurd (other (ap (λ k. get_or k (length k - 1) 0) ((bytes_eq-Decides a b).0 same)))
  | inr unequal ↦ unequal
]

-- ---- distinct keys

missing : (k : List ℕ) (ks : List (List ℕ)) → ((j : ℕ) → j < length ks → bytes_eq (get_or ks j []) k ≡ false)
    → list_any (bytes_eq k) ks ≡ false
missing k [] h = refl
missing k (x ∷ ks) h =
    let first : bytes_eq k x ≡ false = nat_list_eq_equiv.symm k x ∙ h 0 (omega arith) in
    rw first (missing k ks (λ j l. h (suc j) (omega arith)))

pub IsDistinct-missing : (k : List ℕ) (ks : List (List ℕ)) → IsDistinct bytes_eq ks
    → position (λ x. bytes_eq x k) ks ≡ None
    → IsDistinct bytes_eq (ks ++ k ∷ [])
IsDistinct-missing k ks d e = IsDistinct-push nat_list_eq_equiv ks k d
    (missing k ks (λ j l. position-None-before (λ x. bytes_eq x k) ks j [] e l))

either_way : (k : List ℕ) (ks : List (List ℕ)) → list_any (bytes_eq k) ks ≡ list_any (λ x. bytes_eq x k) ks
either_way k [] = refl
either_way k (x ∷ ks) = λ i. nat_list_eq_equiv.symm k x i || either_way k ks i

-- one more key, if keys don't repeat
pub IsDistinct-more : (ks : List (List ℕ)) (n m : ℕ) (k name : List ℕ)
    → n < length ks → m ≡ n → IsDistinct bytes_eq (take n ks) → k ≡ get_or ks n k → name ≡ k
    → false ≡ list_any (λ x. bytes_eq x name) (take m ks) → IsDistinct bytes_eq (take (n + 1) ks)
IsDistinct-more ks n m k name l e d is same new =
    rw (take_more ks n k l, ← is)
    (IsDistinct-push nat_list_eq_equiv (take n ks) k d
    (either_way k (take n ks) ∙ (λ i. list_any (λ x. bytes_eq x (sym same i)) (take (sym e i) ks)) ∙ sym new))

-- a key with the name of an earlier one is a repetition
pub repeated : (ks : List (List ℕ)) (n m : ℕ) (k name : List ℕ) → n < length ks → m ≡ n → k ≡ get_or ks n k → name ≡ k
    → true ≡ list_any (λ x. bytes_eq x name) (take m ks) → IsDistinct bytes_eq ks → ⊥
repeated ks n m k name l e is same known distinct =
    let (i, x, within, here, passes) = Any-from_list_any (λ x. bytes_eq x name) (take m ks) (sym known) in
    let before : i < n = omega (arith, within, length-take m ks, e) in
    let at : get_or ks i x ≡ x = sym (get_or-take m ks i x (omega (arith, before, e))) ∙ here in
    AllPairs-from_IsDistinct bytes_eq-Decides ks distinct i n x before l
    (at ∙ (bytes_eq-Decides x name).0 passes ∙ same ∙ is ∙ get_or_default ks n k x l)

pub IsDistinct-remove : (ks : List (List ℕ)) (i : ℕ) → i < length ks → IsDistinct bytes_eq ks
    → IsDistinct bytes_eq (remove ks i)
IsDistinct-remove ks i l d = IsDistinct-from_AllPairs bytes_eq-Decides _
    (all_pairs_remove (λ x y. x ≢ y) ks i l (AllPairs-from_IsDistinct bytes_eq-Decides ks d))

-- ---- adding and removing keys

-- the index entry isn't that of position i
abbrev pub is_other : ℕ → IndexEntry → Bool
is_other i p = not (eqb p.position i)

pub kept_by : (i : ℕ) (p : IndexEntry) (ps : List IndexEntry) → p.position ≢ i
    → filter (is_other i) (p ∷ ps) ≡ p ∷ filter (is_other i) ps
kept_by i p ps ne = rw (ne_eqb p.position i ne)

pub lowered-lower : (i : ℕ) (h n : ℕ) → n < i → lowered i (index_entry h n) ≡ index_entry h n
lowered-lower i h n l = rw (le-ltb i n (omega arith))

pub lowered-higher : (i : ℕ) (h m n : ℕ) → i < n → n ≡ m + 1 → lowered i (index_entry h n) ≡ index_entry h m
lowered-higher i h m n l e =
    let d : n - 1 ≡ m = omega arith in
    rw (lt-ltb i n l, d)

-- ---- index entries and keys as they are read

pub lowered-then : (i : ℕ) (p : IndexEntry) → i < p.position → index_entry p.hash (p.position - 1) ≡ lowered i p
lowered-then i p l = rw (lt-ltb i p.position l)

pub lowered-else : (i : ℕ) (p : IndexEntry) → p.position ≤ i → p ≡ lowered i p
lowered-else i p l = rw (le-ltb i p.position l)

less_none : (m : ℕ) → m - 0 ≡ m
less_none m = omega arith

-- the two in one
pub lowered-is : (i n : ℕ) (p : IndexEntry) → n ≡ from_bool (ltb i p.position) → index_entry p.hash (p.position - n) ≡ lowered i p
lowered-is i n p e = elim (cases_lt i p.position) [
  | inl lt ↦ rw (e, lt-ltb i p.position lt) refl
  | inr ge ↦ rw (e, le-ltb i p.position ge) (ap (index_entry p.hash) (less_none p.position))
]

-- ---- the index of keys that may repeat

pub hashed_from-none : (n : ℕ) → hashed_from n [] ≡ []
unfolding hashed_from
hashed_from-none n = refl

-- one more key
pub hashed_from-more : (from : ℕ) (ks : List (List ℕ)) (n : ℕ) (ps : List IndexEntry) (h : ℕ) (x y : List ℕ)
    → n < length ks
    → ps ≡ hashed_from from (take n ks) → x ≡ get_or ks n x → y ≡ x → h ≡ hash_of y
    → ps ++ index_entry h (from + n) ∷ [] ≡ hashed_from from (take (n + 1) ks)
hashed_from-more from ks n ps h x y l before is same own =
    let long : n ≡ length (take n ks) = sym (length-take-le n ks (omega arith)) in
    (λ i. before i ++ index_entry ((own ∙ ap hash_of (same ∙ is)) i) (from + long i) ∷ [])
    ∙ sym (hashed_from-push from (take n ks) (get_or ks n x)) ∙ ap (hashed_from from) (sym (take_more ks n x l))

pub hashed_from-append : (from : ℕ) (ks ls : List (List ℕ)) → hashed_from from (ks ++ ls)
    ≡ hashed_from from ks ++ hashed_from (from + length ks) ls
unfolding hashed_from
hashed_from-append from [] ls = ap (λ (n : ℕ). hashed_from n ls) (sym (add-zero from))
hashed_from-append from (k ∷ ks) ls =
    let e : from + 1 + length ks ≡ from + suc (length ks) = omega arith in
    ap (λ ps. index_entry (hash_of k) from ∷ ps) (hashed_from-append (from + 1) ks ls
    ∙ ap (λ (n : ℕ). hashed_from (from + 1) ks ++ hashed_from n ls) e)
