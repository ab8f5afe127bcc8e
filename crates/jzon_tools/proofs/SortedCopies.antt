-- A list of entries that std sorted by their keys, and the copy that is made of it.
use Rattle.std.proofs.Common.{◌≡◌, ◌≤◌, ◌<◌, ◌+◌, ℕ, zero, suc, List, [], ◌∷◌, ◌++◌, Bool, true, false, cond, Option}
use Rattle.std.proofs.Common.{None, Some, option_map, refl, sym, ap, ◌∙◌, subst, arith, length, get_or, map, Contains}
use Rattle.std.proofs.Common.{IsPermutation, IsSortedByKey, Ordering, Less, take, AllPairs, ◌≢◌}
use Rattle.std.proofs.Math.ListN.{get_or-map}
use Rattle.std.proofs.lemmas.List.{length-map}
use Rattle.std.specs.Borrow.{Bor}
use Rattle.std.specs.List.{AllByRecursion, IsDistinct}
use Rattle.std.specs.List.Sorted.{IsStrictlySortedBy}
use Rattle.std.specs.Str.{bytes_eq}
use Rattle.std.specs.Cmp.Lexicographic.{nat_list_eq_equiv, slice_cmp}
use Rattle.std.specs.Ordering.{nat_cmp, is_lt}
use Rattle.std.proofs.lemmas.Option.{none-some, same_Some, slice_get-get_or}
use Rattle.std.proofs.lemmas.Slice.Eq.{bytes_eq-Decides}
use Rattle.std.proofs.lemmas.List.Sorted.{Contains-permutation, IsPermutation-sym, IsPermutation-map}
use Rattle.std.proofs.lemmas.List.{take_more, take_all, map-append}
use Rattle.std.proofs.lemmas.List.Sums.{fold-append}
use Rattle.std.proofs.lemmas.Map.Made.{AllPairs-from_IsDistinct}
use Rattle.std.proofs.lemmas.Map.Keys.{IsDistinct-head, IsDistinct-tail, IsDistinct-IsPermutation}
use Rattle.jzon.specs.JsonValue.{JsonValue}
use Rattle.jzon.specs.Measure.{size, largest_under}
use Rattle.jzon.specs.PairList.{find, keys_of, put, put_each}
use Rattle.jzon.specs.SameLaws.{at, find-head, find-past}
use Rattle.jzon.specs.SortedStyle.{is_before}
use Rattle.jzon.specs.Value.{Value, pairs_of}
use Rattle.jzon.specs.View.{view, viewed}
use Rattle.jzon.proofs.InPlace.{size-member}
use Rattle.jzon.proofs.PairLaws.{put_each-distinct}
use Rattle.jzon.proofs.ValueLaws.{list_of_pairs-pairs_of, find-viewed, keys-viewed}
use Rattle.jzon_tools.specs.Canonical.{arranged, arranged_pairs, pointed}
use Rattle.jzon_tools.proofs.SortedEntries.{IsSorted, AllAfter, one_list, at-arranged_pairs, IsSorted-arranged_pairs}
use Rattle.jzon_tools.proofs.SortedEntries.{before-trans, before-other, before-apart, is_lt-Less, apart-sym, distinct}
use Rattle.jzon_tools.proofs.SortedEntries.{Distinct}

-- ---- the look-ups of entries in another order
module _ {V : Type 0} where
  Contains-found : (k : List ℕ) (v : V) (ps : List (List ℕ × V)) → find k ps ≡ Some v → Contains ps (k, v)
  Contains-found k v [] e = absurd (none-some v e)
  Contains-found k v (p ∷ ps) e = pick (bytes_eq p.0 k) refl e (Contains-found k v ps)
    where
      pick : (b : Bool) → bytes_eq p.0 k ≡ b → cond b (Some p.1) (find k ps) ≡ Some v
          → (find k ps ≡ Some v → Contains ps (k, v)) → Contains (p ∷ ps) (k, v)
      pick true h e more =
          let key : p.0 ≡ k = (bytes_eq-Decides p.0 k).0 h in
          let found : p.1 ≡ v = same_Some p.1 v e in
          (0, omega arith, (λ i. (key i, found i)))
      pick false h e more = let c = more e in (suc c.0, omega (arith, c.1), c.2)

  key_holds : (P : List ℕ → Type 0) (k : List ℕ) (v : V) (ps : List (List ℕ × V)) (i : ℕ)
      → AllByRecursion P (keys_of ps) → i < length ps → get_or ps i (k, v) ≡ (k, v) → P k
  key_holds P k v [] i all lt e = absurd (omega arith)
  key_holds P k v (p ∷ ps) zero all lt e = subst P (ap (λ (q : List ℕ × V). q.0) e) all.0
  key_holds P k v (p ∷ ps) (suc i) all lt e = key_holds P k v ps i all.1 (omega arith) e

  pub found_there : (k : List ℕ) (v : V) (ps : List (List ℕ × V)) (i : ℕ) → IsDistinct bytes_eq (keys_of ps)
      → i < length ps → get_or ps i (k, v) ≡ (k, v) → find k ps ≡ Some v
  found_there k v [] i distinct lt e = absurd (omega arith)
  found_there k v (p ∷ ps) zero distinct lt e = ap (λ q. find k (q ∷ ps)) e ∙ find-head k v ps
  found_there k v (p ∷ ps) (suc i) distinct lt e =
      find-past p.0 k p.1 ps
      (key_holds (λ j. bytes_eq p.0 j ≡ false) k v ps i (IsDistinct-head bytes_eq p.0 (keys_of ps) distinct)
      (omega arith) e)
      ∙ found_there k v ps i (IsDistinct-tail bytes_eq p.0 (keys_of ps) distinct) (omega arith) e

  found-Contains : (k : List ℕ) (v : V) (ps : List (List ℕ × V)) → IsDistinct bytes_eq (keys_of ps)
      → Contains ps (k, v) → find k ps ≡ Some v
  found-Contains k v ps distinct c = found_there k v ps c.0 distinct c.1 c.2

  find-permutation : (k : List ℕ) (ps qs : List (List ℕ × V)) → IsDistinct bytes_eq (keys_of ps)
      → IsDistinct bytes_eq (keys_of qs) → IsPermutation ps qs → find k qs ≡ find k ps
  find-permutation k ps qs dp dq same = pick (find k ps) (find k qs) refl refl
    where
      pick : (a b : Option V) → find k ps ≡ a → find k qs ≡ b → find k qs ≡ find k ps
      pick (Some v) b ea eb =
          found-Contains k v qs dq (Contains-permutation ps qs (k, v) same (Contains-found k v ps ea)) ∙ sym ea
      pick None None ea eb = eb ∙ sym ea
      pick None (Some w) ea eb =
          absurd (none-some w (sym ea
          ∙ found-Contains k w ps dp
          (Contains-permutation qs ps (k, w) (IsPermutation-sym ps qs same) (Contains-found k w qs eb))))

  pub distinct-permutation : (ps qs : List (List ℕ × V)) → IsPermutation ps qs → IsDistinct bytes_eq (keys_of ps)
      → IsDistinct bytes_eq (keys_of qs)
  distinct-permutation ps qs same distinct =
      IsDistinct-IsPermutation bytes_eq nat_list_eq_equiv.symm (keys_of ps) (keys_of qs)
      (IsPermutation-map (λ (p : List ℕ × V). p.0) ps qs same) distinct

-- ---- what std sorted
abbrev Entry : Type 0
Entry = Bor (List ℕ) × Bor JsonValue

abbrev pub by_text : Bor (List ℕ) → Bor (List ℕ) → Ordering
by_text a b = slice_cmp nat_cmp a.now b.now

abbrev pub keys_at : List Entry → List (List ℕ)
keys_at es = keys_of (map pointed es)

less_than_all : (j k : List ℕ) (ks : List (List ℕ)) → is_before j k ≡ true
    → AllByRecursion (λ y. slice_cmp nat_cmp k y ≡ Less) ks → AllByRecursion (λ y. slice_cmp nat_cmp j y ≡ Less) ks
less_than_all j k [] b all = tt
less_than_all j k (y ∷ ks) b all =
    (is_lt-Less _ (before-trans j k y b (ap is_lt all.0)), less_than_all j k ks b all.1)

apart_from_greater : (k : List ℕ) (ks : List (List ℕ)) → AllByRecursion (λ y. slice_cmp nat_cmp k y ≡ Less) ks
    → AllByRecursion (λ y. bytes_eq k y ≡ false) ks
apart_from_greater k [] all = tt
apart_from_greater k (y ∷ ks) all =
    (apart-sym y k (before-apart k y (ap is_lt all.0)), apart_from_greater k ks all.1)

pub distinct_sorted : (ks : List (List ℕ)) → IsStrictlySortedBy (slice_cmp nat_cmp) ks → IsDistinct bytes_eq ks
unfolding IsStrictlySortedBy IsDistinct
distinct_sorted [] sorted = tt
distinct_sorted (k ∷ ks) sorted = (apart_from_greater k ks sorted.0, distinct_sorted ks sorted.1)

next : (k : ℕ) → suc (k + 1) ≡ suc k + 1
next k = omega arith

pub strictly_sorted : (es : List Entry) → IsSortedByKey (λ e. e.0) by_text es → IsDistinct bytes_eq (keys_at es)
    → IsStrictlySortedBy (slice_cmp nat_cmp) (keys_at es)
unfolding IsStrictlySortedBy IsDistinct
strictly_sorted [] sorted distinct = tt
strictly_sorted (a ∷ []) sorted distinct = (tt, tt)
strictly_sorted (a ∷ b ∷ es) sorted distinct =
    let not_after : is_before b.0.now a.0.now ≡ false = sorted 0 a (omega arith) (omega arith) in
    let before : is_before a.0.now b.0.now ≡ true =
    before-other b.0.now a.0.now (slice_cmp nat_cmp b.0.now a.0.now) refl not_after (apart-sym a.0.now b.0.now distinct.0.0) in
    let rest = strictly_sorted (b ∷ es)
    (λ k d low high.
    ap (λ (i : ℕ). is_lt (by_text (get_or (a ∷ b ∷ es) i d).0 (get_or (b ∷ es) k d).0)) (next k)
    ∙ sorted (suc k) d (omega arith) (omega arith))
    distinct.1 in
    ((is_lt-Less _ before, less_than_all a.0.now b.0.now (keys_at es) before rest.0), rest)

-- ---- the copy
module _ (leaf : Value → Value) where
  abbrev pub copied : List ℕ × JsonValue → List ℕ × Value
  copied p = (p.0, arranged leaf (view p.1))

  AllAfter-copied : (k : List ℕ) (qs : List (List ℕ × JsonValue))
      → AllByRecursion (λ y. slice_cmp nat_cmp k y ≡ Less) (keys_of qs) → AllAfter k (pairs_of (map copied qs))
  AllAfter-copied k [] all = tt
  AllAfter-copied k (q ∷ qs) all = (ap is_lt all.0, AllAfter-copied k qs all.1)

  IsSorted-copied : (qs : List (List ℕ × JsonValue)) → IsStrictlySortedBy (slice_cmp nat_cmp) (keys_of qs)
      → IsSorted (pairs_of (map copied qs))
  unfolding IsStrictlySortedBy
  IsSorted-copied [] sorted = tt
  IsSorted-copied (q ∷ qs) sorted = (AllAfter-copied q.0 qs sorted.0, IsSorted-copied qs sorted.1)

  find-copied : (k : List ℕ) (qs : List (List ℕ × JsonValue))
      → find k (map copied qs) ≡ option_map (λ v. arranged leaf (view v)) (find k qs)
  find-copied k [] = refl
  find-copied k (q ∷ qs) = pick (find-copied k qs) (bytes_eq q.0 k)
    where
      pick : find k (map copied qs) ≡ option_map (λ v. arranged leaf (view v)) (find k qs) → (b : Bool)
          → cond b (Some (arranged leaf (view q.1))) (find k (map copied qs))
          ≡ option_map (λ v. arranged leaf (view v)) (cond b (Some q.1) (find k qs))
      pick more true = refl
      pick more false = more

  twice : (o : Option JsonValue)
      → option_map (λ v. arranged leaf (view v)) o ≡ option_map (arranged leaf) (option_map view o)
  twice None = refl
  twice (Some v) = refl

  keys-copied : (qs : List (List ℕ × JsonValue)) → keys_of (map copied qs) ≡ keys_of qs
  keys-copied [] = refl
  keys-copied (q ∷ qs) = ap (λ (ks : List (List ℕ)). q.0 ∷ ks) (keys-copied qs)

  pub sorted_copies : (ps qs : List (List ℕ × JsonValue)) → IsDistinct bytes_eq (keys_of ps)
      → IsDistinct bytes_eq (keys_of qs) → IsPermutation ps qs → IsStrictlySortedBy (slice_cmp nat_cmp) (keys_of qs)
      → pairs_of (map copied qs) ≡ arranged_pairs leaf (pairs_of (viewed ps))
  sorted_copies ps qs dp dq same sorted =
      let back = list_of_pairs-pairs_of (viewed ps) in
      let apart : Distinct (pairs_of (viewed ps)) =
      distinct (pairs_of (viewed ps))
      (subst (λ (ks : List (List ℕ)). AllPairs (λ j k. j ≢ k) ks) (sym (ap keys_of back ∙ keys-viewed ps))
      (AllPairs-from_IsDistinct bytes_eq-Decides (keys_of ps) dp)) in
      one_list (pairs_of (map copied qs)) (arranged_pairs leaf (pairs_of (viewed ps))) (IsSorted-copied qs sorted)
      (IsSorted-arranged_pairs leaf (pairs_of (viewed ps)) apart)
      (λ k. ap (find k) (list_of_pairs-pairs_of (map copied qs)) ∙ find-copied k qs
      ∙ ap (option_map (λ v. arranged leaf (view v))) (find-permutation k ps qs dp dq same)
      ∙ twice (find k ps) ∙ ap (option_map (arranged leaf)) (find-viewed k ps ∙ sym (ap (find k) back))
      ∙ sym (at-arranged_pairs leaf (pairs_of (viewed ps)) apart k))

  -- one entry more
  pub copied-next : (es : List Entry) (i : ℕ) (e : Entry) (w : Value) (ps : List (List ℕ × Value)) → i < length es
      → e ≡ get_or es i e → w ≡ arranged leaf (view e.1.now)
      → ps ≡ put_each (map copied (map pointed (take i es)))
      → put e.0.now w ps ≡ put_each (map copied (map pointed (take (i + 1) es)))
  copied-next es i e w ps lt at made before =
      let old = take i es in
      let more : map copied (map pointed (take (i + 1) es))
      ≡ map copied (map pointed old) ++ copied (pointed e) ∷ [] =
      ap (λ (xs : List Entry). map copied (map pointed xs))
      (take_more es i e lt ∙ ap (λ (x : Entry). old ++ x ∷ []) (sym at))
      ∙ ap (map copied) (map-append pointed old (e ∷ [])) ∙ map-append copied (map pointed old) (pointed e ∷ []) in
      ap (λ (v : Value). put e.0.now v ps) made
      ∙ ap (put e.0.now (arranged leaf (view e.1.now))) before
      ∙ sym (fold-append (λ (qs : List (List ℕ × Value)) (p : List ℕ × Value). put p.0 p.1 qs) []
      (map copied (map pointed old)) (copied (pointed e) ∷ []))
      ∙ ap put_each (sym more)

  -- all entries
  pub copied-all : (ps : List (List ℕ × JsonValue)) (es : List Entry) (i : ℕ) (made : List (List ℕ × Value))
      → length es ≤ i → IsPermutation ps (map pointed es) → IsStrictlySortedBy (slice_cmp nat_cmp) (keys_at es)
      → made ≡ put_each (map copied (map pointed (take i es)))
      → pairs_of made ≡ arranged_pairs leaf (pairs_of (viewed ps))
  copied-all ps es i made le same sorted e =
      let qs = map pointed es in
      let dq = distinct_sorted (keys_of qs) sorted in
      let dp = distinct-permutation qs ps (IsPermutation-sym ps qs same) dq in
      let whole : made ≡ map copied qs =
      e ∙ ap (λ (xs : List Entry). put_each (map copied (map pointed xs))) (take_all i es le)
      ∙ put_each-distinct (map copied qs)
      (subst (λ (ks : List (List ℕ)). IsDistinct bytes_eq ks) (sym (keys-copied qs)) dq) in
      ap pairs_of whole ∙ sorted_copies ps qs dp dq same sorted

-- ---- a value among entries in another order is no larger than the largest
size-entry : (ps qs : List (List ℕ × JsonValue)) (q : List ℕ × JsonValue) → IsPermutation ps qs → Contains qs q
    → size q.1 ≤ largest_under ps
size-entry ps qs q same c =
    let d = Contains-permutation qs ps q (IsPermutation-sym ps qs same) c in
    size-member d.0 ps q.1
    (ap (λ (x : List ℕ × JsonValue). Some x.1) (sym d.2)
    ∙ ap (option_map (λ (x : List ℕ × JsonValue). x.1)) (sym (slice_get-get_or ps d.0 q d.1)))

pub size-pointed : (ps : List (List ℕ × JsonValue)) (es : List Entry) (i : ℕ) (e : Entry) → i < length es
    → e ≡ get_or es i e → IsPermutation ps (map pointed es) → size e.1.now ≤ largest_under ps
size-pointed ps es i e lt at same =
    size-entry ps (map pointed es) (pointed e) same
    (i, omega (arith, lt, length-map es pointed), get_or-map pointed es i e ∙ ap pointed (sym at))
