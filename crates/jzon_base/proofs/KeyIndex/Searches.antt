-- An index of keys by hashes that the caller passes: an entry is found, added and removed.
use Rattle.jzon_base.proofs.Common.{◌≡◌, ◌≢◌, ℕ, zero, suc, ◌+◌, ◌-◌, ◌<◌, ◌≤◌, Bool, true, false, ◌||◌, eqb, List}
use Rattle.jzon_base.proofs.Common.{Result, Ok, Err, IfOk, IfErr, [], ◌∷◌, ◌++◌, length, get_or, map, filter, set, take}
use Rattle.jzon_base.proofs.Common.{drop, refl, sym, ap, ◌∙◌, subst, inl, inr, arith, add-zero, zero-add, cond, ltb}
use Rattle.jzon_base.proofs.Common.{get_or_default, get_or_append_left, get_or_push, get_or-map, length_push, All-nil}
use Rattle.jzon_base.proofs.Common.{All-cons, All-push, All-same, All-take, All-drop, IsPermutation-refl}
use Rattle.jzon_base.proofs.Common.{IsPermutation-trans, IsPermutation-cons, IsPermutation-sym, IsPermutation-to_front}
use Rattle.jzon_base.proofs.Common.{IsPermutation-append_right, flat_map-append, All-permutation, cases_Bool, cases_lt}
use Rattle.jzon_base.proofs.Common.{false≢true, eq-eqb, eqb-false, not-true, tied_itself, exact_pairs, exact_unsigned}
use Rattle.jzon_base.proofs.Common.{exact_bytes, bytes_eq-Decides, take-append_seam, drop-append_seam, slice_cmp, All}
use Rattle.jzon_base.proofs.Common.{Contains, insert, position, remove, IsDistinct, list_any, IsBinarySearchResult}
use Rattle.jzon_base.proofs.Common.{IsPermutation, IsSorted, IsSortedBy, nat_cmp, ordering_reverse, is_lt, result_ok}
use Rattle.jzon_base.proofs.Common.{bytes_eq, Ordering, Less, Equal, Greater}
use Rattle.std.proofs.lemmas.List.{take-append-drop}
use Rattle.std.proofs.lemmas.List.Folds.{list_any_at, list_any_none, list_any-append}
use Rattle.std.proofs.lemmas.List.Edits.{length-insert, get_or-insert_below, get_or-insert_at, get_or-insert_above}
use Rattle.std.proofs.lemmas.List.Edits.{length-remove, get_or-remove_below, get_or-remove_above}
use Rattle.std.proofs.lemmas.List.Elements.{All-weaker}
use Rattle.std.proofs.lemmas.List.Elements.{All-map, All-set, All-contains, filter_passes}
use Rattle.std.proofs.lemmas.List.Elements.{Contains-append_left, Contains-append_right}
use Rattle.std.proofs.lemmas.List.Kept.{IsSortedBy-filter}
use Rattle.std.proofs.lemmas.List.Sorted.{IsPermutation-map, IsPermutation-push_more}
use Rattle.std.proofs.lemmas.List.Sorted.{IsPermutation-insert}
use Rattle.std.proofs.lemmas.List.Sorted.{ranks_by, IsNonDecreasingBy-from_sort}
use Rattle.std.proofs.lemmas.List.Sorted.{list_any-IsPermutation, searchable_from_sorted}
use Rattle.std.proofs.Math.ListN.{length-map}
use Rattle.std.proofs.lemmas.Cmp.{nat_cmp_total, nat_list_cmp_total, on_total, then_total}
use Rattle.std.specs.Cmp.{IsTotalOrder, IsStrictWeakOrder}
use Rattle.std.specs.List.Sorted.{IsNonDecreasingBy, IsPartitionPoint}
use Rattle.std.specs.Ordering.{ordering_then, ordering_index, is_eq}
use Rattle.jzon_base.specs.Private.Runs.{numbered, all_entries, AreHanded, AreSorted, IsBegun, IsIndexOf, IsPlace}
use Rattle.jzon_base.specs.Private.Runs.{IsSpot}
use Rattle.jzon_base.specs.Private.Keys.{compare_with, entry_cmp, index_entry, lowered}
use Rattle.jzon_base.proofs.KeyIndex.FlatRuns.{flat_add, flat_cut, flat_last, taken_more}
use Rattle.jzon_base.proofs.KeyIndex.Permutations.{IsPermutation-filter}
use Rattle.jzon_base.proofs.KeyIndex.Positions.{position-none}
use Rattle.jzon_base.proofs.KeyIndex.Indexes.{only_place, is_other, kept_by, lowered-lower, lowered-higher, lowered-then}
use Rattle.jzon_base.proofs.KeyIndex.Indexes.{lowered-else}
use Rattle.jzon_base.specs.declared.keys.entries.IndexEntry.{IndexEntry}

-- ---- the order of entries by hash and key

abbrev pub name_cmp : ℕ × List ℕ → ℕ × List ℕ → Ordering
name_cmp a b = ordering_then (nat_cmp a.0 b.0) (slice_cmp nat_cmp a.1 b.1)

pub name_total : IsTotalOrder name_cmp
name_total = then_total (on_total (λ (a : ℕ × List ℕ). a.0) nat_cmp_total)
    (on_total (λ (a : ℕ × List ℕ). a.1) nat_list_cmp_total)

abbrev pub named : List (List ℕ) → IndexEntry → ℕ × List ℕ
named ks p = (p.hash, get_or ks p.position [])

pub entry_weak : (ks : List (List ℕ)) → IsStrictWeakOrder (λ x y. is_lt (entry_cmp ks x y))
entry_weak ks = ranks_by name_total (named ks)

-- an order between elements that have the same hash and key under other keys
moved : (ks ls : List (List ℕ)) (p q u v : IndexEntry) → named ks p ≡ named ls u → named ks q ≡ named ls v
    → is_lt (entry_cmp ks p q) ≡ is_lt (entry_cmp ls u v)
moved ks ls p q u v e f = λ i. is_lt (name_cmp (e i) (f i))

-- ---- a search in one run

first_decides : (o u : Ordering) → is_lt (ordering_then o u) ≡ false → is_lt o ≡ false
first_decides Less u h = h
first_decides Equal u h = refl
first_decides Greater u h = refl

-- the order of entries is one of hashes
pub hashes_rise : (ks : List (List ℕ)) (r : List IndexEntry) → IsSorted (entry_cmp ks) r → IsNonDecreasingBy (λ p. p.hash) r
hashes_rise ks r up = IsNonDecreasingBy-from_sort (λ (p : IndexEntry). p.hash) r (λ k d low l. first_decides _ _ (up k d low l))

is_top : (o : Ordering) → ordering_index Greater ≤ ordering_index o → o ≡ Greater
is_top Less l = absurd (omega arith)
is_top Equal l = absurd (omega arith)
is_top Greater l = refl

module _ (ks : List (List ℕ)) (h : ℕ) (name : List ℕ) where
  abbrev pub is_it : IndexEntry → Bool
  is_it p = is_eq (compare_with ks h name p)

  rises : (r : List IndexEntry) → IsSorted (entry_cmp ks) r
      → IsNonDecreasingBy (λ p. ordering_index (compare_with ks h name p)) r
  rises r up = searchable_from_sorted name_total (named ks) r (h, name) up

  pub placed : (r : List IndexEntry) (at : ℕ) → IsSorted (entry_cmp ks) r → at ≤ length r
      → IsBinarySearchResult (compare_with ks h name) r (Err at) → IsPlace ks h name r at
  placed r at up bound found = record { within = bound; point = found (rises r up) }

  -- entries of lesser hashes come before that position, and the entry there, if there is one, comes after this hash and name
  pub placed_first : (r : List IndexEntry) (at : ℕ) → IsSorted (entry_cmp ks) r → at ≤ length r
      → IsPartitionPoint (λ p. ltb p.hash h ≡ true) (λ p. ltb p.hash h ≡ false) r at
      → (at < length r → (d : IndexEntry) → compare_with ks h name (get_or r at d) ≡ Greater) → IsPlace ks h name r at
  placed_first r at up bound parted above = record {
    within = bound;
    point = (
      λ j d ge lt. (λ i. ordering_then (cond (parted.0 j d ge lt i) Less (cond (eqb (get_or r j d).hash h) Equal Greater))
          (slice_cmp nat_cmp (get_or ks (get_or r j d).position []) name)),
      λ j d ge lt. is_top (compare_with ks h name (get_or r j d))
          (subst (λ o. ordering_index o ≤ ordering_index (compare_with ks h name (get_or r j d))) (above (omega arith) d)
          (rises r up at j d ge lt)),
    );
  }

  -- the entry that a search finds
  pub found_entry : (r : List IndexEntry) (at : ℕ) (p : IndexEntry) → at < length r → p ≡ get_or r at p
      → compare_with ks h name (get_or r at p) ≡ Equal → Contains r (index_entry h p.position) × (get_or ks p.position [] ≡ name)
  found_entry r at p l is e =
      let same : named ks p ≡ (h, name) = exact_pairs nat_cmp (slice_cmp nat_cmp) exact_unsigned exact_bytes
      (named ks p) (h, name) (ap (λ (q : IndexEntry). compare_with ks h name q) is ∙ e) in
      let own : index_entry h p.position ≡ p = λ i. index_entry (sym same i).0 p.position in
      ((at, l, get_or_default r at (index_entry h p.position) p l ∙ sym is ∙ sym own), ap (λ (q : ℕ × List ℕ). q.1) same)

  pub none_here : (r : List IndexEntry) (at : ℕ) → IsPlace ks h name r at → list_any is_it r ≡ false
  none_here r at place = list_any_none is_it r (λ j d l. elim (cases_lt j at) [
    | inl lt ↦ ap is_eq (place.point.0 j d (omega arith) lt)
    | inr ge ↦ ap is_eq (place.point.1 j d ge l)
  ])

  -- none of the first i runs has the entry, and it belongs there in the last of them
  pub record IsSearched (rs : List (List IndexEntry)) (i at : ℕ) : Type 0 where
    pub none : list_any is_it (all_entries (take i rs)) ≡ false
    pub spot : 0 < i → IsPlace ks h name (get_or rs (i - 1) []) at

  pub searched_more : (rs : List (List IndexEntry)) (i at b : ℕ) (r : List IndexEntry) → i < length rs → r ≡ get_or rs i r
      → IsSearched rs i at → IsPlace ks h name r b → IsSearched rs (i + 1) b
  searched_more rs i at b r l is before place = record {
    none = ap (list_any is_it) (taken_more rs i r l is) ∙ list_any-append is_it (all_entries (take i rs)) r
        ∙ (λ j. before.none j || none_here r b place j);
    spot = λ _.
        let e : i + 1 - 1 ≡ i = omega arith in
        subst (λ n. IsPlace ks h name (get_or rs n []) b) (sym e)
        (subst (λ u. IsPlace ks h name u b) (is ∙ get_or_default rs i r [] l) place);
  }

-- the entry of a run is among those of all runs
pub in_runs : (rs : List (List IndexEntry)) (i : ℕ) (r : List IndexEntry) (p : IndexEntry) → i < length rs → r ≡ get_or rs i r
    → Contains r p → Contains (all_entries rs) p
in_runs [] i r p l is has = absurd (omega arith)
in_runs (u ∷ rs) zero r p l is has = Contains-append_left u (all_entries rs) p (subst (λ v. Contains v p) is has)
in_runs (u ∷ rs) (suc i) r p l is has = Contains-append_right u (all_entries rs) p
    (in_runs rs i r p (omega arith) is has)

-- ---- each hash with its position

pub length-numbered : (n : ℕ) (hs : List ℕ) → length (numbered n hs) ≡ length hs
unfolding numbered
length-numbered n [] = refl
length-numbered n (h ∷ hs) = ap suc (length-numbered (n + 1) hs)

get_or-numbered : (hs : List ℕ) (n i : ℕ) (d : IndexEntry) → i < length hs
    → get_or (numbered n hs) i d ≡ index_entry (get_or hs i 0) (n + i)
unfolding numbered
get_or-numbered [] n i d l = absurd (omega arith)
get_or-numbered (h ∷ hs) n zero d l = ap (index_entry h) (sym (add-zero n))
get_or-numbered (h ∷ hs) n (suc i) d l =
    let e : n + 1 + i ≡ n + suc i = omega arith in
    get_or-numbered hs (n + 1) i d (omega arith) ∙ ap (index_entry (get_or hs i 0)) e

All-places : (n : ℕ) (hs : List ℕ) → All (λ p. p.position < n + length hs) (numbered n hs)
unfolding numbered
All-places n [] = All-nil (λ (p : IndexEntry). p.position < n + 0)
All-places n (h ∷ hs) =
    All-cons (λ (p : IndexEntry). p.position < n + suc (length hs)) (index_entry h n) (numbered (n + 1) hs) (omega arith)
    (All-weaker (λ (p : IndexEntry). p.position < n + 1 + length hs) (λ (p : IndexEntry). p.position < n + suc (length hs)) (λ p l. omega arith)
    (numbered (n + 1) hs) (All-places (n + 1) hs))

-- each entry has the position of a key
pub places : (hs : List ℕ) (ks : List (List ℕ)) (rs : List (List IndexEntry)) → IsIndexOf hs ks rs
    → All (λ p. p.position < length ks) (all_entries rs)
places hs ks rs index =
    All-weaker (λ (p : IndexEntry). p.position < 0 + length hs) (λ (p : IndexEntry). p.position < length ks)
    (λ p l. omega (arith, index.even)) (all_entries rs)
    (All-permutation (λ (p : IndexEntry). p.position < 0 + length hs) (numbered 0 hs) (all_entries rs) index.whole (All-places 0 hs))

-- ---- a search in all runs

-- the position that the index entries give is that of the key of this name
pub found_place : (hs : List ℕ) (ks : List (List ℕ)) (rs : List (List IndexEntry)) (h : ℕ) (name : List ℕ)
    (o : Result ℕ ℕ) → IsIndexOf hs ks rs → AreHanded hs ks h name → IsDistinct bytes_eq ks
    → IfOk o (λ p. Contains (all_entries rs) (index_entry h p) × (get_or ks p [] ≡ name))
    → IfErr o (λ _. list_any (is_it ks h name) (all_entries rs) ≡ false)
    → result_ok o ≡ position (λ k. bytes_eq k name) ks
found_place hs ks rs h name (Ok p) index handed distinct here none =
    sym (only_place name ks p distinct
    (All-contains (λ (q : IndexEntry). q.position < length ks) (all_entries rs) (index_entry h p) (places hs ks rs index) here.0)
    ((bytes_eq-Decides (get_or ks p []) name).1 here.1))
found_place hs ks rs h name (Err at) index handed distinct here none =
    sym (position-none (λ k. bytes_eq k name) ks [] (λ i l. elim (cases_Bool (bytes_eq (get_or ks i []) name)) [
      | inr other ↦ other
      | inl same ↦
          (let within : i < length hs = omega (arith, index.even) in
          let e : get_or (numbered 0 hs) i (index_entry 0 0) ≡ index_entry h i = get_or-numbered hs 0 i (index_entry 0 0) within
          ∙ (λ k. index_entry (handed.own i l same k) (zero-add i k)) in
          let text : get_or ks i [] ≡ name = (bytes_eq-Decides (get_or ks i []) name).0 same in
          let it : is_it ks h name (get_or (numbered 0 hs) i (index_entry 0 0)) ≡ true =
          ap (is_it ks h name) e ∙ (λ k. is_eq (name_cmp (h, text k) (h, name)))
          ∙ ap is_eq (tied_itself name_total (h, name)) in
          absurd (false≢true (sym none
          ∙ sym (list_any-IsPermutation (is_it ks h name) (numbered 0 hs) (all_entries rs) index.whole)
          ∙ list_any_at (is_it ks h name) (numbered 0 hs) i (index_entry 0 0) (omega (arith, length-numbered 0 hs)) it)))
    ]))

-- ---- one more hash

numbered-push : (n : ℕ) (hs : List ℕ) (h : ℕ) → numbered n (hs ++ h ∷ []) ≡ numbered n hs ++ index_entry h (n + length hs) ∷ []
unfolding numbered
numbered-push n [] h = ap (λ (m : ℕ). index_entry h m ∷ []) (sym (add-zero n))
numbered-push n (x ∷ hs) h =
    let e : n + 1 + length hs ≡ n + suc (length hs) = omega arith in
    ap (λ ps. index_entry x n ∷ ps) (numbered-push (n + 1) hs h ∙ ap (λ (m : ℕ). numbered (n + 1) hs ++ index_entry h m ∷ []) e)

-- a list stays sorted with an element between what isn't above it and what isn't below it
module _ {X : Type 0} (lt : X → X → Bool) where
  sorted-insert : (xs : List X) (at : ℕ) (y : X) → IsSortedBy lt xs → at ≤ length xs
      → ((k : ℕ) (d : X) → k < at → lt y (get_or xs k d) ≡ false)
      → ((k : ℕ) (d : X) → at ≤ k → k < length xs → lt (get_or xs k d) y ≡ false) → IsSortedBy lt (insert xs at y)
  sorted-insert xs at y up l low high k d from within =
      let long = length-insert xs at y l in
      elim (cases_lt (k + 1) at) [
        | inl before ↦ rw (
          get_or-insert_below xs at y d (k + 1) before l,
          get_or-insert_below xs at y d k (omega arith) l,
        ) (up k d from (omega arith))
        | inr ge ↦ elim (cases_lt k at) [
          | inl here ↦
              (let e : k + 1 ≡ at = omega arith in
              rw (
                get_or-insert_below xs at y d k here l,
                ap (λ n. get_or (insert xs at y) n d) e ∙ get_or-insert_at xs at y d l,
              ) (low k d here))
          | inr past ↦ elim (cases_lt at k) [
            | inl later ↦
                (let e : k ≡ k - 1 + 1 = omega arith in
                let f : k - 1 + 1 ≡ k = omega arith in
                let above = get_or-insert_above xs at y d k past l in
                let own : get_or (insert xs at y) k d ≡ get_or xs (k - 1) d =
                ap (λ n. get_or (insert xs at y) n d) e
                ∙ get_or-insert_above xs at y d (k - 1) (omega arith) l in
                rw (above, own) (subst (λ n. lt (get_or xs n d) (get_or xs (k - 1) d) ≡ false) f
                (up (k - 1) d (omega arith) (omega arith))))
            | inr same ↦
                (let e : k ≡ at = omega arith in
                rw (
                  get_or-insert_above xs at y d k past l,
                  ap (λ n. get_or (insert xs at y) n d) e ∙ get_or-insert_at xs at y d l,
                )
                (high k d past (omega arith)))
          ]
        ]
      ]

each_run : (P : IndexEntry → Type 0) (rs : List (List IndexEntry)) → All P (all_entries rs) → All (λ r. All P r) rs
each_run P [] all = All-nil (λ r. All P r)
each_run P (r ∷ rs) all =
    let front : take (length r) (r ++ all_entries rs) ≡ r = take-append_seam r (all_entries rs) in
    All-cons (λ r. All P r) r rs
    (All-same P r (take (length r) (r ++ all_entries rs)) (sym front) (All-take P (length r) (r ++ all_entries rs) all))
    (each_run P rs (All-same P (all_entries rs) (drop (length r) (r ++ all_entries rs))
    (sym (drop-append_seam r (all_entries rs))) (All-drop P (length r) (r ++ all_entries rs) all)))

module _ (ks : List (List ℕ)) (name : List ℕ) where
  -- the key of an entry is read in the longer list too
  named-push : (p : IndexEntry) → p.position < length ks → named (ks ++ name ∷ []) p ≡ named ks p
  named-push p l = ap (λ (k : List ℕ). (p.hash, k)) (get_or_append_left ks (name ∷ []) [] p.position l)

  sorted-push : (r : List IndexEntry) → All (λ p. p.position < length ks) r → IsSorted (entry_cmp ks) r
      → IsSorted (entry_cmp (ks ++ name ∷ [])) r
  sorted-push r within up k d low l =
      moved (ks ++ name ∷ []) ks (get_or r (k + 1) d) (get_or r k d) (get_or r (k + 1) d) (get_or r k d)
      (named-push (get_or r (k + 1) d) (within (k + 1) d l)) (named-push (get_or r k d) (within k d (omega arith)))
      ∙ up k d low l

  all-push : (rs : List (List IndexEntry)) → All (λ p. p.position < length ks) (all_entries rs) → AreSorted ks rs
      → AreSorted (ks ++ name ∷ []) rs
  all-push rs within up i d l = sorted-push (get_or rs i d) (each_run (λ p. p.position < length ks) rs within i d l) (up i d l)

  -- the entry of the new key is inserted where it belongs
  sorted-place : (h at : ℕ) (r : List IndexEntry) → All (λ p. p.position < length ks) r → IsSorted (entry_cmp ks) r
      → IsPlace ks h name r at → IsSorted (entry_cmp (ks ++ name ∷ [])) (insert r at (index_entry h (length ks)))
  sorted-place h at r within up place =
      let ls = ks ++ name ∷ [] in
      let new : named ls (index_entry h (length ks)) ≡ (h, name) = ap (λ (k : List ℕ). (h, k)) (get_or_push ks name [] (length ks)
      refl) in
      let le = place.within in
      sorted-insert (λ x y. is_lt (entry_cmp ls x y)) r at (index_entry h (length ks)) (sorted-push r within up) le
      (λ k d lt.
      let p = get_or r k d in
      (λ i. is_lt (name_cmp (new i) (named-push p (within k d (omega arith)) i)))
      ∙ ap is_lt (name_total.antisymm (h, name) (named ks p) ∙ ap ordering_reverse (place.point.0 k d (omega arith) lt)))
      (λ k d ge lt.
      let p = get_or r k d in
      (λ i. is_lt (name_cmp (named-push p (within k d lt) i) (new i)))
      ∙ ap is_lt (place.point.1 k d ge lt))

-- the entries of one more key, which are in sorted runs
index-more : (hs : List ℕ) (ks : List (List ℕ)) (rs ss : List (List IndexEntry)) (h : ℕ) (name : List ℕ)
    → IsIndexOf hs ks rs → IsPermutation (index_entry h (length ks) ∷ all_entries rs) (all_entries ss)
    → AreSorted (ks ++ name ∷ []) ss → IsIndexOf (hs ++ h ∷ []) (ks ++ name ∷ []) ss
index-more hs ks rs ss h name index added up =
    let e : numbered 0 (hs ++ h ∷ []) ≡ numbered 0 hs ++ index_entry h (length ks) ∷ [] = numbered-push 0 hs h
    ∙ ap (λ (m : ℕ). numbered 0 hs ++ index_entry h m ∷ []) (zero-add (length hs) ∙ index.even) in
    record {
      even = omega (arith, index.even, length_push hs h, length_push ks name);
      whole = rw e (IsPermutation-push_more (numbered 0 hs) (all_entries rs) (all_entries ss) (index_entry h (length ks)) index.whole
          added);
      sorted = up;
    }

-- the last run gets the entry
pub added_last : (hs : List ℕ) (ks : List (List ℕ)) (rs : List (List IndexEntry)) (h at n : ℕ) (name : List ℕ)
    (r : List IndexEntry) → IsIndexOf hs ks rs → IsSpot ks h name rs at → n + 1 ≡ length rs
    → r ≡ insert (get_or rs n []) at (index_entry h (length ks)) → IsIndexOf (hs ++ h ∷ []) (ks ++ name ∷ []) (set rs n r)
added_last hs ks rs h at n name r index spot last is =
    let e : length rs - 1 ≡ n = omega arith in
    let u = get_or rs n [] in
    let l : n < length rs = omega arith in
    let place : IsPlace ks h name u at = subst (λ m. IsPlace ks h name (get_or rs m []) at) e (spot (omega arith)) in
    let within = places hs ks rs index in
    index-more hs ks rs (set rs n r) h name index
    (flat_add rs n (index_entry h (length ks)) r l (rw is (IsPermutation-insert u at (index_entry h (length ks)))))
    (All-set (IsSorted (entry_cmp (ks ++ name ∷ []))) rs n r (rw is (sorted-place ks name h at u
    (each_run (λ p. p.position < length ks) rs within n [] l) (index.sorted n [] l) place))
    (all-push ks name rs within index.sorted))

-- the runs from some one on are joined
pub begun-joined : (ks : List (List ℕ)) (rs us : List (List IndexEntry)) (from : ℕ) (j : List IndexEntry) (p : IndexEntry)
    → us ≡ drop from rs → IsPermutation (all_entries us) j → (AreSorted ks us → IsSorted (entry_cmp ks) j)
    → IsBegun ks rs ((take from rs ++ j ∷ []) ++ (p ∷ []) ∷ []) p
begun-joined ks rs us from j p rest whole up =
    let parts : all_entries rs ≡ all_entries (take from rs) ++ all_entries us =
    ap all_entries (sym (take-append-drop from rs))
    ∙ flat_map-append (λ (r : List IndexEntry). r) (take from rs) (drop from rs)
    ∙ ap (λ vs. all_entries (take from rs) ++ all_entries vs) (sym rest) in
    record {
      before = take from rs ++ j ∷ [];
      split = refl;
      whole = rw (parts, flat_last (take from rs) j)
          (IsPermutation-append_right (all_entries (take from rs)) (all_entries us) j whole);
      sorted = λ sorted. All-push (IsSorted (entry_cmp ks)) (take from rs) j
          (All-take (IsSorted (entry_cmp ks)) from rs sorted)
          (up (rw rest (All-drop (IsSorted (entry_cmp ks)) from rs sorted)));
    }

-- none are joined
pub begun-alone : (ks : List (List ℕ)) (rs : List (List IndexEntry)) (p : IndexEntry) → IsBegun ks rs (rs ++ (p ∷ []) ∷ []) p
begun-alone ks rs p = record {
  before = rs;
  split = refl;
  whole = IsPermutation-refl (all_entries rs);
  sorted = λ sorted. sorted;
}

-- a run begins with the entry
pub added_run : (hs : List ℕ) (ks : List (List ℕ)) (rs ss : List (List IndexEntry)) (h : ℕ) (name : List ℕ)
    → IsIndexOf hs ks rs → IsBegun ks rs ss (index_entry h (length ks)) → IsIndexOf (hs ++ h ∷ []) (ks ++ name ∷ []) ss
added_run hs ks rs ss h name index begun =
    let p : IndexEntry = index_entry h (length ks) in
    let us = begun.before in
    let one : IsSorted (entry_cmp (ks ++ name ∷ [])) (p ∷ []) = λ k d low l. absurd (omega arith) in
    let within : All (λ p. p.position < length ks) (all_entries us) = All-permutation (λ p. p.position < length ks) (all_entries rs)
    (all_entries us) begun.whole (places hs ks rs index) in
    rw begun.split (index-more hs ks rs (us ++ (p ∷ []) ∷ []) h name index
    (rw (flat_last us (p ∷ [])) (IsPermutation-trans _ _ _ (IsPermutation-cons p (all_entries rs) (all_entries us)
    begun.whole) (IsPermutation-sym _ _ (IsPermutation-to_front (all_entries us) p))))
    (All-push (IsSorted (entry_cmp (ks ++ name ∷ []))) us (p ∷ []) (all-push ks name us within
    (begun.sorted index.sorted)) one))

-- ---- one position less

numbered-behind : (hs : List ℕ) (i m n : ℕ) → i ≤ m → n ≡ m + 1
    → map (lowered i) (filter (is_other i) (numbered n hs)) ≡ numbered m hs
unfolding numbered
numbered-behind [] i m n l e = refl
numbered-behind (h ∷ hs) i m n l e =
    ap (map (lowered i)) (kept_by i (index_entry h n) (numbered (n + 1) hs) (λ q. absurd (omega arith)))
    ∙ ap (λ p. p ∷ map (lowered i) (filter (is_other i) (numbered (n + 1) hs)))
    (lowered-higher i h m n (omega arith) e)
    ∙ ap (λ ps. index_entry h m ∷ ps) (numbered-behind hs i (m + 1) (n + 1) (omega arith) (omega arith))

numbered-remove : (hs : List ℕ) (n i j : ℕ) → j ≡ n + i → i < length hs
    → map (lowered j) (filter (is_other j) (numbered n hs)) ≡ numbered n (remove hs i)
unfolding numbered
numbered-remove [] n i j e l = absurd (omega arith)
numbered-remove (h ∷ hs) n zero j e l =
    let same : eqb n j ≡ true = eq-eqb n j (omega arith) in
    rw same (numbered-behind hs j n (n + 1) (omega arith) refl)
numbered-remove (h ∷ hs) n (suc i) j e l =
    ap (map (lowered j)) (kept_by j (index_entry h n) (numbered (n + 1) hs) (λ q. absurd (omega arith)))
    ∙ ap (λ p. p ∷ map (lowered j) (filter (is_other j) (numbered (n + 1) hs)))
    (lowered-lower j h n (omega arith))
    ∙ ap (λ ps. index_entry h n ∷ ps) (numbered-remove hs (n + 1) i j (omega arith) (omega arith))

module _ (ks : List (List ℕ)) (i : ℕ) (l : i < length ks) where
  named-lowered : (p : IndexEntry) → p.position ≢ i → named (remove ks i) (lowered i p) ≡ named ks p
  named-lowered p ne = elim (cases_lt p.position i) [
    | inl lt ↦ ap (named (remove ks i)) (sym (lowered-else i p (omega arith)))
        ∙ ap (λ (k : List ℕ). (p.hash, k)) (get_or-remove_below ks i [] p.position lt l)
    | inr ge ↦
        (let e : p.position - 1 + 1 ≡ p.position = omega arith in
        ap (named (remove ks i)) (sym (lowered-then i p (omega arith)))
        ∙ ap (λ (k : List ℕ). (p.hash, k)) (get_or-remove_above ks i [] (p.position - 1) (omega arith) l
        ∙ ap (λ n. get_or ks n []) e))
  ]

  sorted-cut : (r : List IndexEntry) → IsSorted (entry_cmp ks) r
      → IsSorted (entry_cmp (remove ks i)) (map (lowered i) (filter (is_other i) r))
  sorted-cut r up k d low within =
      let qs = filter (is_other i) r in
      let bound : k + 1 < length qs = omega (arith, length-map qs (lowered i)) in
      let left = IsSortedBy-filter (λ x y. is_lt (entry_cmp ks x y)) (entry_weak ks) (is_other i) r up in
      let other = filter_passes (is_other i) r in
      let p = get_or qs k d in
      let q = get_or qs (k + 1) d in
      rw (get_or-map (lowered i) qs (k + 1) d d bound, get_or-map (lowered i) qs k d d (omega arith))
      (moved (remove ks i) ks (lowered i q) (lowered i p) q p
      (named-lowered q (eqb-false q.position i (not-true _ (other (k + 1) d bound))))
      (named-lowered p (eqb-false p.position i (not-true _ (other k d (omega arith))))) ∙ left k d low bound)

  pub IsIndexOf-remove : (hs : List ℕ) (rs : List (List IndexEntry)) → IsIndexOf hs ks rs
      → IsIndexOf (remove hs i) (remove ks i) (map (λ r. map (lowered i) (filter (is_other i) r)) rs)
  IsIndexOf-remove hs rs index =
      let m : i < length hs = omega (arith, index.even) in
      record {
        even = omega (arith, index.even, length-remove hs i m, length-remove ks i l);
        whole = rw (← numbered-remove hs 0 i i (omega arith) m, flat_cut i rs)
            (IsPermutation-map (lowered i) _ _
            (IsPermutation-filter (is_other i) (numbered 0 hs) (all_entries rs) index.whole));
        sorted = All-map (IsSorted (entry_cmp (remove ks i))) (λ r. map (lowered i) (filter (is_other i) r)) rs
            (All-weaker (IsSorted (entry_cmp ks))
            (λ r. IsSorted (entry_cmp (remove ks i)) (map (lowered i) (filter (is_other i) r))) sorted-cut rs
            index.sorted);
      }
