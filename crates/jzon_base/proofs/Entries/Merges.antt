-- Entries put one after the other, in place: the first ones are those that are put.
use Rattle.jzon_base.proofs.Common.{◌≡◌, ◌∙◌, ℕ, zero, suc, ◌+◌, ◌<◌, ◌≤◌, List, [], ◌∷◌, ◌++◌, length, get_or, set}
use Rattle.jzon_base.proofs.Common.{take, drop, drop_all, append-nil, length-take, None, Some, refl, sym, ap, inl, inr, arith, length-append, cases_lt}
use Rattle.jzon_base.proofs.Common.{get_or-set_same, get_or-set_other, length-set, length-take-le, take_more, drop_more}
use Rattle.jzon_base.proofs.Common.{take-set-le, drop-set-lt, length-swap, position-Some, fold-append, length-zip, fold}
use Rattle.jzon_base.proofs.Common.{position, swap, zip, IsDistinct, bytes_eq}
use Rattle.std.proofs.lemmas.List.Edits.{swap_is}
use Rattle.jzon_base.specs.PairList.{keys_of, put, put_each}
use Rattle.jzon_base.specs.Private.Runs.{all_entries, IsIndexed, IsTable}
use Rattle.jzon_base.proofs.Entries.PairPositions.{zip-put_placed, zip-put_missing}
use Rattle.jzon_base.proofs.Entries.PutEach.{put_each-distinct, put_each-zip, IsDistinct-put}
use Rattle.jzon_base.proofs.KeyIndex.Tables.{IsTable-none, IsTable-push}
use Rattle.jzon_base.proofs.Entries.Zips.{AreParts-zip}
use Rattle.jzon_base.specs.declared.keys.entries.IndexEntry.{IndexEntry}

-- ---- an element that is moved into the prefix

module _ {X : Type 0} where
  take-set : (xs : List X) (m k : ℕ) (a : X) → take m (set xs k a) ≡ set (take m xs) k a
  take-set xs zero k a = refl
  take-set [] (suc m) k a = refl
  take-set (x ∷ xs) (suc m) zero a = refl
  take-set (x ∷ xs) (suc m) (suc k) a = ap (λ ys. x ∷ ys) (take-set xs m k a)

  item : (xs : List X) (i : ℕ) → i < length xs → (x : X) × (x ≡ get_or xs i x)
  item [] i l = absurd (omega arith)
  item (x ∷ xs) zero l = (x, refl)
  item (x ∷ xs) (suc i) l = item xs i (omega arith)

  module _ (xs : List X) (k n : ℕ) (d : X) (le : k ≤ n) (l : n < length xs) where
    abbrev moved : List X
    moved = set xs k (get_or xs n d)

    is : swap xs k n ≡ set moved n (get_or xs k d)
    is = sym (swap_is xs k n d (omega arith) l)

    read : get_or (set moved n (get_or xs k d)) k d ≡ get_or xs n d
    read = elim (cases_lt k n) [
      | inl lt ↦ get_or-set_other moved n k (get_or xs k d) d (λ e. absurd (omega arith))
          ∙ get_or-set_same xs k (get_or xs n d) d (omega arith)
      | inr ge ↦
          (let e : k ≡ n = omega arith in
          ap (λ (m : ℕ). get_or (set moved n (get_or xs k d)) m d) e
          ∙ get_or-set_same moved n (get_or xs k d) d (omega (arith, length-set xs k (get_or xs n d)))
          ∙ ap (λ (m : ℕ). get_or xs m d) e)
    ]

    pub swap_prefix : take (k + 1) (swap xs k n) ≡ take k xs ++ get_or xs n d ∷ []
    swap_prefix =
        ap (take (k + 1)) is
        ∙ take_more (set moved n (get_or xs k d)) k d (omega (
          arith,
          length-set moved n (get_or xs k d),
          length-set xs k (get_or xs n d),
        ))
        ∙ (λ i. (take-set-le k moved n (get_or xs k d) le ∙ take-set-le k xs k (get_or xs n d) (omega arith)) i
        ++ read i ∷ [])

    pub swap_back : drop (n + 1) (swap xs k n) ≡ drop (n + 1) xs
    swap_back = ap (drop (n + 1)) is ∙ drop-set-lt (n + 1) moved n (get_or xs k d) (omega arith)
        ∙ drop-set-lt (n + 1) xs k (get_or xs n d) (omega arith)

    swap_within : (m : ℕ) → m ≤ n → take m (swap xs k n) ≡ set (take m xs) k (get_or xs n d)
    swap_within m h = ap (take m) is ∙ take-set-le m moved n (get_or xs k d) h ∙ take-set xs m k (get_or xs n d)

-- ---- entries

module _ {V : Type 0} where
  zip-append : (ks ls : List (List ℕ)) (vs ws : List V) → length vs ≡ length ks
      → zip (ks ++ ls) (vs ++ ws) ≡ zip ks vs ++ zip ls ws
  zip-append [] ls [] ws e = refl
  zip-append [] ls (v ∷ vs) ws e = absurd (omega arith)
  zip-append (k ∷ ks) ls [] ws e = absurd (omega arith)
  zip-append (k ∷ ks) ls (v ∷ vs) ws e = ap (λ ps. (k, v) ∷ ps) (zip-append ks ls vs ws (omega arith))

  -- the first entry that isn't put yet
  put_first : (ks : List (List ℕ)) (vs : List V) (k : List ℕ) (v : V) (qs : List (List ℕ × V)) → length vs ≡ length ks
      → IsDistinct bytes_eq ks → put_each (put k v (zip ks vs) ++ qs) ≡ put_each (zip ks vs ++ (k, v) ∷ qs)
  put_first ks vs k v qs even distinct =
      let f = λ (rs : List (List ℕ × V)) (p : List ℕ × V). put p.0 p.1 rs in
      let ps = zip ks vs in
      let apart : IsDistinct bytes_eq (keys_of ps) = rw (← (AreParts-zip ks vs ps refl even).keys) distinct in
      fold-append f [] (put k v ps) qs
      ∙ ap (λ rs. fold f rs qs) (put_each-distinct (put k v ps) (IsDistinct-put k v ps apart)
      ∙ ap (put k v) (sym (put_each-distinct ps apart)))
      ∙ sym (fold-append f [] ps ((k, v) ∷ qs))

  -- of the entries ps the first `at` are put: they are then the first `kept`, and rs is the index of their keys
  pub record IsMerging (ps : List (List ℕ × V)) (ks : List (List ℕ)) (vs : List V) (rs : List (List IndexEntry))
      (kept at : ℕ) : Type 0 where
    pub counted : length ks ≡ length ps
    pub even : length vs ≡ length ks
    pub within : kept ≤ at
    pub table : IsTable (take kept ks) rs
    pub same : put_each (zip (take kept ks ++ drop at ks) (take kept vs ++ drop at vs)) ≡ put_each ps

  pub merging_none : (ks : List (List ℕ)) (vs : List V) (rs : List (List IndexEntry)) → length vs ≡ length ks
      → length (all_entries rs) ≡ 0 → IsMerging (zip ks vs) ks vs rs 0 0
  merging_none ks vs rs even none = record {
    counted = omega (arith, length-zip ks vs);
    even = even;
    within = omega arith;
    table = IsTable-none rs none;
    same = refl;
  }

  module _ (ps : List (List ℕ × V)) (ks : List (List ℕ)) (vs : List V) (rs : List (List IndexEntry)) (kept at : ℕ)
      (m : IsMerging ps ks vs rs kept at) (l : at < length ks) where
    abbrev key : List ℕ
    key = get_or ks at []

    value : (v : V) × (v ≡ get_or vs at v)
    value = item vs at (omega (arith, m.even))

    prefix : length (take kept ks) ≡ kept
    prefix = length-take-le kept ks (omega (arith, m.within))

    as_many : length (take kept vs) ≡ length (take kept ks)
    as_many = length-take-le kept vs (omega (arith, m.even, m.within)) ∙ sym prefix

    -- one more entry, whichever way it is put
    more : (ls : List (List ℕ)) (ws : List V) → length ws ≡ length ls
        → zip ls ws ≡ put key value.0 (zip (take kept ks) (take kept vs))
        → put_each (zip (ls ++ drop (at + 1) ks) (ws ++ drop (at + 1) vs)) ≡ put_each ps
    more ls ws even put_is =
        let rest = zip (drop (at + 1) ks) (drop (at + 1) vs) in
        let here : drop at vs ≡ value.0 ∷ drop (at + 1) vs = drop_more vs at value.0 (omega (arith, m.even))
        ∙ ap (λ v. v ∷ drop (at + 1) vs) (sym value.1) in
        ap put_each (zip-append ls (drop (at + 1) ks) ws (drop (at + 1) vs) even ∙ ap (λ qs. qs ++ rest) put_is)
        ∙ put_first (take kept ks) (take kept vs) key value.0 rest as_many m.table.distinct
        ∙ ap put_each (sym (zip-append (take kept ks) (key ∷ drop (at + 1) ks) (take kept vs)
        (value.0 ∷ drop (at + 1) vs) as_many))
        ∙ (λ i. put_each (zip (take kept ks ++ sym (drop_more ks at [] l) i) (take kept vs ++ sym here i)))
        ∙ m.same

    module _ (p : ℕ) (e : Some p ≡ position (λ k. bytes_eq k key) (take kept ks)) where
      pub place_within : p < kept
      place_within = omega (arith, prefix, (position-Some (λ k. bytes_eq k key) (take kept ks) p [] (sym e)).0)

      pub merging_old : IsMerging ps ks (swap vs p at) rs kept (at + 1)
      merging_old =
          let le : p ≤ at = omega (arith, place_within, m.within) in
          let long : at < length vs = omega (arith, m.even) in
          let front : take kept (swap vs p at) ≡ set (take kept vs) p value.0 =
          swap_within vs p at value.0 le long kept m.within ∙ ap (set (take kept vs) p) (sym value.1) in
          record {
            counted = m.counted;
            even = length-swap vs p at ∙ m.even;
            within = omega (arith, m.within);
            table = m.table;
            same = (λ i. put_each (zip (take kept ks ++ drop (at + 1) ks)
                (front i ++ swap_back vs p at value.0 le long i)))
                ∙ more (take kept ks) (set (take kept vs) p value.0) (length-set (take kept vs) p value.0 ∙ as_many)
                (zip-put_placed key value.0 (take kept ks) (take kept vs) _ refl as_many p e);
          }

    pub merging_new : (ss : List (List IndexEntry)) → None ≡ position (λ k. bytes_eq k key) (take kept ks)
        → IsIndexed (take kept ks ++ key ∷ []) ss
        → IsMerging ps (swap ks kept at) (swap vs kept at) ss (kept + 1) (at + 1)
    merging_new ss e indexed =
        let le = m.within in
        let long : at < length vs = omega (arith, m.even) in
        let first = swap_prefix ks kept at [] le l in
        let second : take (kept + 1) (swap vs kept at) ≡ take kept vs ++ value.0 ∷ [] =
        swap_prefix vs kept at value.0 le long ∙ ap (λ v. take kept vs ++ v ∷ []) (sym value.1) in
        record {
          counted = length-swap ks kept at ∙ m.counted;
          even = length-swap vs kept at ∙ m.even ∙ sym (length-swap ks kept at);
          within = omega (arith, m.within);
          table = rw first (IsTable-push (take kept ks) key ss m.table.distinct (sym e) indexed);
          same = (λ i. put_each (zip (first i ++ swap_back ks kept at [] le l i)
              (second i ++ swap_back vs kept at value.0 le long i)))
              ∙ more (take kept ks ++ key ∷ []) (take kept vs ++ value.0 ∷ [])
              (omega (arith, as_many, length-append (take kept ks) (key ∷ []), length-append (take kept vs) (value.0 ∷ [])))
              (zip-put_missing key value.0 (take kept ks) (take kept vs) _ refl as_many e);
        }

  -- all entries are put
  pub merging_all : (ps : List (List ℕ × V)) (ks : List (List ℕ)) (vs : List V) (rs : List (List IndexEntry))
      (kept at : ℕ) → IsMerging ps ks vs rs kept at → length ks ≤ at
      → zip (take kept ks) (take kept vs) ≡ put_each ps
  merging_all ps ks vs rs kept at m all =
      let as_many : length (take kept vs) ≡ length (take kept ks) =
      omega (arith, length-take kept vs, length-take kept ks, m.even) in
      let first : take kept ks ≡ take kept ks ++ drop at ks =
      sym (ap (λ ls. take kept ks ++ ls) (drop_all at ks all) ∙ append-nil (take kept ks)) in
      let second : take kept vs ≡ take kept vs ++ drop at vs =
      sym (ap (λ ws. take kept vs ++ ws) (drop_all at vs (omega (arith, all, m.even))) ∙ append-nil (take kept vs)) in
      sym (put_each-zip (take kept ks) (take kept vs) as_many m.table.distinct)
      ∙ (λ i. put_each (zip (first i) (second i))) ∙ m.same
