-- A map's entries, put into an object one after the other.
use Rattle.std.proofs.Common.{◌≡◌, ℕ, List, [], ◌∷◌, ◌++◌, false, Ok, Err, Result, IfOk, refl, sym, ap, ◌∙◌, subst, append_assoc, append-nil, fold, string_bytes}
use Rattle.std.proofs.lemmas.Map.Keys.{sorted_head, sorted_tail}
use Rattle.std.proofs.lemmas.Map.Text.{is_eq-slice_cmp}
use Rattle.std.proofs.lemmas.Slice.Zip.{all_zipped_more}
use Rattle.std.specs.Cmp.Lexicographic.{slice_cmp}
use Rattle.std.specs.List.{AllByRecursion, IsDistinct}
use Rattle.std.specs.List.Sorted.{IsStrictlySortedBy}
use Rattle.std.specs.Map.{keys_of}
use Rattle.std.specs.Ordering.{nat_cmp, is_eq}
use Rattle.std.specs.Str.{bytes_eq}
use Rattle.std.specs.String.{string_cmp}
use Rattle.std.specs.declared.alloc.Global.{Global}
use Rattle.std.specs.declared.cmp.Ordering.TheVariants.{Less}
use Rattle.std.specs.declared.string.String.{String}
use Rattle.jzon.specs.IntoJson.{MapMeans, PairsMean}
use Rattle.jzon.specs.PairList.{put, put_each}
use Rattle.jzon.specs.Value.{Value, object, pairs_of}
use Rattle.jzon_base.proofs.Entries.PutEach.{put_each-distinct}

module _ {X : Type 0} (S : X → Value → Type 0) where
  -- of all entries those before the rest are put
  abbrev pub IsPut : List (String Global × X) → List (String Global × X) → List (List ℕ × Value) → Type 0
  IsPut all rest ps = (done : List (String Global × X)) × (qs : List (List ℕ × Value)) × (all ≡ done ++ rest)
      × PairsMean string_bytes S done qs × (ps ≡ put_each qs)

  -- none is put yet
  pub none-put : (all rest : List (String Global × X)) (ps : List (List ℕ × Value)) → rest ≡ all → ps ≡ []
      → IsPut all rest ps
  none-put all rest ps same is = ([], [], sym same, tt, is)

  put-onto : (rs qs : List (List ℕ × Value)) (k : List ℕ) (v : Value)
      → fold (λ ts q. put q.0 q.1 ts) rs (qs ++ (k, v) ∷ []) ≡ put k v (fold (λ ts q. put q.0 q.1 ts) rs qs)
  put-onto rs [] k v = refl
  put-onto rs (q ∷ qs) k v = put-onto (put q.0 q.1 rs) qs k v

  -- one more
  pub one-put : (all rest left : List (String Global × X)) (ps new : List (List ℕ × Value)) (e : String Global × X)
      (k : List ℕ) (v : Value) → IsPut all rest ps → rest ≡ e ∷ left → k ≡ string_bytes e.0 → S e.1 v
      → new ≡ put k v ps → IsPut all left new
  one-put all rest left ps new e k v (done, qs, whole, each, is) next key shown stored = (
    done ++ e ∷ [],
    qs ++ (k, v) ∷ [],
    whole ∙ ap (λ l. done ++ l) next ∙ sym (append_assoc done (e ∷ []) left),
    all_zipped_more (λ p q. (q.0 ≡ string_bytes p.0) × S p.1 q.1) done qs e (k, v) each (key, shown),
    stored ∙ ap (put k v) is ∙ sym (put-onto [] qs k v),
  )

  apart-by : (k : List ℕ) (es : List (String Global × X)) (qs : List (List ℕ × Value))
      → AllByRecursion (λ j. slice_cmp nat_cmp k (string_bytes j) ≡ Less) (keys_of es) → PairsMean string_bytes S es qs
      → AllByRecursion (λ j. bytes_eq k j ≡ false) (keys_of qs)
  apart-by k [] [] above each = tt
  apart-by k (e ∷ es) (q ∷ qs) above each = (
    ap (bytes_eq k) each.0.0 ∙ sym (is_eq-slice_cmp k (string_bytes e.0)) ∙ ap is_eq above.0,
    apart-by k es qs above.1 each.1,
  )
  apart-by k _ _ above each = absurd each

  apart : (es : List (String Global × X)) (qs : List (List ℕ × Value)) → IsStrictlySortedBy string_cmp (keys_of es)
      → PairsMean string_bytes S es qs → IsDistinct bytes_eq (keys_of qs)
  unfolding IsDistinct
  apart [] [] up each = tt
  apart (e ∷ es) (q ∷ qs) up each =
      let above = sorted_head string_cmp e.0 (keys_of es) up in (
        apart-by q.0 es qs
            (subst (λ (k : List ℕ). AllByRecursion (λ j. slice_cmp nat_cmp k (string_bytes j) ≡ Less) (keys_of es))
            (sym each.0.0) above)
            each.1,
        apart es qs (sorted_tail string_cmp e.0 (keys_of es) up) each.1,
      )
  apart _ _ up each = absurd each

  -- all are put
  pub all-put : (all : List (String Global × X)) (ps : List (List ℕ × Value)) (v : Value)
      → IsStrictlySortedBy string_cmp (keys_of all) → IsPut all [] ps → v ≡ object (pairs_of ps)
      → MapMeans string_bytes S all v
  all-put all ps v up (done, qs, whole, each, is) seen =
      let same : all ≡ done = whole ∙ append-nil done in
      let meant = subst (λ l. PairsMean string_bytes S l qs) (sym same) each in
      (qs, meant, seen ∙ ap (λ l. object (pairs_of l)) (is ∙ put_each-distinct qs (apart all qs up meant)))

-- what holds of a result holds by what follows from it
pub if-ok : {X E : Type 0} (r : Result X E) (P Q : X → Type 0) → IfOk r P → ((x : X) → P x → Q x) → IfOk r Q
if-ok (Ok x) P Q h f = f x h
if-ok (Err e) P Q h f = tt
