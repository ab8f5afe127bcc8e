-- Entries that are put one after the other, and maps that are iterated over.
use Rattle.jzon_base.proofs.Common.{◌≡◌, ℕ, Bool, false, List, [], ◌∷◌, ◌++◌, map, length, refl, sym, ap, subst, ◌∙◌}
use Rattle.jzon_base.proofs.Common.{AllByRecursion, IsDistinct, bytes_eq, fold, map-append, zip}
use Rattle.std.specs.Iterator.{Drains}
use Rattle.std.specs.Map.Iter.{TakesFirst}
use Rattle.jzon_base.specs.PairList.{keys_of, put, put_each}
use Rattle.jzon_base.proofs.Entries.PutEach.{put_each-distinct}
use Rattle.jzon_base.proofs.Entries.Zips.{zip-push}
use Rattle.jzon_tree.specs.IntoJson.{MapMeans, PairsMean, PutMeans}
use Rattle.jzon_tree.specs.Value.{Value, object, pairs_of}
use Rattle.jzon_tree.specs.View.{view, view_object, viewed}
use Rattle.jzon_tree.specs.declared.object.Object.{Object}
use Rattle.jzon_tree.specs.declared.value.JsonValue.{JsonValue, Object as in_object}
use Rattle.jzon_tree.proofs.Values.Views.{view-Object, viewed-put}

-- one more entry
pub viewed-push : (ks : List (List ℕ)) (vs : List JsonValue) (k : List ℕ) (v : JsonValue) → length vs ≡ length ks
    → viewed (zip (ks ++ k ∷ []) (vs ++ v ∷ [])) ≡ viewed (zip ks vs) ++ (k, view v) ∷ []
viewed-push ks vs k v even = ap viewed (zip-push ks vs k v even) ∙ map-append (λ p. (p.0, view p.1)) (zip ks vs) ((k, v) ∷ [])

viewed_onto : (qs ps : List (List ℕ × JsonValue))
    → viewed (fold (λ rs p. put p.0 p.1 rs) qs ps) ≡ fold (λ rs p. put p.0 p.1 rs) (viewed qs) (viewed ps)
viewed_onto qs [] = refl
viewed_onto qs (p ∷ ps) = viewed_onto (put p.0 p.1 qs) ps
    ∙ ap (λ rs. fold (λ ts q. put q.0 q.1 ts) rs (viewed ps)) (viewed-put p.0 p.1 qs)

pub viewed-put_each : (ps : List (List ℕ × JsonValue)) → viewed (put_each ps) ≡ put_each (viewed ps)
viewed-put_each ps = viewed_onto [] ps

-- ---- what a map's iterator yields
drained : {X : Type 0} (left xs : List X) → Drains (TakesFirst (λ (x : X). x)) left xs → xs ≡ left
drained left [] (after, (end, same, step)) = sym (same ∙ step.0)
drained left (x ∷ xs) (after, (end, (next, first, more), step)) = ap (λ ys. x ∷ ys)
    (drained next xs (after, (end, more, step))) ∙ sym first

-- ---- keys have distinct texts if they are distinct by an equality that agrees with that of their texts
module _ {K : Type 0} (text : K → List ℕ) (e : K → K → Bool) (by_text : (j k : K) → e j k ≡ bytes_eq (text j) (text k))
  where
    apart_texts : (k : K) (ks : List K) → AllByRecursion (λ j. e k j ≡ false) ks
        → AllByRecursion (λ s. bytes_eq (text k) s ≡ false) (map text ks)
    apart_texts k [] all = tt
    apart_texts k (j ∷ ks) all = (sym (by_text k j) ∙ all.0, apart_texts k ks all.1)

    distinct_texts : (ks : List K) → IsDistinct e ks → IsDistinct bytes_eq (map text ks)
    unfolding IsDistinct
    distinct_texts [] distinct = tt
    distinct_texts (k ∷ ks) distinct = (apart_texts k ks distinct.0, distinct_texts ks distinct.1)

    module _ {X : Type 0} (means : X → Value → Type 0) where
      meant_keys : (ps : List (K × X)) (qs : List (List ℕ × Value)) → PairsMean text means ps qs
          → keys_of qs ≡ map text (map (λ p. p.0) ps)
      meant_keys [] [] each = refl
      meant_keys (p ∷ ps) (q ∷ qs) each = ap (λ k. k ∷ keys_of qs) each.0.0
          ∙ ap (λ ks. text p.0 ∷ ks) (meant_keys ps qs each.1)
      meant_keys _ _ each = absurd each

      -- an object into which a map's entries were put one after the other
      pub map_put : (ps left : List (K × X)) (o : Object) → left ≡ ps → IsDistinct e (map (λ p. p.0) ps)
          → (xs : List (K × X)) × Drains (TakesFirst (λ (x : K × X). x)) left xs
          × PutMeans text means xs (view_object o)
          → MapMeans text means ps (view (in_object o))
      map_put ps left o whole distinct (xs, drains, (qs, each, is)) =
          let same : xs ≡ ps = drained left xs drains ∙ whole in
          let meant : PairsMean text means ps qs = subst (λ ys. PairsMean text means ys qs) same each in
          let keys : IsDistinct bytes_eq (keys_of qs) = subst (IsDistinct bytes_eq) (sym (meant_keys ps qs meant))
          (distinct_texts (map (λ p. p.0) ps) distinct) in
          (qs, meant, view-Object o ∙ is ∙ ap (λ rs. object (pairs_of rs)) (put_each-distinct qs keys))
