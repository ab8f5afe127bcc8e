-- The view of a value after a write into it: to a member of an object, and to an element of an array.
use Rattle.jzon_base.proofs.Common.{◌≡◌, ℕ, List, [], ◌∷◌, ◌++◌, map, length, refl, sym, ap, subst, ◌∙◌, rules, Bool}
use Rattle.jzon_base.proofs.Common.{true, false, if◌then◌else◌, nat_lt, nat_eq, Option, Some, None, option_map}
use Rattle.jzon_base.proofs.Common.{slice_set, ◌≤◌, IfSome, OnErr, Result, Ok, Err, length-map, map-append, same_Some}
use Rattle.jzon_base.specs.declared.error.Error.{Error}
use Rattle.std.proofs.lemmas.List.{map-set}
use Rattle.jzon_base.specs.PairList.{put}
use Rattle.jzon_tree.specs.Entries.{entries_of, with_entries}
use Rattle.jzon_tree.specs.Lent.{entries_in, items_in, items_of, with_place, place_in}
use Rattle.jzon_tree.specs.Readers.{entries}
use Rattle.jzon_tree.specs.Value.{Value, null, array, object, pairs_of, values_of}
use Rattle.jzon_tree.specs.View.{view}
use Rattle.jzon_tree.specs.declared.object.Object.{Object}
use Rattle.jzon_tree.specs.declared.value.JsonValue.{JsonValue, roll-JsonValue, the_lemmas, Null}
use Rattle.jzon_tree.specs.declared.value.JsonValue.{Object as object_value}
use Rattle.jzon_tree.specs.declared.value.JsonValue.TheOpen.{JsonValue-F}
use Rattle.jzon_tree.proofs.Values.Views.{view-Null, view-Object, viewed-put}
use Rattle.jzon_tree.proofs.Values.PartViews.{list_of_values-values_of}
use Rattle.jzon_tree.proofs.Laws.ValueLaws.{by_kind, entries-view, find-view, values_of-list_of_values}

-- ---- a member

entries-made : (ps : List (List ℕ × JsonValue)) → entries_of (with_entries ps) ≡ ps
entries-made ps = search (rules, the_lemmas)

pub view-put : (k : List ℕ) (w v : JsonValue)
    → view (object_value (with_entries (put k w (entries_in v))))
    ≡ object (pairs_of (put k (view w) (entries (view v))))
view-put k w v =
    view-Object (with_entries (put k w (entries_in v)))
    ∙ rw (entries-made (put k w (entries_in v)), viewed-put k w (entries_in v), entries-view v) refl

-- ---- an element

rolled_items_of : (l : JsonValue-F JsonValue Object)
    → items_of (view (roll-JsonValue l)) ≡ option_map (map view) (items_in (roll-JsonValue l))
rolled_items_of (JsonValue-F.Array vs) = search (rules, the_lemmas, list_of_values-values_of)
rolled_items_of _ = search (rules, the_lemmas)

pub items_of-view : (v : JsonValue) → items_of (view v) ≡ option_map (map view) (items_in v)
items_of-view v = by_kind (λ w. items_of (view w) ≡ option_map (map view) (items_in w)) rolled_items_of v

with_null : (vs : List JsonValue) → map view (vs ++ Null ∷ []) ≡ map view vs ++ null ∷ []
with_null vs = map-append view vs (Null ∷ []) ∙ ap (λ (v : Value). map view vs ++ v ∷ []) view-Null

map-if : (b : Bool) (xs ys : List JsonValue)
    → map view (if b then xs else ys) ≡ (if b then map view xs else map view ys)
map-if true xs ys = refl
map-if false xs ys = refl

with_place-view : (o : Option (List JsonValue)) (i : ℕ)
    → with_place null (option_map (map view) o) i ≡ map view (with_place Null o i)
with_place-view None i =
    sym (map-if (nat_eq i 0) (Null ∷ []) (Null ∷ Null ∷ [])
    ∙ ap (λ (v : Value). if nat_eq i 0 then v ∷ [] else v ∷ v ∷ []) view-Null)
with_place-view (Some vs) i =
    ap (λ (n : ℕ). if nat_lt i n then map view vs else map view vs ++ null ∷ []) (length-map vs view)
    ∙ ap (λ (ws : List Value). if nat_lt i (length vs) then map view vs else ws) (sym (with_null vs))
    ∙ sym (map-if (nat_lt i (length vs)) vs (vs ++ Null ∷ []))

place_in-view : (o : Option (List JsonValue)) (i : ℕ)
    → place_in (option_map (map view) o) i ≡ place_in o i
place_in-view None i = refl
place_in-view (Some vs) i = ap (λ (n : ℕ). if nat_lt i n then i else n) (length-map vs view)

array_of_items : (v : Value) (ws : List Value) → items_of v ≡ Some ws → v ≡ array (values_of ws)
array_of_items (array vs) ws h = subst (λ (us : List Value). array vs ≡ array (values_of us)) (same_Some _ _ h)
    (ap array (sym (values_of-list_of_values vs)))
array_of_items _ ws h = absurd (cc)

pub view-items : (i : ℕ) (w v u : JsonValue)
    → items_in u ≡ Some (slice_set (with_place Null (items_in v) i) (place_in (items_in v) i) w)
    → view u ≡ array (values_of (slice_set (with_place null (items_of (view v)) i) (place_in (items_of (view v)) i)
    (view w)))
view-items i w v u h =
    array_of_items (view u) _ (items_of-view u
    ∙ rw (h, items_of-view v, with_place-view (items_in v) i, place_in-view (items_in v) i)
    (ap Some (map-set view (with_place Null (items_in v) i) (place_in (items_in v) i) w)))

few_items : (o : Option (List JsonValue)) (i : ℕ) → IfSome o (λ vs. length vs ≤ i)
    → IfSome (option_map (map view) o) (λ vs. length vs ≤ i)
few_items None i h = h
few_items (Some vs) i h = subst (λ n. n ≤ i) (sym (length-map vs view)) h

pub past_items : {T : Type 0} (result : Result T Error) (v : JsonValue) (i : ℕ)
    → OnErr result (IfSome (items_in v) (λ vs. length vs ≤ i))
    → OnErr result (IfSome (items_of (view v)) (λ vs. length vs ≤ i))
past_items (Ok t) v i h = h
past_items (Err e) v i h =
    subst (λ o. IfSome o (λ (vs : List Value). length vs ≤ i)) (sym (items_of-view v)) (few_items (items_in v) i h)

pub ruleset written = (view-put, find-view, items_of-view, view-items)
