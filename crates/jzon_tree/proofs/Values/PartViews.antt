-- Views of the parts of a container, and of what is left of it after a change.
use Rattle.jzon_base.proofs.Common.{◌≡◌, ℕ, List, [], ◌∷◌, ◌++◌, map, length, ◌==◌, Bool, ◌||◌, remove, slice_get}
use Rattle.jzon_base.proofs.Common.{unwrap_or, Option, Some, None, option_map, Vec, Global, Bor, refl, sym, ap, ◌∙◌}
use Rattle.jzon_base.proofs.Common.{list_any, length-map, map-append, slice_get-map, slice_get-get_or}
use Rattle.std.proofs.lemmas.Option.{slice_get_past}
use Rattle.std.specs.Slice.{IsItemAt}
use Rattle.jzon_base.proofs.Entries.Lists.{map-remove}
use Rattle.jzon_base.specs.PairList.{put, cut}
use Rattle.jzon_tree.specs.Changers.{without_item, with_item, without_entry, with_entry}
use Rattle.jzon_tree.specs.Entries.{entries_of}
use Rattle.jzon_tree.specs.Readers.{items, entries, count, is_empty, or_null}
use Rattle.jzon_tree.specs.Value.{Value, array, object, values_of, list_of_values}
use Rattle.jzon_tree.specs.View.{view, viewed, view_pairs, view_values}
use Rattle.jzon_tree.specs.declared.object.Object.{Object}
use Rattle.jzon_tree.specs.declared.value.JsonValue.{JsonValue, Null, Array, Object as in_object}
use Rattle.jzon_tree.proofs.Values.Views.{view-Null, view-Array, view-Object, list_of_pairs-pairs_of, find-viewed, viewed-put}
use Rattle.jzon_tree.proofs.Values.Views.{viewed-cut}

pub list_of_values-values_of : (vs : List Value) → list_of_values (values_of vs) ≡ vs
list_of_values-values_of [] = refl
list_of_values-values_of (v ∷ vs) = ap (λ (ws : List Value). v ∷ ws) (list_of_values-values_of vs)

-- ---- the parts of a container
pub items-Array : (v : Vec JsonValue Global) → items (view (Array v)) ≡ map view v.items
items-Array v = ap items (view-Array v) ∙ list_of_values-values_of (map view v.items)

pub entries-Object : (o : Object) → entries (view (in_object o)) ≡ viewed (entries_of o)
entries-Object o = ap entries (view-Object o) ∙ list_of_pairs-pairs_of (viewed (entries_of o))

pub count-Array : (v : Vec JsonValue Global) → count (view (Array v)) ≡ length v.items
count-Array v = ap count (view-Array v) ∙ simp (list_of_values-values_of, length-map)

pub count-Object : (o : Object) → count (view (in_object o)) ≡ length (entries_of o)
count-Object o = ap count (view-Object o) ∙ simp (list_of_pairs-pairs_of, length-map)

pub is_empty-Array : (v : Vec JsonValue Global) → is_empty (view (Array v)) ≡ (length v.items == 0)
is_empty-Array v = ap is_empty (view-Array v) ∙ simp (list_of_values-values_of, length-map)

pub is_empty-Object : (o : Object) → is_empty (view (in_object o)) ≡ (length (entries_of o) == 0)
is_empty-Object o = ap is_empty (view-Object o) ∙ simp (list_of_pairs-pairs_of, length-map)

pub item-viewed : (vs : List JsonValue) (i : ℕ) → slice_get (map view vs) i ≡ option_map view (slice_get vs i)
item-viewed vs i = slice_get-map view vs i

pub any-viewed : (test : Value → Bool) (vs : List JsonValue)
    → list_any test (map view vs) ≡ list_any (λ v. test (view v)) vs
any-viewed test [] = refl
any-viewed test (v ∷ vs) = ap (λ (b : Bool). test (view v) || b) (any-viewed test vs)

-- the element that `get` of a list returns
pub item_lent : (vs : List JsonValue) (i : ℕ) (r : Option (Bor JsonValue)) → IsItemAt vs i r
    → option_map (λ w. view w.now) r ≡ slice_get (map view vs) i
item_lent vs i None h = sym (item-viewed vs i ∙ ap (option_map view) (slice_get_past vs i h.3))
item_lent vs i (Some x) h =
    sym (item-viewed vs i ∙ ap (option_map view) (slice_get-get_or vs i x.now h.3.0
    ∙ ap (λ (v : JsonValue). Some v) (sym h.1)))

-- ---- an element removed from a list

pub view-unwrap_or : (o : Option JsonValue) → view (unwrap_or o Null) ≡ or_null (option_map view o)
view-unwrap_or None = view-Null
view-unwrap_or (Some v) = refl

-- ---- what is left of the list
pub without_item-Array : (v : Vec JsonValue Global) (i : ℕ) → without_item i (view (Array v))
    ≡ array (view_values (remove v.items i))
without_item-Array v i =
    ap (without_item i) (view-Array v) ∙ simp (list_of_values-values_of, map-remove)

pub with_item-Array : (v : Vec JsonValue Global) (w : JsonValue)
    → with_item (view w) (view (Array v)) ≡ array (view_values (v.items ++ w ∷ []))
with_item-Array v w =
    ap (with_item (view w)) (view-Array v) ∙ simp (list_of_values-values_of, map-append)

pub without_entry-Object : (k : List ℕ) (o : Object) → without_entry k (view (in_object o))
    ≡ object (view_pairs (cut k (entries_of o)))
without_entry-Object k o =
    ap (without_entry k) (view-Object o) ∙ simp (list_of_pairs-pairs_of, viewed-cut)

pub with_entry-Object : (k : List ℕ) (w : JsonValue) (o : Object)
    → with_entry k (view w) (view (in_object o)) ≡ object (view_pairs (put k w (entries_of o)))
with_entry-Object k w o =
    ap (with_entry k (view w)) (view-Object o) ∙ simp (list_of_pairs-pairs_of, viewed-put)

pub ruleset seen = (
  items-Array,
  entries-Object,
  count-Array,
  count-Object,
  is_empty-Array,
  is_empty-Object,
  item-viewed,
  any-viewed,
  find-viewed,
  view-unwrap_or,
  without_item-Array,
  with_item-Array,
  without_entry-Object,
  with_entry-Object,
)
