-- The laws of values: the view of each kind of `JsonValue`, its elements and entries, what is found after a change, and
-- what a value is that is neither an object nor an array.
pub use Rattle.jzon_tree.proofs.Values.Views.{view-Null, view-Boolean, view-Array, view-Object}
pub use Rattle.jzon_tree.proofs.Values.Views.{list_of_pairs-pairs_of, find-viewed, viewed-put, viewed-cut}
pub use Rattle.jzon_tree.proofs.Printing.OrderedEntries.{keys-viewed}
pub use Rattle.jzon_tree.proofs.Values.PartViews.{list_of_values-values_of, items-Array, entries-Object, count-Array, count-Object}
use Rattle.jzon_base.proofs.Common.{◌≡◌, ◌≢◌, ℕ, zero, suc, List, [], ◌∷◌, ◌++◌, map, remove, Bool, true, false, cond}
use Rattle.jzon_base.proofs.Common.{Some, None, option_map, unwrap_or, refl, sym, ap, ◌∙◌, subst, rules, string_bytes}
use Rattle.jzon_base.proofs.Common.{String, Global, AllPairs, bytes_eq, none-some, nat_le, length, leb-true, IsUtf8}
use Rattle.jzon_base.proofs.Common.{if◌then◌else◌}
use Rattle.jzon_base.specs.Decimal.{Decimal}
use Rattle.jzon_base.specs.PairList.{find, put, cut, keys_of}
use Rattle.jzon_base.proofs.Entries.PairLaws.{find-put_same, find-put_other, find-cut_same, find-cut_other}
use Rattle.jzon_tree.specs.Changers.{with_item, without_item, with_entry, without_entry}
use Rattle.jzon_tree.specs.Entries.{entries_of}
use Rattle.jzon_tree.specs.Lawful.{IsText, IsValue}
use Rattle.jzon_tree.specs.Lent.{object_in, entries_in, items_in}
use Rattle.jzon_tree.specs.Readers.{items, entries, is_array, is_object, object_of, array_of}
use Rattle.jzon_tree.specs.Value.{Value, null, text, number, array, object, short, long, list_of_values, list_of_pairs, kind_of}
use Rattle.jzon_tree.specs.Value.{Values, ValuePairs, no_values, value, no_pairs, pair, values_of, pairs_of}
use Rattle.jzon_tree.specs.View.{view, viewed, view_object}
use Rattle.jzon_tree.specs.declared.object.Object.{Object}
use Rattle.jzon_tree.specs.declared.value.JsonValue.{JsonValue, out-JsonValue, roll-JsonValue, the_lemmas, Short}
use Rattle.jzon_tree.specs.declared.value.JsonValue.{String as in_memory, Number, Object as object_value}
use Rattle.jzon_tree.specs.declared.value.JsonValue.TheOpen.{JsonValue-F}

-- ---- each kind

pub view-Short : (s : List ℕ) → view (Short s) ≡ text short s
view-Short s = search (rules, the_lemmas)

pub view-String : (s : String Global) → view (in_memory s) ≡ text long (string_bytes s)
view-String s = search (rules, the_lemmas)

pub view-Number : (n : Decimal) → view (Number n) ≡ number n
view-Number n = search (rules, the_lemmas)

short_text : (b : Bool) (s : List ℕ) → nat_le (length s) 30 ≡ b → IsUtf8 s → IsText (if b then short else long) s
short_text true s e u = (u, leb-true (length s) 30 e)
short_text false s e u = u

pub IsValue-text : (s : List ℕ) → IsUtf8 s → IsValue (text (kind_of s) s)
IsValue-text s = short_text (nat_le (length s) 30) s refl

-- what holds of each kind of `JsonValue` holds of every one
pub by_kind : (P : JsonValue → Type 0) → ((l : JsonValue-F JsonValue Object) → P (roll-JsonValue l)) → (v : JsonValue)
    → P v
by_kind P each v =
    let same : roll-JsonValue (out-JsonValue v) ≡ v = search (rules, the_lemmas) in
    subst P same (each (out-JsonValue v))

-- ---- the entries and the elements of any value

rolled_entries : (l : JsonValue-F JsonValue Object)
    → entries (view (roll-JsonValue l)) ≡ viewed (entries_in (roll-JsonValue l))
rolled_entries (JsonValue-F.Object o) = search (rules, the_lemmas, entries-Object)
rolled_entries _ = search (rules, the_lemmas)

pub entries-view : (v : JsonValue) → entries (view v) ≡ viewed (entries_in v)
entries-view v = by_kind (λ w. entries (view w) ≡ viewed (entries_in w)) rolled_entries v

pub find-view : (k : List ℕ) (v : JsonValue) → find k (entries (view v)) ≡ option_map view (find k (entries_in v))
find-view k v = ap (find k) (entries-view v) ∙ sym (find-viewed k (entries_in v))

-- the members of an object, as it is seen
pub find-view_object : (k : List ℕ) (o : Object)
    → find k (entries (view_object o)) ≡ option_map view (find k (entries_of o))
find-view_object k o =
    ap (find k) (list_of_pairs-pairs_of (viewed (entries_of o))) ∙ sym (find-viewed k (entries_of o))

rolled_items : (l : JsonValue-F JsonValue Object)
    → items (view (roll-JsonValue l)) ≡ map view (unwrap_or (items_in (roll-JsonValue l)) [])
rolled_items (JsonValue-F.Array vs) = search (rules, the_lemmas, items-Array)
rolled_items _ = search (rules, the_lemmas)

pub items-view : (v : JsonValue) → items (view v) ≡ map view (unwrap_or (items_in v) [])
items-view v = by_kind (λ w. items (view w) ≡ map view (unwrap_or (items_in w) [])) rolled_items v

pub entries-other : (v : Value) → is_object v ≡ false → entries v ≡ []
entries-other (object ps) h = absurd (cc)
entries-other _ h = refl

pub items-other : (v : Value) → is_array v ≡ false → items v ≡ []
items-other (array vs) h = absurd (cc)
items-other _ h = refl

-- ---- the entries and the elements after a change

pub entries-with_entry : (k : List ℕ) (v w : Value) → is_object w ≡ true
    → entries (with_entry k v w) ≡ put k v (entries w)
entries-with_entry k v (object ps) h = list_of_pairs-pairs_of (put k v (list_of_pairs ps))
entries-with_entry k v _ h = absurd (cc)

pub is_object-with_entry : (k : List ℕ) (v w : Value) → is_object (with_entry k v w) ≡ is_object w
is_object-with_entry k v null = refl
is_object-with_entry k v _ = refl

pub entries-without_entry : (k : List ℕ) (w : Value) → entries (without_entry k w) ≡ cut k (entries w)
entries-without_entry k (object ps) = list_of_pairs-pairs_of (cut k (list_of_pairs ps))
entries-without_entry k _ = refl

pub items-with_item : (v w : Value) → is_array w ≡ true → items (with_item v w) ≡ items w ++ v ∷ []
items-with_item v (array vs) h = list_of_values-values_of (list_of_values vs ++ v ∷ [])
items-with_item v _ h = absurd (cc)

nothing_removed : (i : ℕ) → ◌≡◌ {A = List Value} [] (remove [] i)
nothing_removed zero = refl
nothing_removed (suc i) = refl

pub items-without_item : (i : ℕ) (w : Value) → items (without_item i w) ≡ remove (items w) i
items-without_item i (array vs) = list_of_values-values_of (remove (list_of_values vs) i)
items-without_item i _ = nothing_removed i

-- ---- what is found after a change

pub find-with_entry_same : (k : List ℕ) (v w : Value) → is_object w ≡ true
    → find k (entries (with_entry k v w)) ≡ Some v
find-with_entry_same k v w h = ap (find k) (entries-with_entry k v w h) ∙ find-put_same k v (entries w)

pub find-with_entry_other : (j k : List ℕ) (v w : Value) → j ≢ k
    → find j (entries (with_entry k v w)) ≡ find j (entries w)
find-with_entry_other j k v (object ps) apart =
    ap (find j) (entries-with_entry k v (object ps) refl) ∙ find-put_other j k v (list_of_pairs ps) apart
find-with_entry_other j k v _ apart = refl

pub find-without_entry_same : (k : List ℕ) (w : Value) → AllPairs (λ i j. i ≢ j) (keys_of (entries w))
    → find k (entries (without_entry k w)) ≡ None
find-without_entry_same k w distinct = ap (find k) (entries-without_entry k w) ∙ find-cut_same k (entries w) distinct

pub find-without_entry_other : (j k : List ℕ) (w : Value) → j ≢ k
    → find j (entries (without_entry k w)) ≡ find j (entries w)
find-without_entry_other j k w apart = ap (find j) (entries-without_entry k w) ∙ find-cut_other j k (entries w) apart

-- ---- the lists of a value, and back

pub values_of-list_of_values : (vs : Values) → values_of (list_of_values vs) ≡ vs
values_of-list_of_values no_values = refl
values_of-list_of_values (value v vs) = ap (λ ws. value v ws) (values_of-list_of_values vs)

pub pairs_of-list_of_pairs : (ps : ValuePairs) → pairs_of (list_of_pairs ps) ≡ ps
pairs_of-list_of_pairs no_pairs = refl
pairs_of-list_of_pairs (pair k v ps) = ap (λ qs. pair k v qs) (pairs_of-list_of_pairs ps)

-- ---- putting the view of the value that is there already

put_same-by : (b : Bool) (k : List ℕ) (v w : JsonValue) (p : List ℕ × JsonValue) (ps : List (List ℕ × JsonValue))
    → cond b (Some p.1) (find k ps) ≡ Some w → view v ≡ view w
    → (find k ps ≡ Some w → viewed (put k v ps) ≡ viewed ps)
    → viewed (cond b ((p.0, v) ∷ ps) (p ∷ put k v ps)) ≡ viewed (p ∷ ps)
put_same-by true k v w p ps found same rest =
    let is : p.1 ≡ w = cc in ap (λ (x : Value). (p.0, x) ∷ viewed ps) (same ∙ sym (ap view is))
put_same-by false k v w p ps found same rest = ap (λ (qs : List (List ℕ × Value)). (p.0, view p.1) ∷ qs) (rest found)

pub viewed-put_same : (k : List ℕ) (v w : JsonValue) (ps : List (List ℕ × JsonValue)) → find k ps ≡ Some w
    → view v ≡ view w → viewed (put k v ps) ≡ viewed ps
viewed-put_same k v w [] found same = absurd (cc)
viewed-put_same k v w (p ∷ ps) found same =
    put_same-by (bytes_eq p.0 k) k v w p ps found same (λ rest. viewed-put_same k v w ps rest same)

-- ---- values that are no object, and values that are no array

-- by what a match on `JsonValue::Object` leaves to its last arm
rolled-not_Object : (l : JsonValue-F JsonValue Object) → ((o : Object) → roll-JsonValue l ≡ object_value o → ⊥)
    → is_object (view (roll-JsonValue l)) ≡ false
rolled-not_Object (JsonValue-F.Object o) h =
    let is : roll-JsonValue (JsonValue-F.Object o) ≡ object_value o = search (rules, the_lemmas) in absurd (h o is)
rolled-not_Object _ h = search (rules, the_lemmas)

pub is_object-not_Object : (v : JsonValue) → ((o : Object) → v ≡ object_value o → ⊥) → is_object (view v) ≡ false
is_object-not_Object v =
    by_kind (λ w. ((o : Object) → w ≡ object_value o → ⊥) → is_object (view w) ≡ false) rolled-not_Object v

pub is_object-no_object_in : (v : JsonValue) → object_in v ≡ None → is_object (view v) ≡ false
is_object-no_object_in v none = is_object-not_Object v (λ o e.
    let is : object_in (object_value o) ≡ Some o = search (rules, the_lemmas) in
    none-some o (sym none ∙ ap object_in e ∙ is))

rolled-no_array : (l : JsonValue-F JsonValue Object) → items_in (roll-JsonValue l) ≡ None
    → is_array (view (roll-JsonValue l)) ≡ false
rolled-no_array (JsonValue-F.Array vs) h =
    let is : items_in (roll-JsonValue (JsonValue-F.Array vs)) ≡ Some vs.items = search (rules, the_lemmas) in
    absurd (none-some vs.items (sym h ∙ is))
rolled-no_array _ h = search (rules, the_lemmas)

pub is_array-no_items_in : (v : JsonValue) → items_in v ≡ None → is_array (view v) ≡ false
is_array-no_items_in v = by_kind (λ w. items_in w ≡ None → is_array (view w) ≡ false) rolled-no_array v

-- the same, from what `as_object` and `as_array` return
pub is_object-no_object_of : (v : Value) → object_of v ≡ None → is_object v ≡ false
is_object-no_object_of (object ps) h = absurd (cc)
is_object-no_object_of _ h = refl

pub is_array-no_array_of : (v : Value) → array_of v ≡ None → is_array v ≡ false
is_array-no_array_of (array vs) h = absurd (cc)
is_array-no_array_of _ h = refl
