-- What is seen of an object or an array when a child is inserted or removed.
use Rattle.std.proofs.Common.{◌≡◌, ℕ, zero, suc, ◌-◌, List, [], ◌∷◌, length, map, Option, None, Some, option_map, option_and_then, slice_get}
use Rattle.std.proofs.Common.{Bool, true, false, nat_lt, if◌then◌else◌, refl, sym, ap, ◌∙◌, arith}
use Rattle.std.proofs.lemmas.Bool.Decides.{nat_tests}
use Rattle.std.proofs.lemmas.List.{length-map}
use Rattle.std.specs.Str.{bytes_eq}
use Rattle.std.proofs.lemmas.Option.{none-some, slice_get-map, slice_get_past}
use Rattle.std.specs.List.{insert, remove}
use Rattle.std.specs.Option.{option_map_or}
use Rattle.jzon.specs.Entries.{entries_of}
use Rattle.jzon.specs.JsonValue.{JsonValue}
use Rattle.jzon.specs.Object.{Object}
use Rattle.jzon.specs.PairList.{find, put, cut}
use Rattle.jzon.specs.Value.{Value, ValuePairs, null, boolean, text, number, array, object, values_of, pairs_of, list_of_values, list_of_pairs}
use Rattle.jzon.specs.View.{view, viewed, view_object}
use Rattle.jzon.proofs.ValueLaws.{list_of_pairs-pairs_of, viewed-put, viewed-cut, find-viewed, list_of_values-values_of}
use Rattle.jzon_pointer.specs.Pointer.{index_named, token_key, child_of, new_index, with_new, without}
use Rattle.jzon_pointer.proofs.PlaceSteps.{array_seen, elements-counted}
use Rattle.jzon_tools.specs.Patch.{shifted_new, shifted_out}

module _ {X Y : Type 0} (f : X → Y) where
  map-insert : (xs : List X) (i : ℕ) (y : X) → map f (insert xs i y) ≡ insert (map f xs) i (f y)
  map-insert xs zero y = refl
  map-insert [] (suc i) y = refl
  map-insert (x ∷ xs) (suc i) y = ap (λ ys. f x ∷ ys) (map-insert xs i y)

  map-remove : (xs : List X) (i : ℕ) → map f (remove xs i) ≡ remove (map f xs) i
  map-remove [] zero = refl
  map-remove [] (suc i) = refl
  map-remove (x ∷ xs) zero = refl
  map-remove (x ∷ xs) (suc i) = ap (λ ys. f x ∷ ys) (map-remove xs i)

-- ---- insertion

inserted_by : (items : List JsonValue) (new : JsonValue) (i : Option ℕ)
    → option_map (λ j. array (values_of (insert (map view items) j (view new)))) i
    ≡ option_map (λ j. array_seen (insert items j new)) i
inserted_by items new None = refl
inserted_by items new (Some i) = ap (λ vs. Some (array (values_of vs))) (sym (map-insert view items i new))

pub element-new : (items : List JsonValue) (t : List ℕ) (new : JsonValue) (n : ℕ) (i : Option ℕ) → length items ≡ n
    → new_index t n ≡ i → with_new (view new) (array_seen items) t ≡ option_map (λ j. array_seen (insert items j new)) i
element-new items t new n i long at =
    ap (λ vs. option_map (λ j. array (values_of (insert vs j (view new)))) (new_index t (length vs)))
    (list_of_values-values_of (map view items))
    ∙ ap (option_map (λ j. array (values_of (insert (map view items) j (view new)))))
    (ap (new_index t) (length-map items view ∙ long) ∙ at)
    ∙ inserted_by items new i

put_by : (ps : List (List ℕ × JsonValue)) (new : JsonValue) (k : Option (List ℕ))
    → option_map (λ j. object (pairs_of (put j (view new) (list_of_pairs (pairs_of (viewed ps)))))) k
    ≡ option_map (λ j. object (pairs_of (viewed (put j new ps)))) k
put_by ps new None = refl
put_by ps new (Some k) =
    ap (λ qs. Some (object (pairs_of (put k (view new) qs)))) (list_of_pairs-pairs_of (viewed ps))
    ∙ ap (λ qs. Some (object (pairs_of qs))) (sym (viewed-put k new ps))

pub member-new : (o : Object) (t : List ℕ) (new : JsonValue) (k : Option (List ℕ)) → token_key t ≡ k
    → with_new (view new) (view_object o) t
    ≡ option_map (λ j. object (pairs_of (viewed (put j new (entries_of o))))) k
member-new o t new k named =
    put_by (entries_of o) new (token_key t)
    ∙ ap (option_map (λ j. object (pairs_of (viewed (put j new (entries_of o)))))) named

-- ---- removal

pub element-removed : (items : List JsonValue) (t : List ℕ) (i : ℕ) (c : JsonValue) → index_named t ≡ Some i
    → slice_get items i ≡ Some c → without (array_seen items) t ≡ Some (array_seen (remove items i))
element-removed items t i c named at =
    ap (option_and_then (λ j. option_map (λ c. array (values_of (remove (list_of_values (values_of (map view items))) j)))
    (slice_get (list_of_values (values_of (map view items))) j))) named
    ∙ ap (λ vs. option_map (λ c. array (values_of (remove vs i))) (slice_get vs i))
    (list_of_values-values_of (map view items))
    ∙ ap (option_map (λ c. array (values_of (remove (map view items) i))))
    (slice_get-map view items i ∙ ap (option_map view) at)
    ∙ ap (λ vs. Some (array (values_of vs))) (sym (map-remove view items i))

cut_by : (ps : List (List ℕ × JsonValue)) (k : Option (List ℕ))
    → option_and_then (λ j. option_map (λ c. object (pairs_of (cut j (list_of_pairs (pairs_of (viewed ps))))))
    (find j (list_of_pairs (pairs_of (viewed ps))))) k
    ≡ option_and_then (λ j. option_map (λ c. object (pairs_of (viewed (cut j ps)))) (option_map view (find j ps))) k
cut_by ps None = refl
cut_by ps (Some k) =
    ap (λ qs. option_map (λ c. object (pairs_of (cut k qs))) (find k qs)) (list_of_pairs-pairs_of (viewed ps))
    ∙ ap (λ qs. option_map (λ c. object (pairs_of qs)) (find k (viewed ps))) (sym (viewed-cut k ps))
    ∙ ap (option_map (λ c. object (pairs_of (viewed (cut k ps))))) (sym (find-viewed k ps))

cut_result : (ps qs : List (List ℕ × JsonValue)) (c : JsonValue) (k : Option (List ℕ))
    → option_and_then (λ j. find j ps) k ≡ Some c → option_map_or (λ j. cut j ps) k ps ≡ qs
    → option_and_then (λ j. option_map (λ c. object (pairs_of (viewed (cut j ps)))) (option_map view (find j ps))) k
    ≡ Some (object (pairs_of (viewed qs)))
cut_result ps qs c None there left = absurd (none-some c there)
cut_result ps qs c (Some k) there left =
    ap (λ r. option_map (λ (w : Value). object (pairs_of (viewed (cut k ps)))) (option_map view r)) there
    ∙ ap (λ l. Some (object (pairs_of (viewed l)))) left

pub member-removed : (o : Object) (t : List ℕ) (c : JsonValue) (qs : List (List ℕ × JsonValue))
    → option_and_then (λ k. find k (entries_of o)) (token_key t) ≡ Some c
    → option_map_or (λ k. cut k (entries_of o)) (token_key t) (entries_of o) ≡ qs
    → without (view_object o) t ≡ Some (object (pairs_of (viewed qs)))
member-removed o t c qs there left =
    cut_by (entries_of o) (token_key t) ∙ cut_result (entries_of o) qs c (token_key t) there left

-- ---- what is shifted

pub shifted-element : (items : List JsonValue) (t : List ℕ) (n i : ℕ) → length items ≡ n → new_index t n ≡ Some i
    → shifted_new (array_seen items) t ≡ n - i
shifted-element items t n i long at =
    ap (λ m. option_map_or (λ j. m - j) (new_index t m) 0) (elements-counted items ∙ long)
    ∙ ap (λ o. option_map_or (λ j. n - j) o 0) at

pub shifted-behind : (items : List JsonValue) (t : List ℕ) (i : ℕ) → index_named t ≡ Some i
    → shifted_out (array_seen items) t ≡ length items - suc i
shifted-behind items t i named =
    ap (λ n. option_map_or (λ j. n - suc j) (index_named t) 0) (elements-counted items)
    ∙ ap (λ o. option_map_or (λ j. length items - suc j) o 0) named

pub shifted-members : (o : Object) (t : List ℕ) → shifted_out (view_object o) t ≡ length (entries_of o)
shifted-members o t =
    ap length (list_of_pairs-pairs_of (viewed (entries_of o))) ∙ length-map (entries_of o) (λ p. (p.0, view p.1))

-- ---- what can't be inserted isn't there

no_key : (w : Value) (ps : ValuePairs) (k : Option (List ℕ))
    → option_map (λ j. object (pairs_of (put j w (list_of_pairs ps)))) k ≡ None
    → option_and_then (λ j. find j (list_of_pairs ps)) k ≡ None
no_key w ps None h = refl
no_key w ps (Some k) h = absurd (cc)

past_end : (w : Value) (vs : List Value) (b : Bool) (i : ℕ) → nat_lt (length vs) i ≡ b
    → option_map (λ j. array (values_of (insert vs j w))) (if b then None else Some i) ≡ None
    → slice_get vs i ≡ None
past_end w vs true i e h = slice_get_past vs i (grind (arith, nat_tests))
past_end w vs false i e h = absurd (cc)

no_place : (w : Value) (vs : List Value) (b : Bool) (i : Option ℕ)
    → option_map (λ j. array (values_of (insert vs j w)))
    (if b then Some (length vs) else option_and_then (λ j. if nat_lt (length vs) j then None else Some j) i) ≡ None
    → option_and_then (λ j. slice_get vs j) i ≡ None
no_place w vs true i h = absurd (cc)
no_place w vs false None h = refl
no_place w vs false (Some i) h = past_end w vs (nat_lt (length vs) i) i refl h

pub no_new-no_child : (w v : Value) (t : List ℕ) → with_new w v t ≡ None → child_of v t ≡ None
no_new-no_child w (object ps) t h = no_key w ps (token_key t) h
no_new-no_child w (array vs) t h = no_place w (list_of_values vs) (bytes_eq t (45 ∷ [])) (index_named t) h
no_new-no_child w null t h = refl
no_new-no_child w (boolean b) t h = refl
no_new-no_child w (text k s) t h = refl
no_new-no_child w (number n) t h = refl
