-- What is seen of an object or an array while a value inside is changed.
use Rattle.std.proofs.Common.{◌≡◌, ◌<◌, ℕ, suc, ◌+◌, ◌-◌, length, get_or, List, [], ◌∷◌, Err, arith, map, Option, None, Some, option_map, option_and_then, slice_get, slice_set}
use Rattle.std.proofs.Common.{refl, sym, ap, ◌∙◌}
use Rattle.std.proofs.lemmas.List.{length-map, map-set}
use Rattle.std.proofs.lemmas.Option.{slice_get-map, slice_get-get_or, slice_get_past, slice_get_read}
use Rattle.std.specs.List.{ItemBy, position}
use Rattle.std.specs.Option.{option_map_or, ok_or, MatchOption}
use Rattle.jzon.specs.Entries.{entries_of}
use Rattle.jzon.specs.JsonValue.{JsonValue}
use Rattle.jzon.specs.Object.{Object}
use Rattle.jzon.specs.PairList.{keys_of, find, put, set_value}
use Rattle.jzon.specs.Value.{Value, array, object, values_of, pairs_of, list_of_values, list_of_pairs}
use Rattle.jzon.specs.View.{view, viewed, view_object}
use Rattle.jzon.proofs.ValueLaws.{view-Object, view-Array, entries-Object, list_of_pairs-pairs_of, viewed-put, viewed-cut}
use Rattle.jzon.proofs.ValueLaws.{find-viewed, find-view_object, list_of_values-values_of}
use Rattle.jzon_pointer.proofs.ChangeLaws.{found-below, found-none}
use Rattle.jzon_pointer.proofs.NameSteps.{entry-at, named-written}
use Rattle.jzon_pointer.specs.Pointer.{index_named, child_of, with_child, token_key, names, tokens_in, tokens_left, tokens_of, value_at, missing, found, and_then}
use Rattle.jzon_pointer.specs.declared.pointer.PointerError.TheVariants.{NoSlash}

-- the array of these elements
abbrev pub array_seen : List JsonValue → Value
array_seen items = array (values_of (map view items))

pub elements-counted : (items : List JsonValue) → length (list_of_values (values_of (map view items))) ≡ length items
elements-counted items = ap length (list_of_values-values_of (map view items)) ∙ length-map items view

pub element-found : (items : List JsonValue) (t : List ℕ) (i : ℕ) → index_named t ≡ Some i
    → child_of (array_seen items) t ≡ option_map view (slice_get items i)
element-found items t i named =
    ap (option_and_then (λ j. slice_get (list_of_values (values_of (map view items))) j)) named
    ∙ ap (λ vs. slice_get vs i) (list_of_values-values_of (map view items)) ∙ slice_get-map view items i

pub element-there : (items : List JsonValue) (t : List ℕ) (i : ℕ) (v : JsonValue) → index_named t ≡ Some i
    → i < length items → v ≡ get_or items i v → child_of (array_seen items) t ≡ Some (view v)
element-there items t i v named within is =
    element-found items t i named ∙ ap (option_map view) (slice_get_read items (length items) i v refl within is)

pub element-missing : (items : List JsonValue) (t : List ℕ) → index_named t ≡ None
    → child_of (array_seen items) t ≡ None
element-missing items t named =
    ap (option_and_then (λ j. slice_get (list_of_values (values_of (map view items))) j)) named

pub element-written : (items : List JsonValue) (t : List ℕ) (i : ℕ) (new : JsonValue) → index_named t ≡ Some i
    → with_child (array_seen items) t (view new) ≡ array_seen (slice_set items i new)
element-written items t i new named =
    let old = list_of_values (values_of (map view items)) in
    ap (λ n. array (values_of (option_map_or (λ j. slice_set old j (view new)) n old))) named
    ∙ ap (λ vs. array (values_of (slice_set vs i (view new)))) (list_of_values-values_of (map view items))
    ∙ ap (λ vs. array (values_of vs)) (sym (map-set view items i new))

-- the element that a token names, as `get` and `get_mut` lend it
pub element-lent : {R : Type 0} (now : R → JsonValue) (items : List JsonValue) (t : List ℕ) (i : ℕ) (r : Option R)
    → index_named t ≡ Some i → ItemBy now items i i r
    → option_map (λ x. view (now x)) r ≡ child_of (array_seen items) t
element-lent now items t i None named h =
    sym (element-found items t i named ∙ ap (option_map view) (slice_get_past items i h.3))
element-lent now items t i (Some x) named h =
    sym (element-found items t i named
    ∙ ap (option_map view) (slice_get-get_or items i (now x) h.3.0 ∙ ap (λ (v : JsonValue). Some v) (sym h.1)))

member_by : (ps : List (List ℕ × JsonValue)) (k : Option (List ℕ))
    → option_and_then (λ j. find j (list_of_pairs (pairs_of (viewed ps)))) k
    ≡ option_map view (option_and_then (λ j. find j ps) k)
member_by ps None = refl
member_by ps (Some k) = ap (find k) (list_of_pairs-pairs_of (viewed ps)) ∙ sym (find-viewed k ps)

pub member-child : (o : Object) (t : List ℕ)
    → child_of (view_object o) t ≡ option_map view (option_and_then (λ k. find k (entries_of o)) (token_key t))
member-child o t = member_by (entries_of o) (token_key t)

-- the member that a token names, by its position
pub member-at : (o : Object) (t : List ℕ) (i : Option ℕ) → position (names t) (keys_of (entries_of o)) ≡ i
    → child_of (view_object o) t
    ≡ option_map view (option_map (λ p. p.1) (option_and_then (λ j. slice_get (entries_of o) j) i))
member-at o t i at = member-child o t ∙ ap (option_map view) (entry-at t (entries_of o) i at)

written_by : (ps : List (List ℕ × JsonValue)) (k : Option (List ℕ)) (new : JsonValue)
    → option_map_or (λ j. put j (view new) (list_of_pairs (pairs_of (viewed ps)))) k (list_of_pairs (pairs_of (viewed ps)))
    ≡ viewed (option_map_or (λ j. put j new ps) k ps)
written_by ps None new = list_of_pairs-pairs_of (viewed ps)
written_by ps (Some k) new =
    ap (put k (view new)) (list_of_pairs-pairs_of (viewed ps)) ∙ sym (viewed-put k new ps)

member-written : (o : Object) (t : List ℕ) (new : JsonValue) (qs : List (List ℕ × JsonValue))
    → option_map_or (λ k. put k new (entries_of o)) (token_key t) (entries_of o) ≡ qs
    → with_child (view_object o) t (view new) ≡ object (pairs_of (viewed qs))
member-written o t new qs is =
    ap (λ ps. object (pairs_of ps)) (written_by (entries_of o) (token_key t) new)
    ∙ ap (λ ps. object (pairs_of (viewed ps))) is

pub placed-written : (o : Object) (t : List ℕ) (i : ℕ) (new : JsonValue)
    → position (names t) (keys_of (entries_of o)) ≡ Some i
    → with_child (view_object o) t (view new) ≡ object (pairs_of (viewed (set_value (entries_of o) i new)))
placed-written o t i new at =
    member-written o t new (set_value (entries_of o) i new) (named-written t (entries_of o) i new at)

-- what a pointer names is found at its tokens
pub value-of-tokens : (v : Value) (path : List ℕ) (ts : List (List ℕ)) → tokens_of path ≡ Some ts
    → value_at v path ≡ found 1 v ts
value-of-tokens v path ts h = ap (λ o. and_then (found 1 v) (ok_or o NoSlash)) h

-- how many bytes are left of a pointer
abbrev pub bytes_left : Option (List ℕ) → ℕ
bytes_left None = 0
bytes_left (Some cs) = length cs

-- what is found from the rest of a pointer on: at a child, after its token and a slash
pub found-further : (v c : Value) (path text t : List ℕ) (rest : Option (List ℕ))
    → tokens_in text ≡ t ∷ tokens_left rest → length text < length path
    → MatchOption rest (length t ≡ length text) (λ cs. suc (length t + length cs) ≡ length text)
    → child_of v t ≡ Some c
    → found (length path - length text) v (tokens_in text) ≡ found (length path - bytes_left rest) c (tokens_left rest)
found-further v c path text t None tokens within cut at =
    ap (found (length path - length text) v) tokens ∙ found-below (length path - length text) v t [] c at
found-further v c path text t (Some cs) tokens within cut at =
    ap (found (length path - length text) v) tokens
    ∙ found-below (length path - length text) v t (tokens_in cs) c at
    ∙ ap (λ i. found i c (tokens_in cs)) (omega (arith, cut, within))

-- and where there is no child, its token is the error's
pub found-missing : (v : Value) (path text t : List ℕ) (ts : List (List ℕ)) (start : ℕ)
    → tokens_in text ≡ t ∷ ts → start ≡ length path - length text → child_of v t ≡ None
    → found (length path - length text) v (tokens_in text) ≡ Err (missing start v t)
found-missing v path text t ts start tokens is at =
    ap (λ i. found i v (tokens_in text)) (sym is) ∙ ap (found start v) tokens ∙ found-none start v t ts at

pub ruleset placing = (elements-counted, element-found, element-missing, value-of-tokens, found-further, found-missing, view-Object, view-Array, entries-Object, list_of_pairs-pairs_of, viewed-put, viewed-cut, find-view_object, list_of_values-values_of)
