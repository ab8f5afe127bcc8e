-- A value viewed level by level, and the views of an object's entries.
use Rattle.jzon_base.proofs.Common.{◌≡◌, ℕ, List, [], ◌∷◌, map, Option, Some, None, option_map, Vec, Global, cond, Bool}
use Rattle.jzon_base.proofs.Common.{true, false, Bor, refl, sym, ap, ◌∙◌, ◌≤◌, arith, rules, zip, bytes_eq}
use denote.Param.Weighed.{most}
use Rattle.std.specs.Option.{option_copied}
use Rattle.jzon_base.specs.PairList.{find, put, cut, keys_of, values_of}
use Rattle.jzon_tree.specs.Value.{Value, null, boolean, array, pairs_of, list_of_pairs}
use Rattle.jzon_tree.specs.View.{view, view_object, viewed, view_pairs, view_values}
use Rattle.jzon_tree.specs.declared.object.Object.{Object}
use Rattle.jzon_tree.specs.declared.value.JsonValue.{JsonValue, size-JsonValue, Null, Boolean, Array}
use Rattle.jzon_tree.specs.declared.value.JsonValue.{Object as in_object, the_lemmas}

pub view-Null : view Null ≡ null
view-Null = search (rules, the_lemmas)

pub view-Boolean : (b : Bool) → view (Boolean b) ≡ boolean b
view-Boolean b = search (rules, the_lemmas)

pub view-Array : (v : Vec JsonValue Global) → view (Array v) ≡ array (view_values v.items)
view-Array v = search (rules, the_lemmas)

pub view-Object : (o : Object) → view (in_object o) ≡ view_object o
view-Object o = search (rules, the_lemmas)

-- ---- views of lookups in an object's entries and of changes to them
pub list_of_pairs-pairs_of : (ps : List (List ℕ × Value)) → list_of_pairs (pairs_of ps) ≡ ps
list_of_pairs-pairs_of [] = refl
list_of_pairs-pairs_of (p ∷ ps) = ap (λ (qs : List (List ℕ × Value)). p ∷ qs) (list_of_pairs-pairs_of ps)

find-viewed-at : (b : Bool) (v : JsonValue) (rest : Option JsonValue) (found : Option Value)
    → option_map view rest ≡ found → option_map view (cond b (Some v) rest) ≡ cond b (Some (view v)) found
find-viewed-at true v rest found e = refl
find-viewed-at false v rest found e = e

pub find-viewed : (k : List ℕ) (ps : List (List ℕ × JsonValue)) → option_map view (find k ps) ≡ find k (viewed ps)
find-viewed k [] = refl
find-viewed k (p ∷ ps) = find-viewed-at (bytes_eq p.0 k) p.1 (find k ps) _ (find-viewed k ps)

viewed-cond : (b : Bool) (ps qs : List (List ℕ × JsonValue)) → viewed (cond b ps qs) ≡ cond b (viewed ps) (viewed qs)
viewed-cond true ps qs = refl
viewed-cond false ps qs = refl

pub viewed-put : (k : List ℕ) (v : JsonValue) (ps : List (List ℕ × JsonValue))
    → viewed (put k v ps) ≡ put k (view v) (viewed ps)
viewed-put k v [] = refl
viewed-put k v (p ∷ ps) =
    viewed-cond (bytes_eq p.0 k) ((p.0, v) ∷ ps) (p ∷ put k v ps)
    ∙ ap (λ (qs : List (List ℕ × Value)). cond (bytes_eq p.0 k) ((p.0, view v) ∷ viewed ps) ((p.0, view p.1) ∷ qs))
    (viewed-put k v ps)

pub viewed-cut : (k : List ℕ) (ps : List (List ℕ × JsonValue)) → viewed (cut k ps) ≡ cut k (viewed ps)
viewed-cut k [] = refl
viewed-cut k (p ∷ ps) =
    viewed-cond (bytes_eq p.0 k) ps (p ∷ cut k ps) ∙ ap (λ (qs : List (List ℕ × Value)). cond (bytes_eq p.0 k)
    (viewed ps) ((p.0, view p.1) ∷ qs)) (viewed-cut k ps)

pub view-find : (k : List ℕ) (ps : List (List ℕ × JsonValue))
    → option_map view (find k ps) ≡ find k (list_of_pairs (view_pairs ps))
view-find k ps = find-viewed k ps ∙ ap (find k) (sym (list_of_pairs-pairs_of (viewed ps)))

-- ---- what a call returns by reference
pub view_of_ref : (r : Option (Bor JsonValue)) → option_map (λ x. view x.now) r ≡ option_map view (option_copied r)
view_of_ref None = refl
view_of_ref (Some x) = refl

pub view_found : (r : Option (Bor JsonValue)) (o : Option JsonValue) → option_copied r ≡ o
    → option_map (λ x. view x.now) r ≡ option_map view o
view_found r o e = view_of_ref r ∙ ap (option_map view) e

-- the keys of an object with other values that have the same views
pub view_pairs-zip : (ps : List (List ℕ × JsonValue)) (vs : List JsonValue) → map view vs ≡ map view (values_of ps)
    → view_pairs (zip (keys_of ps) vs) ≡ view_pairs ps
view_pairs-zip [] vs e = refl
view_pairs-zip (p ∷ ps) [] e = absurd (cc)
view_pairs-zip (p ∷ ps) (v ∷ vs) e =
    let first : view v ≡ view p.1 = cc in
    let rest : map view vs ≡ map view (values_of ps) = cc in
    rw (first, view_pairs-zip ps vs rest) refl

-- no value of the entries that are left is larger than all of them
pub most-rest : (ps rest : List (List ℕ × JsonValue)) (p : List ℕ × JsonValue) → ps ≡ p ∷ rest
    → most size-JsonValue (values_of rest) ≤ most size-JsonValue (values_of ps)
most-rest ps rest p e = omega (arith, ap (λ (xs : List (List ℕ × JsonValue)). most size-JsonValue (values_of xs)) e)

pub ruleset views = (view-Array, view-Object, view-find, view_of_ref, viewed-put, viewed-cut)
