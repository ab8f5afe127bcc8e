-- What the operations that `diff` makes do, a piece at a time.
use Rattle.std.proofs.Common.{◌≡◌, ◌≢◌, ℕ, zero, suc, List, [], ◌∷◌, ◌++◌, Bool, true, false, if◌then◌else◌, not, ◌&&◌, ◌||◌, Option, None, Some}
use Rattle.std.proofs.Common.{option_map, option_and_then, slice_get, slice_set, AllPairs, refl, sym, ap, ◌∙◌, subst, append_assoc, append-nil, ◌≤◌, map, arith, length, Result, Ok, Err, OnOk}
use Rattle.std.proofs.lemmas.List.{map-append}
use Rattle.jzon.specs.JsonValue.{JsonValue}
use Rattle.jzon.specs.Measure.{size, largest_under}
use Rattle.jzon.specs.View.{view, viewed, view_pairs}
use Rattle.std.proofs.lemmas.Bool.{false≢true}
use Rattle.std.proofs.lemmas.Option.{none-some, same_Some}
use Rattle.std.proofs.lemmas.Slice.Eq.{bytes_eq-Decides}
use Rattle.std.proofs.lemmas.Map.Keys.{IsDistinct-head, IsDistinct-tail}
use Rattle.std.proofs.lemmas.Map.Made.{AllPairs-from_IsDistinct}
use Rattle.std.specs.List.{AllByRecursion, IsDistinct}
use Rattle.std.specs.Option.{is_some, option_map_or}
use Rattle.std.specs.Str.{bytes_eq}
use Rattle.jzon.specs.PairList.{find, put, cut, keys_of}
use Rattle.jzon.specs.Same.{same}
use Rattle.jzon.specs.SameLaws.{same_at, same_equiv, object-elim, object-intro}
use Rattle.jzon.specs.Value.{Value, null, boolean, text, number, array, object, no_values, list_of_values, list_of_pairs, values_of, pairs_of}
use Rattle.jzon.proofs.PairLaws.{bytes_eq-other, find-put_same, find-put_other, find-cut_same, find-cut_other, distinct-put, distinct-cut}
use Rattle.jzon.proofs.ValueLaws.{find-viewed, list_of_values-values_of, list_of_pairs-pairs_of}
use Rattle.jzon_tools.specs.Diff.{value_below, TurnsAt, AddsChanges, AddsMember, IsBelow, Replaces, Adds, Removes, TurnsInto}
use Rattle.jzon_pointer.specs.Escaped.{escaped}
use Rattle.jzon_tools.specs.Patch.{applied, applied_each, added_at, operated}
use Rattle.jzon_pointer.specs.Names.{is_among}
use Rattle.jzon_pointer.specs.Pointer.{index_named, token_key, child_of, tokens_of, with_child, updated, changed, with_new, without, inserted_at}
use Rattle.jzon_tools.proofs.SortedEntries.{apart-sym}
use Rattle.jzon_pointer.proofs.ChangeLaws.{changed-onto, with_child-same}
use Rattle.jzon_pointer.proofs.ChildSteps.{key-child}
use Rattle.jzon_pointer.proofs.EscapedSteps.{token_key-escaped}

-- ---- a child that is put twice

put-twice_by : (b : Bool) (p : List ℕ × Value) (k : List ℕ) (a c : Value) (ps : List (List ℕ × Value))
    → bytes_eq p.0 k ≡ b → put k c (put k a ps) ≡ put k c ps
    → put k c (if b then (p.0, a) ∷ ps else p ∷ put k a ps) ≡ (if b then (p.0, c) ∷ ps else p ∷ put k c ps)
put-twice_by true p k a c ps e ih = rw e refl
put-twice_by false p k a c ps e ih = rw e (ap (λ qs. p ∷ qs) ih)

put-twice : (k : List ℕ) (a c : Value) (ps : List (List ℕ × Value)) → put k c (put k a ps) ≡ put k c ps
put-twice k a c [] = rw ((bytes_eq-Decides k k).1 refl) refl
put-twice k a c (p ∷ ps) = put-twice_by (bytes_eq p.0 k) p k a c ps refl (put-twice k a c ps)

set-twice : (i : ℕ) (a c : Value) (vs : List Value) → slice_set (slice_set vs i a) i c ≡ slice_set vs i c
set-twice zero a c [] = refl
set-twice (suc i) a c [] = refl
set-twice zero a c (v ∷ vs) = refl
set-twice (suc i) a c (v ∷ vs) = ap (λ ws. v ∷ ws) (set-twice i a c vs)

get-set : (i : ℕ) (a c : Value) (vs : List Value) → slice_get vs i ≡ Some a → slice_get (slice_set vs i c) i ≡ Some c
get-set zero a c [] h = absurd (none-some a h)
get-set (suc i) a c [] h = absurd (none-some a h)
get-set zero a c (v ∷ vs) h = refl
get-set (suc i) a c (v ∷ vs) h = get-set i a c vs h

elements-twice : (o : Option ℕ) (a c : Value) (vs : List Value)
    → option_map_or (λ i. slice_set (option_map_or (λ j. slice_set vs j a) o vs) i c) o (option_map_or (λ j. slice_set vs j a) o vs)
    ≡ option_map_or (λ i. slice_set vs i c) o vs
elements-twice None a c vs = refl
elements-twice (Some i) a c vs = set-twice i a c vs

members-twice : (o : Option (List ℕ)) (a c : Value) (ps : List (List ℕ × Value))
    → option_map_or (λ k. put k c (option_map_or (λ j. put j a ps) o ps)) o (option_map_or (λ j. put j a ps) o ps)
    ≡ option_map_or (λ k. put k c ps) o ps
members-twice None a c ps = refl
members-twice (Some k) a c ps = put-twice k a c ps

with-twice : (v : Value) (t : List ℕ) (a c : Value) → with_child (with_child v t a) t c ≡ with_child v t c
with-twice null t a c = refl
with-twice (boolean b) t a c = refl
with-twice (text k s) t a c = refl
with-twice (number n) t a c = refl
with-twice (array vs) t a c =
    ap (λ l. array (values_of (option_map_or (λ i. slice_set l i c) (index_named t) l)))
    (list_of_values-values_of (option_map_or (λ i. slice_set (list_of_values vs) i a) (index_named t) (list_of_values vs)))
    ∙ ap (λ l. array (values_of l)) (elements-twice (index_named t) a c (list_of_values vs))
with-twice (object ps) t a c =
    ap (λ l. object (pairs_of (option_map_or (λ k. put k c l) (token_key t) l)))
    (list_of_pairs-pairs_of (option_map_or (λ k. put k a (list_of_pairs ps)) (token_key t) (list_of_pairs ps)))
    ∙ ap (λ l. object (pairs_of l)) (members-twice (token_key t) a c (list_of_pairs ps))

element-new_by : (o : Option ℕ) (a c : Value) (vs : List Value) → option_and_then (λ i. slice_get vs i) o ≡ Some a
    → option_and_then (λ i. slice_get (option_map_or (λ j. slice_set vs j c) o vs) i) o ≡ Some c
element-new_by None a c vs h = absurd (none-some a h)
element-new_by (Some i) a c vs h = get-set i a c vs h

member-new_by : (o : Option (List ℕ)) (a c : Value) (ps : List (List ℕ × Value)) → option_and_then (λ k. find k ps) o ≡ Some a
    → option_and_then (λ k. find k (option_map_or (λ j. put j c ps) o ps)) o ≡ Some c
member-new_by None a c ps h = absurd (none-some a h)
member-new_by (Some k) a c ps h = find-put_same k c ps

child-new : (v : Value) (t : List ℕ) (a c : Value) → child_of v t ≡ Some a → child_of (with_child v t c) t ≡ Some c
child-new null t a c h = absurd (none-some a h)
child-new (boolean b) t a c h = absurd (none-some a h)
child-new (text k s) t a c h = absurd (none-some a h)
child-new (number n) t a c h = absurd (none-some a h)
child-new (array vs) t a c h =
    ap (λ l. option_and_then (λ i. slice_get l i) (index_named t))
    (list_of_values-values_of (option_map_or (λ i. slice_set (list_of_values vs) i c) (index_named t) (list_of_values vs)))
    ∙ element-new_by (index_named t) a c (list_of_values vs) h
child-new (object ps) t a c h =
    ap (λ l. option_and_then (λ k. find k l) (token_key t))
    (list_of_pairs-pairs_of (option_map_or (λ k. put k c (list_of_pairs ps)) (token_key t) (list_of_pairs ps)))
    ∙ member-new_by (token_key t) a c (list_of_pairs ps) h

-- ---- a change of what tokens lead to

updated-same_by : (o : Option Value) (d u : Value) (t : List ℕ) (ts : List (List ℕ))
    → ((c : Value) → value_below c ts ≡ Some u → updated (λ _. Some u) c ts ≡ Some c) → child_of d t ≡ o
    → option_and_then (λ c. value_below c ts) o ≡ Some u
    → option_map (with_child d t) (option_and_then (λ c. updated (λ _. Some u) c ts) o) ≡ Some d
updated-same_by None d u t ts ih at h = absurd (none-some u h)
updated-same_by (Some c) d u t ts ih at h =
    ap (option_map (with_child d t)) (ih c h) ∙ ap (λ x. Some x) (with_child-same d t c at)

updated-same : (ts : List (List ℕ)) (d u : Value) → value_below d ts ≡ Some u → updated (λ _. Some u) d ts ≡ Some d
updated-same [] d u h = sym h
updated-same (t ∷ ts) d u h = updated-same_by (child_of d t) d u t ts (λ c g. updated-same ts c u g) refl h

updated-some_by : (o : Option Value) (d u w : Value) (t : List ℕ) (ts : List (List ℕ))
    → ((c : Value) → value_below c ts ≡ Some u → (e : Value) × (updated (λ _. Some w) c ts ≡ Some e))
    → option_and_then (λ c. value_below c ts) o ≡ Some u
    → (e : Value) × (option_map (with_child d t) (option_and_then (λ c. updated (λ _. Some w) c ts) o) ≡ Some e)
updated-some_by None d u w t ts ih h = absurd (none-some u h)
updated-some_by (Some c) d u w t ts ih h =
    let below = ih c h in (with_child d t below.0, ap (option_map (with_child d t)) below.1)

updated-some : (ts : List (List ℕ)) (d u w : Value) → value_below d ts ≡ Some u
    → (e : Value) × (updated (λ _. Some w) d ts ≡ Some e)
updated-some [] d u w h = (w, refl)
updated-some (t ∷ ts) d u w h = updated-some_by (child_of d t) d u w t ts (λ c g. updated-some ts c u w g) h

below-updated_by : (o : Option Value) (d u v e : Value) (t : List ℕ) (ts : List (List ℕ))
    → ((c f : Value) → value_below c ts ≡ Some u → updated (λ _. Some v) c ts ≡ Some f → value_below f ts ≡ Some v)
    → child_of d t ≡ o → option_and_then (λ c. value_below c ts) o ≡ Some u
    → option_map (with_child d t) (option_and_then (λ c. updated (λ _. Some v) c ts) o) ≡ Some e
    → option_and_then (λ c. value_below c ts) (child_of e t) ≡ Some v
below-updated_by None d u v e t ts ih at h g = absurd (none-some u h)
below-updated_by (Some c) d u v e t ts ih at h g =
    let below = updated-some ts c u v h in
    let is : with_child d t below.0 ≡ e =
    same_Some (with_child d t below.0) e (sym (ap (option_map (with_child d t)) below.1) ∙ g) in
    subst (λ x. option_and_then (λ y. value_below y ts) (child_of x t) ≡ Some v) is
    (ap (option_and_then (λ y. value_below y ts)) (child-new d t c below.0 at) ∙ ih c below.0 h below.1)

below-updated : (ts : List (List ℕ)) (d u v e : Value) → value_below d ts ≡ Some u → updated (λ _. Some v) d ts ≡ Some e
    → value_below e ts ≡ Some v
below-updated [] d u v e h g = sym g
below-updated (t ∷ ts) d u v e h g =
    below-updated_by (child_of d t) d u v e t ts (λ c f. below-updated ts c u v f) refl h g

map-same : (f g : Value → Value) (o : Option Value) → ((x : Value) → f x ≡ g x) → option_map f o ≡ option_map g o
map-same f g None h = refl
map-same f g (Some x) h = ap (λ y. Some y) (h x)

updated-twice_by : (o : Option Value) (d u v w e : Value) (t : List ℕ) (ts : List (List ℕ))
    → ((c f : Value) → value_below c ts ≡ Some u → updated (λ _. Some v) c ts ≡ Some f
    → updated (λ _. Some w) f ts ≡ updated (λ _. Some w) c ts)
    → child_of d t ≡ o → option_and_then (λ c. value_below c ts) o ≡ Some u
    → option_map (with_child d t) (option_and_then (λ c. updated (λ _. Some v) c ts) o) ≡ Some e
    → option_map (with_child e t) (option_and_then (λ c. updated (λ _. Some w) c ts) (child_of e t))
    ≡ option_map (with_child d t) (option_and_then (λ c. updated (λ _. Some w) c ts) o)
updated-twice_by None d u v w e t ts ih at h g = absurd (none-some u h)
updated-twice_by (Some c) d u v w e t ts ih at h g =
    let below = updated-some ts c u v h in
    let new = with_child d t below.0 in
    let is : new ≡ e = same_Some new e (sym (ap (option_map (with_child d t)) below.1) ∙ g) in
    subst (λ x. option_map (with_child x t) (option_and_then (λ y. updated (λ _. Some w) y ts) (child_of x t))
    ≡ option_map (with_child d t) (updated (λ _. Some w) c ts)) is
    (ap (λ p. option_map (with_child new t) (option_and_then (λ y. updated (λ _. Some w) y ts) p)) (child-new d t c below.0 at)
    ∙ ap (option_map (with_child new t)) (ih c below.0 h below.1)
    ∙ map-same (with_child new t) (with_child d t) (updated (λ _. Some w) c ts) (λ x. with-twice d t below.0 x))

updated-twice : (ts : List (List ℕ)) (d u v w e : Value) → value_below d ts ≡ Some u
    → updated (λ _. Some v) d ts ≡ Some e → updated (λ _. Some w) e ts ≡ updated (λ _. Some w) d ts
updated-twice [] d u v w e h g = refl
updated-twice (t ∷ ts) d u v w e h g =
    updated-twice_by (child_of d t) d u v w e t ts (λ c f. updated-twice ts c u v w f) refl h g

some-same : (o : Option Value) → option_and_then (λ c. Some c) o ≡ o
some-same None = refl
some-same (Some c) = refl

below-last_by : (o : Option Value) (u : Value) (t : List ℕ) (ts : List (List ℕ))
    → ((c : Value) → value_below c ts ≡ Some u → value_below c (ts ++ t ∷ []) ≡ child_of u t)
    → option_and_then (λ c. value_below c ts) o ≡ Some u
    → option_and_then (λ c. value_below c (ts ++ t ∷ [])) o ≡ child_of u t
below-last_by None u t ts ih h = absurd (none-some u h)
below-last_by (Some c) u t ts ih h = ih c h

below-last : (ts : List (List ℕ)) (d u : Value) (t : List ℕ) → value_below d ts ≡ Some u
    → value_below d (ts ++ t ∷ []) ≡ child_of u t
below-last [] d u t h = some-same (child_of d t) ∙ ap (λ v. child_of v t) (same_Some d u h)
below-last (s ∷ ts) d u t h = below-last_by (child_of d s) u t ts (λ c g. below-last ts c u t g) h

updated-last_by : (o : Option Value) (d u b : Value) (s t : List ℕ) (ts : List (List ℕ))
    → ((c : Value) → value_below c ts ≡ Some u
    → updated (λ _. Some b) c (ts ++ t ∷ []) ≡ updated (λ _. Some (with_child u t b)) c ts)
    → option_and_then (λ c. value_below c ts) o ≡ Some u
    → option_map (with_child d s) (option_and_then (λ c. updated (λ _. Some b) c (ts ++ t ∷ [])) o)
    ≡ option_map (with_child d s) (option_and_then (λ c. updated (λ _. Some (with_child u t b)) c ts) o)
updated-last_by None d u b s t ts ih h = absurd (none-some u h)
updated-last_by (Some c) d u b s t ts ih h = ap (option_map (with_child d s)) (ih c h)

updated-last : (ts : List (List ℕ)) (d u a b : Value) (t : List ℕ) → child_of u t ≡ Some a → value_below d ts ≡ Some u
    → updated (λ _. Some b) d (ts ++ t ∷ []) ≡ updated (λ _. Some (with_child u t b)) d ts
updated-last [] d u a b t at h =
    ap (λ v. option_map (with_child v t) (option_and_then (λ c. Some b) (child_of v t))) (same_Some d u h)
    ∙ ap (λ o. option_map (with_child u t) (option_and_then (λ c. Some b) o)) at
updated-last (s ∷ ts) d u a b t at h =
    updated-last_by (child_of d s) d u b s t ts (λ c g. updated-last ts c u a b t at g) h

changed-last_by : (o : Option Value) (f : Value → List ℕ → Option Value) (d u : Value) (s t : List ℕ) (ts : List (List ℕ))
    → ((c : Value) → value_below c ts ≡ Some u → changed f c (ts ++ t ∷ []) ≡ updated (λ _. f u t) c ts)
    → option_and_then (λ c. value_below c ts) o ≡ Some u
    → option_map (with_child d s) (option_and_then (λ c. changed f c (ts ++ t ∷ [])) o)
    ≡ option_map (with_child d s) (option_and_then (λ c. updated (λ _. f u t) c ts) o)
changed-last_by None f d u s t ts ih h = absurd (none-some u h)
changed-last_by (Some c) f d u s t ts ih h = ap (option_map (with_child d s)) (ih c h)

changed-last : (f : Value → List ℕ → Option Value) (ts : List (List ℕ)) (d u : Value) (t : List ℕ)
    → value_below d ts ≡ Some u → changed f d (ts ++ t ∷ []) ≡ updated (λ _. f u t) d ts
changed-last f [] d u t h = ap (λ v. f v t) (same_Some d u h)
changed-last f (s ∷ ts) d u t h =
    changed-onto f d s t ts ∙ changed-last_by (child_of d s) f d u s t ts (λ c g. changed-last f ts c u t g) h

-- ---- operations one after the other

applied-append_by : (o : Option Value) (xs ys : List Value) (e : Value)
    → ((c : Value) → applied_each (values_of xs) c ≡ Some e
    → applied_each (values_of (xs ++ ys)) c ≡ applied_each (values_of ys) e)
    → option_and_then (applied_each (values_of xs)) o ≡ Some e
    → option_and_then (applied_each (values_of (xs ++ ys))) o ≡ applied_each (values_of ys) e
applied-append_by None xs ys e ih h = absurd (none-some e h)
applied-append_by (Some c) xs ys e ih h = ih c h

applied-append : (xs ys : List Value) (d e : Value) → applied_each (values_of xs) d ≡ Some e
    → applied_each (values_of (xs ++ ys)) d ≡ applied_each (values_of ys) e
applied-append [] ys d e h = ap (applied_each (values_of ys)) (same_Some d e h)
applied-append (x ∷ xs) ys d e h =
    applied-append_by (operated x d) xs ys e (λ c g. applied-append xs ys c e g) h

pub turns-none : (ts : List (List ℕ)) (u : Value) → TurnsAt ts [] u u
turns-none ts u = λ d h. (d, refl, updated-same ts d u h)

pub turns-both : (ts : List (List ℕ)) (xs ys : List Value) (u v w : Value) → TurnsAt ts xs u v → TurnsAt ts ys v w
    → TurnsAt ts (xs ++ ys) u w
turns-both ts xs ys u v w f g = λ d h.
    let a = f d h in
    let b = g a.0 (below-updated ts d u v a.0 h a.2) in
    (b.0, applied-append xs ys d a.0 a.1 ∙ b.1, sym (updated-twice ts d u v w a.0 h a.2) ∙ b.2)

pub turns-child : (ts : List (List ℕ)) (t : List ℕ) (ops : List Value) (u a b : Value) → child_of u t ≡ Some a
    → TurnsAt (ts ++ t ∷ []) ops a b → TurnsAt ts ops u (with_child u t b)
turns-child ts t ops u a b at f = λ d h.
    let r = f d (below-last ts d u t h ∙ at) in
    (r.0, r.1, sym (updated-last ts d u a b t at h) ∙ r.2)

one : (op d e : Value) → operated op d ≡ Some e → applied_each (values_of (op ∷ [])) d ≡ Some e
one op d e h = ap (option_and_then (applied_each no_values)) h

pub turns-replaced : (path : List ℕ) (ts : List (List ℕ)) (op u w : Value) → tokens_of path ≡ Some ts
    → Replaces path w op → TurnsAt ts (op ∷ []) u w
turns-replaced path ts op u w tokens is = λ d h.
    let e = updated-some ts d u w h in
    (e.0, one op d e.0 (is d ∙ ap (option_and_then (updated (λ _. Some w) d)) tokens ∙ e.1), e.1)

pub turns-changed : (f : Value → List ℕ → Option Value) (path : List ℕ) (ts : List (List ℕ)) (t : List ℕ) (op u w : Value)
    → tokens_of path ≡ Some (ts ++ t ∷ []) → ((d : Value) → operated op d ≡ option_and_then (changed f d) (tokens_of path))
    → f u t ≡ Some w → TurnsAt ts (op ∷ []) u w
turns-changed f path ts t op u w tokens is at = λ d h.
    let e = updated-some ts d u w h in (
      e.0,
      one op d e.0 (is d ∙ ap (option_and_then (changed f d)) tokens ∙ changed-last f ts d u t h
          ∙ ap (λ o. updated (λ _. o) d ts) at ∙ e.1),
      e.1,
    )

added-inside : (w v : Value) (path t : List ℕ) → added_at w v (path ++ 47 ∷ t) ≡ inserted_at w v (path ++ 47 ∷ t)
added-inside w v [] t = refl
added-inside w v (c ∷ cs) t = refl

pub added-below : (path t place : List ℕ) (w op : Value) → place ≡ path ++ 47 ∷ t → Adds place w op → (v : Value)
    → operated op v ≡ inserted_at w v place
added-below path t place w op is adds v =
    adds v ∙ ap (added_at w v) is ∙ added-inside w v path t ∙ ap (inserted_at w v) (sym is)

-- ---- the entry of a key

abbrev Pairs : Type 0
Pairs = List (List ℕ × Value)

abbrev O : Pairs → Value
O qs = object (pairs_of qs)

key-there : (k : List ℕ) (qs : Pairs) (a : Value) → find k qs ≡ Some a → child_of (O qs) (escaped k) ≡ Some a
key-there k qs a h = key-child k (O qs) a (ap (find k) (list_of_pairs-pairs_of qs) ∙ h)

key-put : (k : List ℕ) (qs : Pairs) (w : Value) → with_child (O qs) (escaped k) w ≡ O (put k w qs)
key-put k qs w =
    ap (λ o. O (option_map_or (λ j. put j w (list_of_pairs (pairs_of qs))) o (list_of_pairs (pairs_of qs)))) (token_key-escaped k)
    ∙ ap (λ l. O (put k w l)) (list_of_pairs-pairs_of qs)

key-new : (k : List ℕ) (qs : Pairs) (w : Value) → with_new w (O qs) (escaped k) ≡ Some (O (put k w qs))
key-new k qs w =
    ap (option_map (λ j. O (put j w (list_of_pairs (pairs_of qs))))) (token_key-escaped k)
    ∙ ap (λ l. Some (O (put k w l))) (list_of_pairs-pairs_of qs)

key-cut : (k : List ℕ) (qs : Pairs) (a : Value) → find k qs ≡ Some a → without (O qs) (escaped k) ≡ Some (O (cut k qs))
key-cut k qs a h =
    ap (option_and_then (λ j. option_map (λ c. O (cut j (list_of_pairs (pairs_of qs)))) (find j (list_of_pairs (pairs_of qs)))))
    (token_key-escaped k)
    ∙ ap (λ l. option_map (λ c. O (cut k l)) (find k l)) (list_of_pairs-pairs_of qs)
    ∙ ap (option_map (λ c. O (cut k qs))) h

-- its value is changed
pub member-changed : (path k place : List ℕ) (old new : Pairs) (a b : Value) (before after : List Value)
    → find k old ≡ Some a → find k new ≡ Some b → IsBelow path (escaped k) place → AddsChanges place a b before after
    → AddsMember path k old new before after
member-changed path k place old new a b before after there wanted below (ops, is, turns, none) = (
  ops,
  is,
  λ ts tokens qs distinct at.
      let t = turns (ts ++ escaped k ∷ []) (below.1 ts tokens) in (
        put k t.0 qs,
        distinct-put k t.0 qs distinct,
        ap (λ o. same_at o (find k new)) (find-put_same k t.0 qs) ∙ ap (same_at (Some t.0)) wanted ∙ t.1,
        λ j apart. find-put_other j k t.0 qs apart,
        subst (λ v. TurnsAt ts ops (O qs) v) (key-put k qs t.0)
            (turns-child ts (escaped k) ops (O qs) a t.0 (key-there k qs a (at ∙ there)) t.2),
      ),
  λ same. none (sym (ap (λ o. same_at o (find k new)) there ∙ ap (same_at (Some a)) wanted) ∙ same),
)

-- nothing is done
pub member-kept : (path k : List ℕ) (old new : Pairs) (before after : List Value) → same_at (find k old) (find k new) ≡ true
    → after ≡ before → AddsMember path k old new before after
member-kept path k old new before after equal is = (
  [],
  is ∙ sym (append-nil before),
  λ ts tokens qs distinct at. (
    qs,
    distinct,
    ap (λ o. same_at o (find k new)) at ∙ equal,
    λ j apart. refl,
    turns-none ts (O qs),
  ),
  λ same. refl,
)

pub member-added : (path k place : List ℕ) (old new : Pairs) (b op : Value) (before after : List Value)
    → find k old ≡ None → find k new ≡ Some b → IsBelow path (escaped k) place → Adds place b op
    → after ≡ before ++ op ∷ [] → AddsMember path k old new before after
member-added path k place old new b op before after absent wanted below adds is = (
  op ∷ [],
  is,
  λ ts tokens qs distinct at. (
    put k b qs,
    distinct-put k b qs distinct,
    ap (λ o. same_at o (find k new)) (find-put_same k b qs) ∙ ap (same_at (Some b)) wanted ∙ same_equiv.refl b,
    λ j apart. find-put_other j k b qs apart,
    turns-changed (with_new b) place ts (escaped k) op (O qs) (O (put k b qs)) (below.1 ts tokens)
        (added-below path (escaped k) place b op below.0 adds) (key-new k qs b),
  ),
  λ same. absurd (false≢true (sym (ap (λ o. same_at o (find k new)) absent ∙ ap (same_at None) wanted) ∙ same)),
)

pub member-removed : (path k place : List ℕ) (old new : Pairs) (a op : Value) (before after : List Value)
    → find k old ≡ Some a → find k new ≡ None → IsBelow path (escaped k) place → Removes place op
    → after ≡ before ++ op ∷ [] → AddsMember path k old new before after
member-removed path k place old new a op before after there unwanted below removes is = (
  op ∷ [],
  is,
  λ ts tokens qs distinct at. (
    cut k qs,
    distinct-cut k qs distinct,
    ap (λ o. same_at o (find k new)) (find-cut_same k qs distinct) ∙ ap (same_at None) unwanted,
    λ j apart. find-cut_other j k qs apart,
    turns-changed without place ts (escaped k) op (O qs) (O (cut k qs)) (below.1 ts tokens) removes
        (key-cut k qs a (at ∙ there)),
  ),
  λ same. absurd (false≢true (sym (ap (λ o. same_at o (find k new)) there ∙ ap (same_at (Some a)) unwanted) ∙ same)),
)

-- ---- one entry after the other: those of the keys that are pending are as they were, and the others as they shall be

abbrev pub Progress : List ℕ → Pairs → Pairs → (List ℕ → Bool) → List Value → List Value → Type 0
Progress path old new P before after = (ops : List Value) × (after ≡ before ++ ops)
    × ((ts : List (List ℕ)) → tokens_of path ≡ Some ts → (qs : Pairs) × AllPairs (λ i j. i ≢ j) (keys_of qs)
    × ((k : List ℕ) → P k ≡ true → find k qs ≡ find k old)
    × ((k : List ℕ) → P k ≡ false → same_at (find k qs) (find k new) ≡ true) × TurnsAt ts ops (O old) (O qs))
    × (((k : List ℕ) → same_at (find k old) (find k new) ≡ true) → ops ≡ [])

same-by : (o old new : Option Value) (b : Bool) → (b ≡ true → same_at old new ≡ true) → (b ≡ true → o ≡ old)
    → (b ≡ false → same_at o new ≡ true) → same_at o new ≡ true
same-by o old new true f g h = ap (λ p. same_at p new) (g refl) ∙ f refl
same-by o old new false f g h = h refl

pub progress-start : (path : List ℕ) (old new : Pairs) (P : List ℕ → Bool) (before : List Value)
    → AllPairs (λ i j. i ≢ j) (keys_of old) → ((k : List ℕ) → P k ≡ true) → Progress path old new P before before
progress-start path old new P before distinct all = (
  [],
  sym (append-nil before),
  λ ts tokens. (
    old,
    distinct,
    λ k h. refl,
    λ k h. absurd (false≢true (sym h ∙ all k)),
    turns-none ts (O old),
  ),
  λ same. refl,
)

-- fewer are pending, since those that aren't need no change
pub progress-fewer : (path : List ℕ) (old new : Pairs) (P Q : List ℕ → Bool) (before after : List Value)
    → ((k : List ℕ) → Q k ≡ true → P k ≡ true)
    → ((k : List ℕ) → Q k ≡ false → P k ≡ true → same_at (find k old) (find k new) ≡ true)
    → Progress path old new P before after → Progress path old new Q before after
progress-fewer path old new P Q before after less equal (ops, is, turns, none) = (
  ops,
  is,
  λ ts tokens.
      let t = turns ts tokens in (
        t.0,
        t.1,
        λ k h. t.2 k (less k h),
        λ k h. same-by (find k t.0) (find k old) (find k new) (P k) (equal k h) (t.2 k) (t.3 k),
        t.4,
      ),
  none,
)

apart-by : (j k : List ℕ) → bytes_eq j k ≡ false → j ≢ k
apart-by j k e = λ same. false≢true (sym e ∙ (bytes_eq-Decides j k).1 same)

here-by : (rs new : Pairs) (key k : List ℕ) (b : Bool) → bytes_eq k key ≡ b
    → same_at (find key rs) (find key new) ≡ true → (k ≢ key → same_at (find k rs) (find k new) ≡ true)
    → same_at (find k rs) (find k new) ≡ true
here-by rs new key k true e here there =
    subst (λ (j : List ℕ). same_at (find j rs) (find j new) ≡ true) (sym ((bytes_eq-Decides k key).0 e)) here
here-by rs new key k false e here there = there (apart-by k key e)

-- the entry of a pending key is changed
pub progress-next : (path key : List ℕ) (old new : Pairs) (P Q : List ℕ → Bool) (before mid after : List Value)
    → P key ≡ true → ((k : List ℕ) → Q k ≡ true → (P k ≡ true) × (k ≢ key))
    → ((k : List ℕ) → Q k ≡ false → k ≢ key → P k ≡ false) → Progress path old new P before mid
    → AddsMember path key old new mid after → Progress path old new Q before after
progress-next path key old new P Q before mid after pending less rest (xs, is, turns, none) (ys, next, changes, none') = (
  xs ++ ys,
  next ∙ ap (λ l. l ++ ys) is ∙ append_assoc before xs ys,
  λ ts tokens.
      let t = turns ts tokens in
      let c = changes ts tokens t.0 t.1 (t.2 key pending) in (
        c.0,
        c.1,
        λ k h. c.3 k (less k h).1 ∙ t.2 k (less k h).0,
        λ k h. here-by c.0 new key k (bytes_eq k key) refl c.2
            (λ apart. ap (λ o. same_at o (find k new)) (c.3 k apart) ∙ t.3 k (rest k h apart)),
        turns-both ts xs ys (O old) (O t.0) (O c.0) t.4 c.4,
      ),
  λ same. ap (λ l. l ++ ys) (none same) ∙ none' (same key),
)

pub progress-end : (path : List ℕ) (old new : Pairs) (P : List ℕ → Bool) (before after : List Value)
    → ((k : List ℕ) → P k ≡ false) → Progress path old new P before after → AddsChanges path (O old) (O new) before after
progress-end path old new P before after settled (ops, is, turns, none) = (
  ops,
  is,
  λ ts tokens.
      let t = turns ts tokens in (
        O t.0,
        object-intro (pairs_of t.0) (pairs_of new) (λ k.
            ap (λ l. same_at (find k l) (find k (list_of_pairs (pairs_of new)))) (list_of_pairs-pairs_of t.0)
            ∙ ap (λ l. same_at (find k t.0) (find k l)) (list_of_pairs-pairs_of new) ∙ t.3 k (settled k)),
        t.4,
      ),
  λ same. none (λ k.
      ap (λ l. same_at (find k l) (find k new)) (sym (list_of_pairs-pairs_of old))
      ∙ ap (λ l. same_at (find k (list_of_pairs (pairs_of old))) (find k l)) (sym (list_of_pairs-pairs_of new))
      ∙ object-elim (pairs_of old) (pairs_of new) same k),
)

-- ---- the keys of the old entries, and then those of the new ones that aren't among them

-- pending while the old entries are gone through
abbrev pub pending : List (List ℕ) → Pairs → List ℕ → Bool
pending keys old k = is_among keys k || not (is_some (find k old))

-- pending while the new ones are
abbrev pub awaited : List (List ℕ) → Pairs → List ℕ → Bool
awaited keys old k = is_among keys k && not (is_some (find k old))

abbrev Apart : List (List ℕ) → Type 0
Apart = IsDistinct bytes_eq

among-by : (b c : Bool) (o : Option Value) (v : Value) → (c || not (is_some o)) ≡ true
    → ((b || c) || not (is_some (if b then Some v else o))) ≡ true
among-by true c o v h = refl
among-by false c o v h = h

pub all-pending : (old : Pairs) (k : List ℕ) → pending (keys_of old) old k ≡ true
all-pending [] k = refl
all-pending (p ∷ ps) k = among-by (bytes_eq p.0 k) (is_among (keys_of ps) k) (find k ps) p.1 (all-pending ps k)

-- a key is apart from those after it
pub not_again_by : (key : List ℕ) (rest : List (List ℕ)) → AllByRecursion (λ j. bytes_eq key j ≡ false) rest
    → is_among rest key ≡ false
not_again_by key [] h = refl
not_again_by key (j ∷ js) h = rw (apart-sym key j h.0) (not_again_by key js h.1)

pub or-false : (b c : Bool) → (b || c) ≡ false → (b ≡ false) × (c ≡ false)
or-false true c h = absurd (false≢true (sym h))
or-false false c h = (refl, h)

or-true : (b c : Bool) → (b || c) ≡ true → (b ≡ false → c ≡ true)
or-true true c h g = absurd (false≢true (sym g))
or-true false c h g = h

pub or-left : (b c : Bool) → b ≡ true → (b || c) ≡ true
or-left true c h = refl
or-left false c h = absurd (false≢true h)

pub or-right : (b c : Bool) → c ≡ true → (b || c) ≡ true
or-right true c h = refl
or-right false c h = h

and-true : (b c : Bool) → (b && c) ≡ true → (b ≡ true) × (c ≡ true)
and-true true c h = (refl, h)
and-true false c h = absurd (false≢true h)

both : (b c : Bool) → b ≡ true → c ≡ true → (b && c) ≡ true
both true c h g = g
both false c h g = absurd (false≢true h)

pub here : (key : List ℕ) → bytes_eq key key ≡ true
here key = (bytes_eq-Decides key key).1 refl

not-false : (b : Bool) → b ≡ true → not b ≡ false
not-false true h = refl
not-false false h = absurd (false≢true h)

not-true : (b : Bool) → b ≡ false → not b ≡ true
not-true true h = absurd (false≢true (sym h))
not-true false h = refl

-- the next key of the old entries: it is there, so that it is pending no more
less-pending : (key : List ℕ) (rest : List (List ℕ)) (old : Pairs) → Apart (key ∷ rest) → is_some (find key old) ≡ true
    → (k : List ℕ) → pending rest old k ≡ true → (pending (key ∷ rest) old k ≡ true) × (k ≢ key)
less-pending key rest old apart there k h = (
  by (bytes_eq key k),
  λ same. false≢true (sym (done same) ∙ h),
)
  where
    by : (b : Bool) → ((b || is_among rest k) || not (is_some (find k old))) ≡ true
    by true = refl
    by false = h

    done : k ≡ key → pending rest old k ≡ false
    done same = ap (pending rest old) same
        ∙ rw (not_again_by key rest (IsDistinct-head bytes_eq key rest apart)) (not-false (is_some (find key old)) there)

rest-pending : (key : List ℕ) (rest : List (List ℕ)) (old : Pairs) (k : List ℕ) → pending rest old k ≡ false → k ≢ key
    → pending (key ∷ rest) old k ≡ false
rest-pending key rest old k h apart = rw (bytes_eq-other key k (λ same. apart (sym same))) h

pub pending-next : (path key : List ℕ) (keys rest : List (List ℕ)) (old new : Pairs) (before mid after : List Value)
    → keys ≡ key ∷ rest → Apart keys → is_some (find key old) ≡ true → Progress path old new (pending keys old) before mid
    → AddsMember path key old new mid after → Progress path old new (pending rest old) before after
pending-next path key keys rest old new before mid after next apart there so_far one_more =
    let apart' : Apart (key ∷ rest) = subst Apart next apart in
    progress-next path key old new (pending (key ∷ rest) old) (pending rest old) before mid after
    (or-left (is_among (key ∷ rest) key) (not (is_some (find key old))) (or-left (bytes_eq key key) (is_among rest key) (here key)))
    (less-pending key rest old apart' there) (rest-pending key rest old)
    (subst (λ l. Progress path old new (pending l old) before mid) next so_far) one_more

-- the next key of the new entries
less-awaited : (key : List ℕ) (rest : List (List ℕ)) (old : Pairs) → Apart (key ∷ rest)
    → (k : List ℕ) → awaited rest old k ≡ true → (awaited (key ∷ rest) old k ≡ true) × (k ≢ key)
less-awaited key rest old apart k h = (
  both (is_among (key ∷ rest) k) (not (is_some (find k old))) (or-right (bytes_eq key k) (is_among rest k) (and-true _ _ h).0)
      (and-true (is_among rest k) (not (is_some (find k old))) h).1,
  λ same. false≢true (sym (not_again_by key rest (IsDistinct-head bytes_eq key rest apart))
      ∙ ap (is_among rest) (sym same) ∙ (and-true (is_among rest k) (not (is_some (find k old))) h).0),
)

rest-awaited : (key : List ℕ) (rest : List (List ℕ)) (old : Pairs) (k : List ℕ) → awaited rest old k ≡ false → k ≢ key
    → awaited (key ∷ rest) old k ≡ false
rest-awaited key rest old k h apart = rw (bytes_eq-other key k (λ same. apart (sym same))) h

pub awaited-next : (path key : List ℕ) (keys rest : List (List ℕ)) (old new : Pairs) (before mid after : List Value)
    → keys ≡ key ∷ rest → Apart keys → is_some (find key old) ≡ false → Progress path old new (awaited keys old) before mid
    → AddsMember path key old new mid after → Progress path old new (awaited rest old) before after
awaited-next path key keys rest old new before mid after next apart none so_far one_more =
    let apart' : Apart (key ∷ rest) = subst Apart next apart in
    progress-next path key old new (awaited (key ∷ rest) old) (awaited rest old) before mid after
    (both (is_among (key ∷ rest) key) (not (is_some (find key old)))
    (or-left (bytes_eq key key) (is_among rest key) (here key)) (not-true (is_some (find key old)) none))
    (less-awaited key rest old apart') (rest-awaited key rest old)
    (subst (λ l. Progress path old new (awaited l old) before mid) next so_far) one_more

-- a key of the new entries that is among the old ones was not awaited
known-by : (b c : Bool) (d : Bool) → d ≡ true → ((b || c) && not d) ≡ (c && not d)
known-by b c true h = bool-false (b || c) ∙ sym (bool-false c)
  where
    bool-false : (x : Bool) → (x && false) ≡ false
    bool-false true = refl
    bool-false false = refl
known-by b c false h = absurd (false≢true h)

same-awaited : (key : List ℕ) (rest : List (List ℕ)) (old : Pairs) → is_some (find key old) ≡ true → (k : List ℕ)
    → awaited (key ∷ rest) old k ≡ awaited rest old k
same-awaited key rest old there k = by (bytes_eq key k) refl
  where
    by : (b : Bool) → bytes_eq key k ≡ b
        → ((b || is_among rest k) && not (is_some (find k old))) ≡ (is_among rest k && not (is_some (find k old)))
    by true e = known-by true (is_among rest k) (is_some (find k old))
        (subst (λ (j : List ℕ). is_some (find j old) ≡ true) ((bytes_eq-Decides key k).0 e) there)
    by false e = refl

pub awaited-same : (path key : List ℕ) (keys rest : List (List ℕ)) (old new : Pairs) (before after : List Value)
    → keys ≡ key ∷ rest → is_some (find key old) ≡ true → Progress path old new (awaited keys old) before after
    → Progress path old new (awaited rest old) before after
awaited-same path key keys rest old new before after next there so_far =
    progress-fewer path old new (awaited (key ∷ rest) old) (awaited rest old) before after
    (λ k h. same-awaited key rest old there k ∙ h)
    (λ k h g. absurd (false≢true (sym h ∙ sym (same-awaited key rest old there k) ∙ g)))
    (subst (λ l. Progress path old new (awaited l old) before after) next so_far)

-- what is pending after the old entries is awaited of the new ones, or is a key of neither
none-here : (o : Option Value) → not (is_some o) ≡ true → o ≡ None
none-here None h = refl
none-here (Some v) h = absurd (false≢true h)

pub unknown : (new : Pairs) (k : List ℕ) → is_among (keys_of new) k ≡ false → find k new ≡ None
unknown [] k h = refl
unknown (p ∷ ps) k h =
    let parts = or-false (bytes_eq p.0 k) (is_among (keys_of ps) k) h in rw parts.0 (unknown ps k parts.1)

pub awaited-start : (path : List ℕ) (old new : Pairs) (keys : List (List ℕ)) (before after : List Value)
    → keys ≡ keys_of new → Progress path old new (pending [] old) before after
    → Progress path old new (awaited keys old) before after
awaited-start path old new keys before after all so_far =
    subst (λ l. Progress path old new (awaited l old) before after) (sym all)
    (progress-fewer path old new (pending [] old) (awaited (keys_of new) old) before after
    (λ k h. (and-true (is_among (keys_of new) k) (not (is_some (find k old))) h).1)
    (λ k h g. ap (λ o. same_at o (find k new)) (none-here (find k old) g)
    ∙ ap (same_at None) (unknown new k (other (is_among (keys_of new) k) (not (is_some (find k old))) h g)))
    so_far)
  where
    other : (b c : Bool) → (b && c) ≡ false → c ≡ true → b ≡ false
    other true c h g = absurd (false≢true (sym h ∙ g))
    other false c h g = refl

pub pending-start : (path : List ℕ) (old new : Pairs) (keys : List (List ℕ)) (before : List Value) → keys ≡ keys_of old
    → Apart keys → Progress path old new (pending keys old) before before
pending-start path old new keys before all apart =
    progress-start path old new (pending keys old) before
    (AllPairs-from_IsDistinct bytes_eq-Decides (keys_of old) (subst Apart all apart))
    (λ k. ap (λ l. pending l old k) all ∙ all-pending old k)

pub tail-apart : (key : List ℕ) (keys rest : List (List ℕ)) → keys ≡ key ∷ rest → Apart keys → Apart rest
tail-apart key keys rest next apart = IsDistinct-tail bytes_eq key rest (subst Apart next apart)

-- a key of entries is there
pub first-there : (key : List ℕ) (keys rest : List (List ℕ)) (old : Pairs) → keys ≡ key ∷ rest → ((k : List ℕ)
    → is_among keys k ≡ true → is_some (find k old) ≡ true) → is_some (find key old) ≡ true
first-there key keys rest old next all =
    all key (ap (λ l. is_among l key) next ∙ or-left (bytes_eq key key) (is_among rest key) (here key))

-- ---- a value that is found is smaller

size-found_by : (b : Bool) (k : List ℕ) (p : List ℕ × JsonValue) (ps : List (List ℕ × JsonValue)) (v : JsonValue)
    → (find k ps ≡ Some v → size v ≤ largest_under ps) → (if b then Some p.1 else find k ps) ≡ Some v
    → size v ≤ largest_under (p ∷ ps)
size-found_by true k p ps v ih h = let e : p.1 ≡ v = cc in omega (arith, ap size e)
size-found_by false k p ps v ih h = omega (arith, ih h)

pub size-found : (k : List ℕ) (ps : List (List ℕ × JsonValue)) (v : JsonValue) → find k ps ≡ Some v
    → size v ≤ largest_under ps
size-found k [] v h = absurd (cc)
size-found k (p ∷ ps) v h = size-found_by (bytes_eq p.0 k) k p ps v (size-found k ps v) h

-- what is found among the entries as they are seen
pub seen : (k : List ℕ) (ps : List (List ℕ × JsonValue)) (o : Option JsonValue) → o ≡ find k ps
    → find k (viewed ps) ≡ option_map view o
seen k ps o h = sym (find-viewed k ps) ∙ ap (option_map view) (sym h)

pub pushed : (xs ys : List JsonValue) (op : JsonValue) → ys ≡ xs ++ op ∷ [] → map view ys ≡ map view xs ++ view op ∷ []
pushed xs ys op h = ap (map view) h ∙ map-append view xs (op ∷ [])

pub on_ok : {A E : Type 0} {P Q : Type 0} (r : Result A E) → (P → Q) → OnOk r P → OnOk r Q
on_ok (Ok x) f h = f h
on_ok (Err e) f h = h

-- ---- what is added

pub changes-none : (path : List ℕ) (u v : Value) (before after : List Value) → same u v ≡ true → after ≡ before
    → AddsChanges path u v before after
changes-none path u v before after equal is =
    ([], is ∙ sym (append-nil before), λ ts tokens. (u, equal, turns-none ts u), λ same. refl)

pub changes-replaced : (path : List ℕ) (u v op : Value) (before after : List Value) → same u v ≡ false
    → Replaces path v op → after ≡ before ++ op ∷ [] → AddsChanges path u v before after
changes-replaced path u v op before after differ replaces is = (
  op ∷ [],
  is,
  λ ts tokens. (v, same_equiv.refl v, turns-replaced path ts op u v tokens replaces),
  λ same. absurd (false≢true (sym differ ∙ same)),
)

pub objects-empty : (ps qs : List (List ℕ × JsonValue)) → length ps ≡ 0 → length qs ≡ 0
    → same (object (view_pairs ps)) (object (view_pairs qs)) ≡ true
objects-empty [] [] h g = refl
objects-empty [] (q ∷ qs) h g = absurd (omega (arith, g))
objects-empty (p ∷ ps) qs h g = absurd (omega (arith, h))

there_by : (b c : Bool) (o : Option Value) (v : Value) → (c ≡ true → is_some o ≡ true) → (b || c) ≡ true
    → is_some (if b then Some v else o) ≡ true
there_by true c o v ih h = refl
there_by false c o v ih h = ih h

pub among-there : (old : Pairs) (k : List ℕ) → is_among (keys_of old) k ≡ true → is_some (find k old) ≡ true
among-there [] k h = absurd (false≢true h)
among-there (p ∷ ps) k h =
    there_by (bytes_eq p.0 k) (is_among (keys_of ps) k) (find k ps) p.1 (among-there ps k) h

pub rest-there : (key : List ℕ) (keys rest : List (List ℕ)) (old : Pairs) → keys ≡ key ∷ rest
    → ((k : List ℕ) → is_among keys k ≡ true → is_some (find k old) ≡ true)
    → (k : List ℕ) → is_among rest k ≡ true → is_some (find k old) ≡ true
rest-there key keys rest old next all k h =
    all k (ap (λ l. is_among l k) next ∙ or-right (bytes_eq key k) (is_among rest k) h)

-- equal values are turned by no operation
pub unchanged : (old new : Value) (ops : List Value) (p : Value) → p ≡ array (values_of ops) → AddsChanges [] old new [] ops
    → same old new ≡ true → p ≡ array no_values
unchanged old new ops p is (xs, all, turns, none) same = is ∙ ap (λ l. array (values_of l)) (all ∙ none same)

-- the old value is turned into one that is equal to the new one
pub turned : (old new : Value) (ops : List Value) (p : Value) → p ≡ array (values_of ops) → AddsChanges [] old new [] ops
    → TurnsInto old new p
turned old new ops p is (xs, all, turns, none) =
    let t = turns [] refl in
    let e = t.2 old refl in
    (t.0, ap (λ q. applied q old) is ∙ ap (λ l. applied_each (values_of l) old) all ∙ e.1 ∙ sym e.2, t.1)

some-seen : (o : Option JsonValue) → is_some (option_map view o) ≡ is_some o
some-seen None = refl
some-seen (Some v) = refl

pub seen-there : (k : List ℕ) (ps : List (List ℕ × JsonValue)) → is_some (find k (viewed ps)) ≡ is_some (find k ps)
seen-there k ps = ap is_some (seen k ps (find k ps) refl) ∙ some-seen (find k ps)

-- values that don't differ are equal
pub equal-by : (b : Bool) → not b ≡ false → b ≡ true
equal-by true h = refl
equal-by false h = absurd (false≢true (sym h))
