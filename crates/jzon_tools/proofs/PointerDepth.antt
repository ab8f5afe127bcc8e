-- How deep a value nests after a change at a pointer.
use Rattle.std.proofs.Common.{◌≡◌, ◌<◌, ◌≤◌, ◌+◌, ℕ, zero, suc, length, List, [], ◌∷◌, Bool, true, false, if◌then◌else◌}
use Rattle.std.proofs.Common.{Option, None, Some, option_map, option_and_then, slice_set, refl, sym, ap, ◌∙◌, subst, arith, max}
use Rattle.std.proofs.Common.{◌==◌, ◌++◌, cond, slice_get, Result, Ok, Err}
use Rattle.std.proofs.lemmas.Option.{none-some, same_Some}
use Rattle.std.proofs.lemmas.List.Sums.{sum_by-cons}
use Rattle.std.specs.List.{AllByRecursion, insert, remove}
use Rattle.std.specs.Option.{ok_or, option_map_or}
use Rattle.std.specs.Result.{result_ok}
use Rattle.jzon.specs.PairList.{find, put, cut}
use Rattle.jzon.specs.Value.{Value, Values, ValuePairs, null, boolean, text, number, array, object, list_of_values, list_of_pairs, values_of, pairs_of, nest}
use Rattle.jzon.proofs.KeptByChanges.{NestsBelow, nests, nest-with_entry, nest-without_entry, nest-without_item, nest-item, nest-found}
use Rattle.jzon.proofs.ValueLaws.{values_of-list_of_values, pairs_of-list_of_pairs}
use Rattle.jzon_pointer.specs.Pointer.{index_named, token_key, child_of, with_child, with_new, new_index, without, updated, updated_at, changed, inserted_at, removed_at, tokens_of, tokens_in, tokens_after, slashes}
use Rattle.jzon_pointer.specs.Pointer.{and_then, found, missing, value_at}
use Rattle.jzon_pointer.specs.declared.pointer.PointerError.{PointerError}
use Rattle.jzon_pointer.specs.declared.pointer.PointerError.TheVariants.{NoSlash}

-- ---- lists

module _ {X : Type 0} (P : X → Type 0) where
  All-set : (xs : List X) (i : ℕ) (x : X) → AllByRecursion P xs → P x → AllByRecursion P (slice_set xs i x)
  All-set [] i x all one = tt
  All-set (y ∷ ys) zero x all one = (one, all.1)
  All-set (y ∷ ys) (suc i) x all one = (all.0, All-set ys i x all.1 one)

  All-insert : (xs : List X) (i : ℕ) (x : X) → AllByRecursion P xs → P x → AllByRecursion P (insert xs i x)
  All-insert xs zero x all one = (one, all)
  All-insert [] (suc i) x all one = (one, tt)
  All-insert (y ∷ ys) (suc i) x all one = (all.0, All-insert ys i x all.1 one)

-- ---- one child

child-nest_object : (ps : ValuePairs) (c : Value) (k : Option (List ℕ))
    → option_and_then (λ j. find j (list_of_pairs ps)) k ≡ Some c → nest c < nest (object ps)
child-nest_object ps c None h = absurd (none-some c h)
child-nest_object ps c (Some k) h = nest-found k c (object ps) h

child-nest_array : (vs : Values) (c : Value) (i : Option ℕ)
    → option_and_then (λ j. slice_get (list_of_values vs) j) i ≡ Some c → nest c < nest (array vs)
child-nest_array vs c None h = absurd (none-some c h)
child-nest_array vs c (Some i) h = nest-item i c (array vs) h

child-nest : (v : Value) (t : List ℕ) (c : Value) → child_of v t ≡ Some c → nest c < nest v
child-nest (object ps) t c h = child-nest_object ps c (token_key t) h
child-nest (array vs) t c h = child-nest_array vs c (index_named t) h
child-nest null t c h = absurd (none-some c h)
child-nest (boolean b) t c h = absurd (none-some c h)
child-nest (text k s) t c h = absurd (none-some c h)
child-nest (number n) t c h = absurd (none-some c h)

with_child-nest_object : (h : ℕ) (ps : ValuePairs) (w : Value) (k : Option (List ℕ)) → nest w < h
    → nest (object ps) ≤ h
    → nest (object (pairs_of (option_map_or (λ j. put j w (list_of_pairs ps)) k (list_of_pairs ps)))) ≤ h
with_child-nest_object h ps w None below within =
    subst (λ qs. nest (object qs) ≤ h) (sym (pairs_of-list_of_pairs ps)) within
with_child-nest_object h ps w (Some k) below within = nest-with_entry h k w (object ps) below within

with_child-nest_array : (h : ℕ) (vs : Values) (w : Value) (i : Option ℕ) → nest w < h → nest (array vs) ≤ h
    → nest (array (values_of (option_map_or (λ j. slice_set (list_of_values vs) j w) i (list_of_values vs)))) ≤ h
with_child-nest_array h vs w None below within =
    subst (λ ws. nest (array ws) ≤ h) (sym (values_of-list_of_values vs)) within
with_child-nest_array h vs w (Some i) below within =
    (nests h).array-from (slice_set (list_of_values vs) i w)
    (All-set (NestsBelow h) (list_of_values vs) i w ((nests h).array-to vs within) below)

with_child-nest : (h : ℕ) (v : Value) (t : List ℕ) (w : Value) → nest w < h → nest v ≤ h → nest (with_child v t w) ≤ h
with_child-nest h (object ps) t w below within = with_child-nest_object h ps w (token_key t) below within
with_child-nest h (array vs) t w below within = with_child-nest_array h vs w (index_named t) below within
with_child-nest h null t w below within = within
with_child-nest h (boolean b) t w below within = within
with_child-nest h (text k s) t w below within = within
with_child-nest h (number n) t w below within = within

with_new-nest_object : (h : ℕ) (ps : ValuePairs) (w u : Value) (k : Option (List ℕ)) → nest w < h
    → nest (object ps) ≤ h → option_map (λ j. object (pairs_of (put j w (list_of_pairs ps)))) k ≡ Some u → nest u ≤ h
with_new-nest_object h ps w u None below within is = absurd (none-some u is)
with_new-nest_object h ps w u (Some k) below within is =
    subst (λ x. nest x ≤ h) (same_Some (object (pairs_of (put k w (list_of_pairs ps)))) u is)
    (nest-with_entry h k w (object ps) below within)

with_new-nest_array : (h : ℕ) (vs : Values) (w u : Value) (i : Option ℕ) → nest w < h → nest (array vs) ≤ h
    → option_map (λ j. array (values_of (insert (list_of_values vs) j w))) i ≡ Some u → nest u ≤ h
with_new-nest_array h vs w u None below within is = absurd (none-some u is)
with_new-nest_array h vs w u (Some i) below within is =
    subst (λ x. nest x ≤ h) (same_Some (array (values_of (insert (list_of_values vs) i w))) u is)
    ((nests h).array-from (insert (list_of_values vs) i w)
    (All-insert (NestsBelow h) (list_of_values vs) i w ((nests h).array-to vs within) below))

with_new-nest : (w : Value) (h : ℕ) (v : Value) (t : List ℕ) (u : Value) → nest w < h → nest v ≤ h
    → with_new w v t ≡ Some u → nest u ≤ h
with_new-nest w h (object ps) t u below within is = with_new-nest_object h ps w u (token_key t) below within is
with_new-nest w h (array vs) t u below within is =
    with_new-nest_array h vs w u (new_index t (length (list_of_values vs))) below within is
with_new-nest w h null t u below within is = absurd (none-some u is)
with_new-nest w h (boolean b) t u below within is = absurd (none-some u is)
with_new-nest w h (text k s) t u below within is = absurd (none-some u is)
with_new-nest w h (number n) t u below within is = absurd (none-some u is)

cut-nest : (h : ℕ) (ps : ValuePairs) (u : Value) (k : List ℕ) (c : Option Value) → nest (object ps) ≤ h
    → option_map (λ x. object (pairs_of (cut k (list_of_pairs ps)))) c ≡ Some u → nest u ≤ h
cut-nest h ps u k None within is = absurd (none-some u is)
cut-nest h ps u k (Some c) within is =
    subst (λ x. nest x ≤ h) (same_Some (object (pairs_of (cut k (list_of_pairs ps)))) u is)
    (nest-without_entry h k (object ps) within)

without-nest_object : (h : ℕ) (ps : ValuePairs) (u : Value) (k : Option (List ℕ)) → nest (object ps) ≤ h
    → option_and_then (λ j. option_map (λ c. object (pairs_of (cut j (list_of_pairs ps)))) (find j (list_of_pairs ps))) k
    ≡ Some u → nest u ≤ h
without-nest_object h ps u None within is = absurd (none-some u is)
without-nest_object h ps u (Some k) within is = cut-nest h ps u k (find k (list_of_pairs ps)) within is

removed-nest_array : (h : ℕ) (vs : Values) (u : Value) (i : ℕ) (c : Option Value) → nest (array vs) ≤ h
    → option_map (λ x. array (values_of (remove (list_of_values vs) i))) c ≡ Some u → nest u ≤ h
removed-nest_array h vs u i None within is = absurd (none-some u is)
removed-nest_array h vs u i (Some c) within is =
    subst (λ x. nest x ≤ h) (same_Some (array (values_of (remove (list_of_values vs) i))) u is)
    (nest-without_item h i (array vs) within)

without-nest_array : (h : ℕ) (vs : Values) (u : Value) (i : Option ℕ) → nest (array vs) ≤ h
    → option_and_then (λ j. option_map (λ c. array (values_of (remove (list_of_values vs) j)))
    (slice_get (list_of_values vs) j)) i ≡ Some u → nest u ≤ h
without-nest_array h vs u None within is = absurd (none-some u is)
without-nest_array h vs u (Some i) within is = removed-nest_array h vs u i (slice_get (list_of_values vs) i) within is

without-nest : (h : ℕ) (v : Value) (t : List ℕ) (u : Value) → nest v ≤ h → without v t ≡ Some u → nest u ≤ h
without-nest h (object ps) t u within is = without-nest_object h ps u (token_key t) within is
without-nest h (array vs) t u within is = without-nest_array h vs u (index_named t) within is
without-nest h null t u within is = absurd (none-some u is)
without-nest h (boolean b) t u within is = absurd (none-some u is)
without-nest h (text k s) t u within is = absurd (none-some u is)
without-nest h (number n) t u within is = absurd (none-some u is)

-- ---- along tokens

-- what is put below a token is one deeper
placed-nest : (h : ℕ) (v : Value) (t : List ℕ) (c u : Value) (r : Option Value) → child_of v t ≡ Some c → nest v ≤ h
    → ((y : Value) → r ≡ Some y → nest y < h) → option_map (with_child v t) r ≡ Some u → nest u ≤ h
placed-nest h v t c u None at within below is = absurd (none-some u is)
placed-nest h v t c u (Some y) at within below is =
    subst (λ x. nest x ≤ h) (same_Some (with_child v t y) u is) (with_child-nest h v t y (below y refl) within)

updated-nest_by : (h : ℕ) (w v : Value) (t : List ℕ) (ts : List (List ℕ)) (u : Value) (o : Option Value)
    → ((g : ℕ) (c y : Value) → nest w + length ts ≤ g → nest c ≤ g → updated (λ _. Some w) c ts ≡ Some y → nest y ≤ g)
    → child_of v t ≡ o → nest w + suc (length ts) ≤ h → nest v ≤ h
    → option_map (with_child v t) (option_and_then (λ c. updated (λ _. Some w) c ts) o) ≡ Some u → nest u ≤ h
updated-nest_by h w v t ts u None ih at room within is = absurd (none-some u is)
updated-nest_by zero w v t ts u (Some c) ih at room within is = absurd (omega arith)
updated-nest_by (suc g) w v t ts u (Some c) ih at room within is =
    let less = child-nest v t c at in
    placed-nest (suc g) v t c u (updated (λ _. Some w) c ts) at within
    (λ y e. let le : nest y ≤ g = ih g c y (omega arith) (omega (arith, less)) e in omega (arith, le)) is

updated-nest : (h : ℕ) (w v : Value) (ts : List (List ℕ)) (u : Value) → nest w + length ts ≤ h → nest v ≤ h
    → updated (λ _. Some w) v ts ≡ Some u → nest u ≤ h
updated-nest h w v [] u room within is =
    subst (λ x. nest x ≤ h) (same_Some w u is) (omega arith)
updated-nest h w v (t ∷ ts) u room within is =
    updated-nest_by h w v t ts u (child_of v t) (λ g c y. updated-nest g w c ts y) refl room within is

inserted-nest_by : (h : ℕ) (w v : Value) (t s : List ℕ) (ts : List (List ℕ)) (u : Value) (o : Option Value)
    → ((g : ℕ) (c y : Value) → nest w + suc (length ts) ≤ g → nest c ≤ g → changed (with_new w) c (s ∷ ts) ≡ Some y
    → nest y ≤ g)
    → child_of v t ≡ o → nest w + suc (suc (length ts)) ≤ h → nest v ≤ h
    → option_map (with_child v t) (option_and_then (λ c. changed (with_new w) c (s ∷ ts)) o) ≡ Some u → nest u ≤ h
inserted-nest_by h w v t s ts u None ih at room within is = absurd (none-some u is)
inserted-nest_by zero w v t s ts u (Some c) ih at room within is = absurd (omega arith)
inserted-nest_by (suc g) w v t s ts u (Some c) ih at room within is =
    let less = child-nest v t c at in
    placed-nest (suc g) v t c u (changed (with_new w) c (s ∷ ts)) at within
    (λ y e. let le : nest y ≤ g = ih g c y (omega arith) (omega (arith, less)) e in omega (arith, le)) is

inserted-nest : (h : ℕ) (w v : Value) (ts : List (List ℕ)) (u : Value) → nest w + length ts ≤ h → nest v ≤ h
    → changed (with_new w) v ts ≡ Some u → nest u ≤ h
inserted-nest h w v [] u room within is = absurd (none-some u is)
inserted-nest h w v (t ∷ []) u room within is = with_new-nest w h v t u (omega arith) within is
inserted-nest h w v (t ∷ s ∷ ts) u room within is =
    inserted-nest_by h w v t s ts u (child_of v t) (λ g c y. inserted-nest g w c (s ∷ ts) y) refl room within is

removed-nest_by : (h : ℕ) (v : Value) (t s : List ℕ) (ts : List (List ℕ)) (u : Value) (o : Option Value)
    → ((g : ℕ) (c y : Value) → nest c ≤ g → changed without c (s ∷ ts) ≡ Some y → nest y ≤ g)
    → child_of v t ≡ o → nest v ≤ h
    → option_map (with_child v t) (option_and_then (λ c. changed without c (s ∷ ts)) o) ≡ Some u → nest u ≤ h
removed-nest_by h v t s ts u None ih at within is = absurd (none-some u is)
removed-nest_by zero v t s ts u (Some c) ih at within is =
    let less = child-nest v t c at in absurd (omega (arith, less))
removed-nest_by (suc g) v t s ts u (Some c) ih at within is =
    let less = child-nest v t c at in
    placed-nest (suc g) v t c u (changed without c (s ∷ ts)) at within
    (λ y e. let le : nest y ≤ g = ih g c y (omega (arith, less)) e in omega (arith, le)) is

removed-nest : (h : ℕ) (v : Value) (ts : List (List ℕ)) (u : Value) → nest v ≤ h → changed without v ts ≡ Some u
    → nest u ≤ h
removed-nest h v [] u within is = absurd (none-some u is)
removed-nest h v (t ∷ []) u within is = without-nest h v t u within is
removed-nest h v (t ∷ s ∷ ts) u within is =
    removed-nest_by h v t s ts u (child_of v t) (λ g c y. removed-nest g c (s ∷ ts) y) refl within is

-- what tokens lead to is less deep by one for each of them
found-nest_by : (j : ℕ) (v w : Value) (t : List ℕ) (ts : List (List ℕ)) (x : PointerError) (o : Option Value)
    → ((c : Value) → found j c ts ≡ Ok w → length ts + nest w ≤ nest c) → child_of v t ≡ o
    → and_then (λ c. found j c ts) (ok_or o x) ≡ Ok w → suc (length ts) + nest w ≤ nest v
found-nest_by j v w t ts x None ih at is = absurd (cc)
found-nest_by j v w t ts x (Some c) ih at is =
    let less = child-nest v t c at in
    let le = ih c is in omega (arith, less, le)

found-nest : (i : ℕ) (v w : Value) (ts : List (List ℕ)) → found i v ts ≡ Ok w → length ts + nest w ≤ nest v
found-nest i v w [] is =
    let whole = ap nest (same_Some v w (ap result_ok is)) in omega (arith, whole)
found-nest i v w (t ∷ ts) is =
    found-nest_by (suc (i + length t)) v w t ts (missing i v t) (child_of v t)
    (λ c e. found-nest (suc (i + length t)) c w ts e) refl is

-- ---- along a pointer

tokens-counted_by : (b : Bool) (t : List ℕ) (c : ℕ) (cs : List ℕ) → c == 47 ≡ b
    → ((s : List ℕ) → length (tokens_after s cs) ≡ suc (slashes cs))
    → length (if b then t ∷ tokens_after [] cs else tokens_after (t ++ c ∷ []) cs) ≡ suc (cond b 1 0 + slashes cs)
tokens-counted_by true t c cs is ih = omega (arith, ih [])
tokens-counted_by false t c cs is ih = omega (arith, ih (t ++ c ∷ []))

tokens-counted : (cs : List ℕ) (t : List ℕ) → length (tokens_after t cs) ≡ suc (slashes cs)
tokens-counted [] t = refl
tokens-counted (c ∷ cs) t =
    tokens-counted_by (c == 47) t c cs refl (tokens-counted cs)
    ∙ ap suc (sym (sum_by-cons (λ x. cond (x == 47) 1 0) c cs))

tokens-slashes_by : (b : Bool) (c : ℕ) (cs : List ℕ) (ts : List (List ℕ)) → c == 47 ≡ b
    → (if b then Some (tokens_in cs) else None) ≡ Some ts → length ts ≡ slashes (c ∷ cs)
tokens-slashes_by false c cs ts at is = absurd (none-some ts is)
tokens-slashes_by true c cs ts at is =
    let many : length ts ≡ suc (slashes cs) =
    ap length (sym (same_Some (tokens_in cs) ts is)) ∙ tokens-counted cs [] in
    let more : slashes (c ∷ cs) ≡ 1 + slashes cs =
    sum_by-cons (λ x. cond (x == 47) 1 0) c cs ∙ ap (λ b. cond b 1 0 + slashes cs) at in
    omega (arith, many, more)

tokens-slashes : (path : List ℕ) (ts : List (List ℕ)) → tokens_of path ≡ Some ts → length ts ≡ slashes path
tokens-slashes [] ts is = ap length (sym (same_Some [] ts is))
tokens-slashes (c ∷ cs) ts is = tokens-slashes_by (c == 47) c cs ts refl is

value-nest_by : (v w : Value) (path : List ℕ) (o : Option (List (List ℕ))) → tokens_of path ≡ o
    → and_then (found 1 v) (ok_or o NoSlash) ≡ Ok w → slashes path + nest w ≤ nest v
value-nest_by v w path None at is = absurd (cc)
value-nest_by v w path (Some ts) at is =
    let many = tokens-slashes path ts at in
    let le = found-nest 1 v w ts is in omega (arith, many, le)

value-nest_ok : (v w : Value) (path : List ℕ) (r : Result Value PointerError) → value_at v path ≡ r
    → result_ok r ≡ Some w → slashes path + nest w ≤ nest v
value-nest_ok v w path (Ok x) at is =
    value-nest_by v w path (tokens_of path) refl (at ∙ ap Ok (same_Some x w is))
value-nest_ok v w path (Err e) at is = absurd (none-some w is)

-- what a pointer names is less deep by one for each of its tokens
pub value-nest : (v w : Value) (path : List ℕ) → result_ok (value_at v path) ≡ Some w → slashes path + nest w ≤ nest v
value-nest v w path is = value-nest_ok v w path (value_at v path) refl is

updated_at-nest_by : (h : ℕ) (w v : Value) (path : List ℕ) (u : Value) (o : Option (List (List ℕ)))
    → tokens_of path ≡ o → slashes path + nest w ≤ h → nest v ≤ h
    → option_and_then (updated (λ _. Some w) v) o ≡ Some u → nest u ≤ h
updated_at-nest_by h w v path u None at room within is = absurd (none-some u is)
updated_at-nest_by h w v path u (Some ts) at room within is =
    let many = tokens-slashes path ts at in updated-nest h w v ts u (omega (arith, many)) within is

pub updated_at-nest : (h : ℕ) (w v : Value) (path : List ℕ) (u : Value) → slashes path + nest w ≤ h → nest v ≤ h
    → updated_at (λ _. Some w) v path ≡ Some u → nest u ≤ h
updated_at-nest h w v path u room within is = updated_at-nest_by h w v path u (tokens_of path) refl room within is

inserted_at-nest_by : (h : ℕ) (w v : Value) (path : List ℕ) (u : Value) (o : Option (List (List ℕ)))
    → tokens_of path ≡ o → slashes path + nest w ≤ h → nest v ≤ h
    → option_and_then (changed (with_new w) v) o ≡ Some u → nest u ≤ h
inserted_at-nest_by h w v path u None at room within is = absurd (none-some u is)
inserted_at-nest_by h w v path u (Some ts) at room within is =
    let many = tokens-slashes path ts at in inserted-nest h w v ts u (omega (arith, many)) within is

pub inserted_at-nest : (h : ℕ) (w v : Value) (path : List ℕ) (u : Value) → slashes path + nest w ≤ h → nest v ≤ h
    → inserted_at w v path ≡ Some u → nest u ≤ h
inserted_at-nest h w v path u room within is = inserted_at-nest_by h w v path u (tokens_of path) refl room within is

removed_at-nest_by : (h : ℕ) (v u : Value) (o : Option (List (List ℕ))) → nest v ≤ h
    → option_and_then (changed without v) o ≡ Some u → nest u ≤ h
removed_at-nest_by h v u None within is = absurd (none-some u is)
removed_at-nest_by h v u (Some ts) within is = removed-nest h v ts u within is

pub removed_at-nest : (h : ℕ) (v : Value) (path : List ℕ) (u : Value) → nest v ≤ h → removed_at v path ≡ Some u
    → nest u ≤ h
removed_at-nest h v path u within is = removed_at-nest_by h v u (tokens_of path) within is

-- what a pointer replaces or inserts
pub replaced_depth : (w v u : Value) (path : List ℕ) → updated_at (λ _. Some w) v path ≡ Some u
    → nest u ≤ max (nest v) (slashes path + nest w)
replaced_depth w v u path is =
    updated_at-nest (max (nest v) (slashes path + nest w)) w v path u (omega arith) (omega arith) is

pub inserted_depth : (w v u : Value) (path : List ℕ) → inserted_at w v path ≡ Some u
    → nest u ≤ max (nest v) (slashes path + nest w)
inserted_depth w v u path is =
    inserted_at-nest (max (nest v) (slashes path + nest w)) w v path u (omega arith) (omega arith) is
