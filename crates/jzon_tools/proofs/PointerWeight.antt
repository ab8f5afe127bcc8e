-- How much a value weighs after a change at a pointer.
use Rattle.std.proofs.Common.{◌≡◌, ◌≤◌, ◌+◌, ℕ, zero, suc, length, List, [], ◌∷◌, ◌++◌, Bool, true, false, ◌==◌, if◌then◌else◌}
use Rattle.std.proofs.Common.{Option, None, Some, option_map, option_and_then, slice_get, slice_set, refl, sym, ap, subst, arith}
use Rattle.std.proofs.Common.{length-append, Result, Ok}
use Rattle.std.proofs.lemmas.Option.{none-some, same_Some, option_and_then_some}
use Rattle.std.specs.List.{insert, remove}
use Rattle.std.specs.Option.{ok_or, option_map_or}
use Rattle.std.specs.Result.{result_ok}
use Rattle.std.specs.Str.{bytes_eq}
use Rattle.jzon.specs.PairList.{find, put, cut}
use Rattle.jzon.specs.Value.{Value, Values, ValuePairs, null, boolean, text, number, array, object, list_of_values, list_of_pairs, values_of, pairs_of}
use Rattle.jzon.proofs.ValueLaws.{values_of-list_of_values, pairs_of-list_of_pairs}
use Rattle.jzon_pointer.specs.Pointer.{index_named, token_key, after_tilde, child_of, with_child, with_new, new_index, without, updated, updated_at, changed, inserted_at, removed_at, tokens_of, tokens_in, tokens_after}
use Rattle.jzon_pointer.specs.Pointer.{and_then, found, missing}
use Rattle.jzon_pointer.specs.declared.pointer.PointerError.{PointerError}
use Rattle.jzon_pointer.specs.declared.pointer.PointerError.TheVariants.{NoSlash}
use Rattle.jzon_tools.specs.Patch.{value_of}
use Rattle.jzon_tools.specs.Weight.{weight, weight_values, weight_pairs}

-- the weight of what is there, or 0
abbrev pub weight_in : Option Value → ℕ
weight_in o = option_map_or weight o 0

-- ---- lists

abbrev Pairs : Type 0
Pairs = List (List ℕ × Value)

abbrev list_weight : List Value → ℕ
list_weight vs = weight_values (values_of vs)

abbrev pub pairs_weight : Pairs → ℕ
pairs_weight ps = weight_pairs (pairs_of ps)

set-weight : (vs : List Value) (i : ℕ) (c w : Value) → slice_get vs i ≡ Some c
    → list_weight (slice_set vs i w) + weight c ≡ list_weight vs + weight w
set-weight [] i c w at = absurd (none-some c at)
set-weight (v ∷ vs) zero c w at = let same = ap weight (same_Some v c at) in omega (arith, same)
set-weight (v ∷ vs) (suc i) c w at = let rest = set-weight vs i c w at in omega (arith, rest)

insert-weight : (vs : List Value) (i : ℕ) (w : Value) → list_weight (insert vs i w) ≡ list_weight vs + weight w
insert-weight vs zero w = omega arith
insert-weight [] (suc i) w = omega arith
insert-weight (v ∷ vs) (suc i) w = let rest = insert-weight vs i w in omega (arith, rest)

remove-weight : (vs : List Value) (i : ℕ) → list_weight (remove vs i) + weight_in (slice_get vs i) ≡ list_weight vs
remove-weight [] zero = omega arith
remove-weight [] (suc i) = omega arith
remove-weight (v ∷ vs) zero = omega arith
remove-weight (v ∷ vs) (suc i) = let rest = remove-weight vs i in omega (arith, rest)

put_found_by : (b : Bool) (k : List ℕ) (c w : Value) (p : List ℕ × Value) (ps : Pairs)
    → (find k ps ≡ Some c → pairs_weight (put k w ps) + weight c ≡ pairs_weight ps + weight w)
    → (if b then Some p.1 else find k ps) ≡ Some c
    → pairs_weight (if b then (p.0, w) ∷ ps else p ∷ put k w ps) + weight c ≡ pairs_weight (p ∷ ps) + weight w
put_found_by true k c w p ps ih at = let same = ap weight (same_Some p.1 c at) in omega (arith, same)
put_found_by false k c w p ps ih at = let rest = ih at in omega (arith, rest)

put_found-weight : (k : List ℕ) (c w : Value) (ps : Pairs) → find k ps ≡ Some c
    → pairs_weight (put k w ps) + weight c ≡ pairs_weight ps + weight w
put_found-weight k c w [] at = absurd (none-some c at)
put_found-weight k c w (p ∷ ps) at = put_found_by (bytes_eq p.0 k) k c w p ps (put_found-weight k c w ps) at

put-weight_by : (b : Bool) (k : List ℕ) (w : Value) (p : List ℕ × Value) (ps : Pairs)
    → pairs_weight (put k w ps) ≤ pairs_weight ps + (weight w + length k)
    → pairs_weight (if b then (p.0, w) ∷ ps else p ∷ put k w ps) ≤ pairs_weight (p ∷ ps) + (weight w + length k)
put-weight_by true k w p ps ih = omega arith
put-weight_by false k w p ps ih = omega arith

put-weight : (k : List ℕ) (w : Value) (ps : Pairs) → pairs_weight (put k w ps) ≤ pairs_weight ps + (weight w + length k)
put-weight k w [] = omega arith
put-weight k w (p ∷ ps) = put-weight_by (bytes_eq p.0 k) k w p ps (put-weight k w ps)

cut-weight_by : (b : Bool) (k : List ℕ) (p : List ℕ × Value) (ps : Pairs)
    → pairs_weight (cut k ps) + weight_in (find k ps) ≤ pairs_weight ps
    → pairs_weight (if b then ps else p ∷ cut k ps) + weight_in (if b then Some p.1 else find k ps) ≤ pairs_weight (p ∷ ps)
cut-weight_by true k p ps ih = omega arith
cut-weight_by false k p ps ih = omega arith

-- without the entry of a key, entries are lighter by its value, and perhaps more
pub cut-weight : (k : List ℕ) (ps : Pairs) → pairs_weight (cut k ps) + weight_in (find k ps) ≤ pairs_weight ps
cut-weight k [] = omega arith
cut-weight k (p ∷ ps) = cut-weight_by (bytes_eq p.0 k) k p ps (cut-weight k ps)

-- ---- one child

with_child-weight_object : (ps : ValuePairs) (c w : Value) (k : Option (List ℕ))
    → option_and_then (λ j. find j (list_of_pairs ps)) k ≡ Some c
    → weight (object (pairs_of (option_map_or (λ j. put j w (list_of_pairs ps)) k (list_of_pairs ps)))) + weight c
    ≡ weight (object ps) + weight w
with_child-weight_object ps c w None at = absurd (none-some c at)
with_child-weight_object ps c w (Some k) at =
    let same = ap weight_pairs (pairs_of-list_of_pairs ps) in
    let less = put_found-weight k c w (list_of_pairs ps) at in omega (arith, same, less)

with_child-weight_array : (vs : Values) (c w : Value) (i : Option ℕ)
    → option_and_then (λ j. slice_get (list_of_values vs) j) i ≡ Some c
    → weight (array (values_of (option_map_or (λ j. slice_set (list_of_values vs) j w) i (list_of_values vs)))) + weight c
    ≡ weight (array vs) + weight w
with_child-weight_array vs c w None at = absurd (none-some c at)
with_child-weight_array vs c w (Some i) at =
    let same = ap weight_values (values_of-list_of_values vs) in
    let less = set-weight (list_of_values vs) i c w at in omega (arith, same, less)

with_child-weight : (v : Value) (t : List ℕ) (c w : Value) → child_of v t ≡ Some c
    → weight (with_child v t w) + weight c ≡ weight v + weight w
with_child-weight (object ps) t c w at = with_child-weight_object ps c w (token_key t) at
with_child-weight (array vs) t c w at = with_child-weight_array vs c w (index_named t) at
with_child-weight null t c w at = absurd (none-some c at)
with_child-weight (boolean b) t c w at = absurd (none-some c at)
with_child-weight (text k s) t c w at = absurd (none-some c at)
with_child-weight (number n) t c w at = absurd (none-some c at)

-- the length of what is there, or 0
abbrev length_in : Option (List ℕ) → ℕ
length_in o = option_map_or length o 0

one-longer : (c : ℕ) (o : Option (List ℕ)) → length_in (option_map (λ k. c ∷ k) o) ≤ suc (length_in o)
one-longer c None = omega arith
one-longer c (Some k) = omega arith

key-length_by : (b : Bool) (c : ℕ) (cs : List ℕ) → length_in (after_tilde cs) ≤ length cs
    → length_in (token_key cs) ≤ length cs
    → length_in (if b then after_tilde cs else option_map (λ k. c ∷ k) (token_key cs)) ≤ suc (length cs)
key-length_by true c cs escape plain = omega arith
key-length_by false c cs escape plain = omega (arith, one-longer c (token_key cs))

escape-length_by : (b d : Bool) (cs : List ℕ) → length_in (token_key cs) ≤ length cs
    → length_in (if b then option_map (λ k. 126 ∷ k) (token_key cs)
    else (if d then option_map (λ k. 47 ∷ k) (token_key cs) else None)) ≤ suc (length cs)
escape-length_by true d cs rest = omega (arith, one-longer 126 (token_key cs))
escape-length_by false true cs rest = omega (arith, one-longer 47 (token_key cs))
escape-length_by false false cs rest = omega arith

-- a key is no longer than its token
mutual
  key-length : (t : List ℕ) → length_in (token_key t) ≤ length t
  key-length [] = omega arith
  key-length (c ∷ cs) = key-length_by (c == 126) c cs (escape-length cs) (key-length cs)

  escape-length : (t : List ℕ) → length_in (after_tilde t) ≤ length t
  escape-length [] = omega arith
  escape-length (c ∷ cs) = escape-length_by (c == 48) (c == 49) cs (key-length cs)

with_new-weight_object : (ps : ValuePairs) (w u : Value) (n : ℕ) (k : Option (List ℕ)) → length_in k ≤ n
    → option_map (λ j. object (pairs_of (put j w (list_of_pairs ps)))) k ≡ Some u
    → weight u ≤ weight (object ps) + (weight w + n)
with_new-weight_object ps w u n None short is = absurd (none-some u is)
with_new-weight_object ps w u n (Some k) short is =
    let same = ap weight_pairs (pairs_of-list_of_pairs ps) in
    let less = put-weight k w (list_of_pairs ps) in
    subst (λ x. weight x ≤ weight (object ps) + (weight w + n))
    (same_Some (object (pairs_of (put k w (list_of_pairs ps)))) u is) (omega (arith, same, less))

with_new-weight_array : (vs : Values) (w u : Value) (n : ℕ) (i : Option ℕ)
    → option_map (λ j. array (values_of (insert (list_of_values vs) j w))) i ≡ Some u
    → weight u ≤ weight (array vs) + (weight w + n)
with_new-weight_array vs w u n None is = absurd (none-some u is)
with_new-weight_array vs w u n (Some i) is =
    let same = ap weight_values (values_of-list_of_values vs) in
    let more = insert-weight (list_of_values vs) i w in
    subst (λ x. weight x ≤ weight (array vs) + (weight w + n))
    (same_Some (array (values_of (insert (list_of_values vs) i w))) u is) (omega (arith, same, more))

with_new-weight : (w v : Value) (t : List ℕ) (u : Value) → with_new w v t ≡ Some u
    → weight u ≤ weight v + (weight w + length t)
with_new-weight w (object ps) t u is = with_new-weight_object ps w u (length t) (token_key t) (key-length t) is
with_new-weight w (array vs) t u is =
    with_new-weight_array vs w u (length t) (new_index t (length (list_of_values vs))) is
with_new-weight w null t u is = absurd (none-some u is)
with_new-weight w (boolean b) t u is = absurd (none-some u is)
with_new-weight w (text k s) t u is = absurd (none-some u is)
with_new-weight w (number n) t u is = absurd (none-some u is)

cut_found-weight : (ps : ValuePairs) (u : Value) (k : List ℕ) (c : Option Value) → find k (list_of_pairs ps) ≡ c
    → option_map (λ x. object (pairs_of (cut k (list_of_pairs ps)))) c ≡ Some u
    → weight u + weight_in c ≤ weight (object ps)
cut_found-weight ps u k None at is = absurd (none-some u is)
cut_found-weight ps u k (Some c) at is =
    let same = ap weight_pairs (pairs_of-list_of_pairs ps) in
    let here = ap weight_in at in
    let less = cut-weight k (list_of_pairs ps) in
    subst (λ x. weight x + weight c ≤ weight (object ps)) (same_Some (object (pairs_of (cut k (list_of_pairs ps)))) u is)
    (omega (arith, same, here, less))

without-weight_object : (ps : ValuePairs) (u : Value) (k : Option (List ℕ))
    → option_and_then (λ j. option_map (λ c. object (pairs_of (cut j (list_of_pairs ps)))) (find j (list_of_pairs ps))) k
    ≡ Some u
    → weight u + weight_in (option_and_then (λ j. find j (list_of_pairs ps)) k) ≤ weight (object ps)
without-weight_object ps u None is = absurd (none-some u is)
without-weight_object ps u (Some k) is = cut_found-weight ps u k (find k (list_of_pairs ps)) refl is

remove_found-weight : (vs : Values) (u : Value) (i : ℕ) (c : Option Value) → slice_get (list_of_values vs) i ≡ c
    → option_map (λ x. array (values_of (remove (list_of_values vs) i))) c ≡ Some u
    → weight u + weight_in c ≤ weight (array vs)
remove_found-weight vs u i None at is = absurd (none-some u is)
remove_found-weight vs u i (Some c) at is =
    let same = ap weight_values (values_of-list_of_values vs) in
    let here = ap weight_in at in
    let less = remove-weight (list_of_values vs) i in
    subst (λ x. weight x + weight c ≤ weight (array vs)) (same_Some (array (values_of (remove (list_of_values vs) i))) u is)
    (omega (arith, same, here, less))

without-weight_array : (vs : Values) (u : Value) (i : Option ℕ)
    → option_and_then (λ j. option_map (λ c. array (values_of (remove (list_of_values vs) j)))
    (slice_get (list_of_values vs) j)) i ≡ Some u
    → weight u + weight_in (option_and_then (λ j. slice_get (list_of_values vs) j) i) ≤ weight (array vs)
without-weight_array vs u None is = absurd (none-some u is)
without-weight_array vs u (Some i) is = remove_found-weight vs u i (slice_get (list_of_values vs) i) refl is

without-weight : (v : Value) (t : List ℕ) (u : Value) → without v t ≡ Some u
    → weight u + weight_in (child_of v t) ≤ weight v
without-weight (object ps) t u is = without-weight_object ps u (token_key t) is
without-weight (array vs) t u is = without-weight_array vs u (index_named t) is
without-weight null t u is = absurd (none-some u is)
without-weight (boolean b) t u is = absurd (none-some u is)
without-weight (text k s) t u is = absurd (none-some u is)
without-weight (number n) t u is = absurd (none-some u is)

-- ---- along tokens

-- what makes a child heavier by b and lighter by a, or less, does so to the value
changed_child-weight : (a b : ℕ) (v : Value) (t : List ℕ) (c u : Value) (r : Option Value) → child_of v t ≡ Some c
    → ((y : Value) → r ≡ Some y → weight y + a ≤ weight c + b) → option_map (with_child v t) r ≡ Some u
    → weight u + a ≤ weight v + b
changed_child-weight a b v t c u None at each is = absurd (none-some u is)
changed_child-weight a b v t c u (Some y) at each is =
    let new = with_child-weight v t c y at in
    let more = each y refl in
    subst (λ x. weight x + a ≤ weight v + b) (same_Some (with_child v t y) u is) (omega (arith, new, more))

below-weight : (a : Value → ℕ) (b : ℕ) (v : Value) (t : List ℕ) (u : Value) (f : Value → Option Value)
    (o : Option Value) → ((c y : Value) → f c ≡ Some y → weight y + a c ≤ weight c + b) → child_of v t ≡ o
    → option_map (with_child v t) (option_and_then f o) ≡ Some u → weight u + option_map_or a o 0 ≤ weight v + b
below-weight a b v t u f None each at is = absurd (none-some u is)
below-weight a b v t u f (Some c) each at is = changed_child-weight (a c) b v t c u (f c) at (each c) is

updated-weight : (w v : Value) (ts : List (List ℕ)) (u : Value) → updated (λ _. Some w) v ts ≡ Some u
    → weight u ≤ weight v + weight w
updated-weight w v [] u is = let same = ap weight (same_Some w u is) in omega (arith, same)
updated-weight w v (t ∷ ts) u is =
    let more = below-weight (λ _. 0) (weight w) v t u (λ c. updated (λ _. Some w) c ts) (child_of v t)
    (λ c y e. let less = updated-weight w c ts y e in omega (arith, less)) refl is in omega (arith, more)

-- the bytes of tokens, with a slash before each
abbrev bytes_in : List (List ℕ) → ℕ
bytes_in [] = 0
bytes_in (t ∷ ts) = suc (length t) + bytes_in ts

inserted-weight : (w v : Value) (ts : List (List ℕ)) (u : Value) → changed (with_new w) v ts ≡ Some u
    → weight u ≤ weight v + (weight w + bytes_in ts)
inserted-weight w v [] u is = absurd (none-some u is)
inserted-weight w v (t ∷ []) u is = let more = with_new-weight w v t u is in omega (arith, more)
inserted-weight w v (t ∷ s ∷ ts) u is =
    let more = below-weight (λ _. 0) (weight w + bytes_in (s ∷ ts)) v t u (λ c. changed (with_new w) c (s ∷ ts))
    (child_of v t) (λ c y e. let less = inserted-weight w c (s ∷ ts) y e in omega (arith, less)) refl is in
    omega (arith, more)

found-weight : (f : Value → Result Value PointerError) (x : PointerError) (o : Option Value)
    → weight_in (result_ok (and_then f (ok_or o x))) ≡ option_map_or (λ c. weight_in (result_ok (f c))) o 0
found-weight f x None = refl
found-weight f x (Some c) = refl

child-weight : (x : PointerError) (o : Option Value)
    → weight_in (result_ok (and_then (λ c. Ok c) (ok_or o x))) ≡ weight_in o
child-weight x None = refl
child-weight x (Some c) = refl

removed-weight : (i : ℕ) (v : Value) (ts : List (List ℕ)) (u : Value) → changed without v ts ≡ Some u
    → weight u + weight_in (result_ok (found i v ts)) ≤ weight v
removed-weight i v [] u is = absurd (none-some u is)
removed-weight i v (t ∷ []) u is =
    let less = without-weight v t u is in omega (arith, less, child-weight (missing i v t) (child_of v t))
removed-weight i v (t ∷ s ∷ ts) u is =
    let j = suc (i + length t) in
    let less = below-weight (λ c. weight_in (result_ok (found j c (s ∷ ts)))) 0 v t u (λ c. changed without c (s ∷ ts))
    (child_of v t) (λ c y e. let below = removed-weight j c (s ∷ ts) y e in omega (arith, below)) refl is in
    omega (arith, less, found-weight (λ c. found j c (s ∷ ts)) (missing i v t) (child_of v t))

-- ---- along a pointer

after-bytes_by : (b : Bool) (t : List ℕ) (c : ℕ) (cs : List ℕ)
    → ((s : List ℕ) → bytes_in (tokens_after s cs) ≡ suc (length s + length cs))
    → bytes_in (if b then t ∷ tokens_after [] cs else tokens_after (t ++ c ∷ []) cs) ≡ suc (length t + suc (length cs))
after-bytes_by true t c cs ih = omega (arith, ih [])
after-bytes_by false t c cs ih = omega (arith, ih (t ++ c ∷ []), length-append t (c ∷ []))

after-bytes : (cs t : List ℕ) → bytes_in (tokens_after t cs) ≡ suc (length t + length cs)
after-bytes [] t = omega arith
after-bytes (c ∷ cs) t = after-bytes_by (c == 47) t c cs (after-bytes cs)

tokens-bytes_by : (b : Bool) (cs : List ℕ) (ts : List (List ℕ)) → (if b then Some (tokens_in cs) else None) ≡ Some ts
    → bytes_in ts ≡ suc (length cs)
tokens-bytes_by true cs ts is =
    let same = ap bytes_in (same_Some (tokens_in cs) ts is) in
    let bytes = after-bytes cs [] in omega (arith, same, bytes)
tokens-bytes_by false cs ts is = absurd (none-some ts is)

tokens-bytes : (path : List ℕ) (ts : List (List ℕ)) → tokens_of path ≡ Some ts → bytes_in ts ≡ length path
tokens-bytes [] ts is = ap bytes_in (sym (same_Some [] ts is))
tokens-bytes (c ∷ cs) ts is = tokens-bytes_by (c == 47) cs ts is

-- with w in the place of what a pointer names
pub updated_at-weight : (w v : Value) (path : List ℕ) (u : Value) → updated_at (λ _. Some w) v path ≡ Some u
    → weight u ≤ weight v + weight w
updated_at-weight w v path u is =
    option_and_then_some (updated (λ _. Some w) v) (tokens_of path) u is (λ ts at e. updated-weight w v ts u e)

-- with w as a new child; the pointer is at least as long as its key
pub inserted_at-weight : (w v : Value) (path : List ℕ) (u : Value) → inserted_at w v path ≡ Some u
    → weight u ≤ weight v + (weight w + length path)
inserted_at-weight w v path u is =
    option_and_then_some (changed (with_new w) v) (tokens_of path) u is
    (λ ts at e.
    let more = inserted-weight w v ts u e in
    let bytes = tokens-bytes path ts at in omega (arith, more, bytes))

removed_at-weight_by : (v u : Value) (o : Option (List (List ℕ))) → option_and_then (changed without v) o ≡ Some u
    → weight u + weight_in (result_ok (and_then (found 1 v) (ok_or o NoSlash))) ≤ weight v
removed_at-weight_by v u None is = absurd (none-some u is)
removed_at-weight_by v u (Some ts) is = removed-weight 1 v ts u is

-- what a pointer removes, and what is left, weigh no more together than the value did
pub removed_at-weight : (v : Value) (path : List ℕ) (u : Value) → removed_at v path ≡ Some u
    → weight u + weight_in (value_of v path) ≤ weight v
removed_at-weight v path u is = removed_at-weight_by v u (tokens_of path) is
