-- The steps of a patch: where a pointer names nothing, nothing can be changed, and what leaves the value as it was.
use Rattle.std.proofs.Common.{◌≡◌, ◌⊎◌, inl, inr, ℕ, suc, ◌+◌, length, List, [], ◌∷◌, Option, None, Some, option_map, option_and_then, Ok, Err}
use Rattle.std.proofs.Common.{refl, ap, if◌then◌else◌}
use Rattle.std.proofs.lemmas.Option.{none-some, same_Some, option_and_then_some, cond_some}
use Rattle.std.specs.Option.{ok_or}
use Rattle.jzon.specs.PairList.{find, cut}
use Rattle.std.proofs.Common.{slice_get}
use Rattle.std.specs.List.{remove}
use Rattle.jzon.specs.Same.{same}
use Rattle.jzon.specs.Value.{Value, null, boolean, text, number, array, object, values_of, pairs_of, list_of_values, list_of_pairs}
use Rattle.jzon_pointer.specs.Pointer.{index_named, token_key, child_of, with_child, missing, tokens_of, found, and_then, value_at, entry_at, updated, updated_at, changed, without, removed_at}
use Rattle.jzon_pointer.specs.declared.pointer.PointerError.{PointerError}
use Rattle.jzon_pointer.specs.declared.pointer.PointerError.TheVariants.{NoSlash}
use Rattle.jzon_tools.specs.Patch.{value_of, entry_of, tested_at}
use Rattle.jzon_tools.specs.declared.edit.Refused.{Refused}
use Rattle.jzon_tools.specs.declared.edit.Refused.TheVariants.{Lost, TooMany}

updated-missing_by : (f : Value → Option Value) (o : Option Value) (j : ℕ) (v : Value) (t : List ℕ) (ts : List (List ℕ))
    (x e : PointerError) → ((c : Value) → found j c ts ≡ Err e → updated f c ts ≡ None)
    → and_then (λ c. found j c ts) (ok_or o x) ≡ Err e
    → option_map (with_child v t) (option_and_then (λ c. updated f c ts) o) ≡ None
updated-missing_by f None j v t ts x e ih h = refl
updated-missing_by f (Some c) j v t ts x e ih h = ap (option_map (with_child v t)) (ih c h)

updated-missing : (f : Value → Option Value) (ts : List (List ℕ)) (i : ℕ) (v : Value) (e : PointerError)
    → found i v ts ≡ Err e → updated f v ts ≡ None
updated-missing f [] i v e h = absurd (cc)
updated-missing f (t ∷ ts) i v e h =
    updated-missing_by f (child_of v t) (suc (i + length t)) v t ts (missing i v t) e
    (λ c g. updated-missing f ts (suc (i + length t)) c e g) h

updated-nowhere_by : (f : Value → Option Value) (o : Option (List (List ℕ))) (v : Value) (e : PointerError)
    → and_then (found 1 v) (ok_or o NoSlash) ≡ Err e → option_and_then (updated f v) o ≡ None
updated-nowhere_by f None v e h = refl
updated-nowhere_by f (Some ts) v e h = updated-missing f ts 1 v e h

pub updated-nowhere : (f : Value → Option Value) (v : Value) (path : List ℕ) (e : PointerError)
    → value_at v path ≡ Err e → updated_at f v path ≡ None
updated-nowhere f v path e h = updated-nowhere_by f (tokens_of path) v e h

mapped-none : {K : Type 0} (f : K → Option Value) (g : K → Value → Value) (o : Option K)
    → option_and_then f o ≡ None → option_and_then (λ k. option_map (g k) (f k)) o ≡ None
mapped-none f g None h = refl
mapped-none f g (Some k) h = ap (option_map (g k)) h

without-none : (v : Value) (t : List ℕ) → child_of v t ≡ None → without v t ≡ None
without-none null t h = refl
without-none (boolean b) t h = refl
without-none (text k s) t h = refl
without-none (number n) t h = refl
without-none (array vs) t h =
    mapped-none (λ i. slice_get (list_of_values vs) i) (λ i c. array (values_of (remove (list_of_values vs) i)))
    (index_named t) h
without-none (object ps) t h =
    mapped-none (λ k. find k (list_of_pairs ps)) (λ k c. object (pairs_of (cut k (list_of_pairs ps)))) (token_key t) h

no_child_by : (o : Option Value) (x e : PointerError) → and_then (λ c. Ok c) (ok_or o x) ≡ Err e → o ≡ None
no_child_by None x e h = refl
no_child_by (Some c) x e h = absurd (cc)

removed-missing_by : (o : Option Value) (j : ℕ) (v : Value) (t u : List ℕ) (us : List (List ℕ))
    (x e : PointerError) → ((c : Value) → found j c (u ∷ us) ≡ Err e → changed without c (u ∷ us) ≡ None)
    → and_then (λ c. found j c (u ∷ us)) (ok_or o x) ≡ Err e
    → option_map (with_child v t) (option_and_then (λ c. changed without c (u ∷ us)) o) ≡ None
removed-missing_by None j v t u us x e ih h = refl
removed-missing_by (Some c) j v t u us x e ih h = ap (option_map (with_child v t)) (ih c h)

removed-missing : (ts : List (List ℕ)) (i : ℕ) (v : Value) (e : PointerError)
    → found i v ts ≡ Err e → changed without v ts ≡ None
removed-missing [] i v e h = refl
removed-missing (t ∷ []) i v e h = without-none v t (no_child_by (child_of v t) (missing i v t) e h)
removed-missing (t ∷ u ∷ us) i v e h =
    removed-missing_by (child_of v t) (suc (i + length t)) v t u us (missing i v t) e
    (λ c g. removed-missing (u ∷ us) (suc (i + length t)) c e g) h

removed-nowhere_by : (o : Option (List (List ℕ))) (v : Value) (e : PointerError)
    → and_then (found 1 v) (ok_or o NoSlash) ≡ Err e → option_and_then (changed without v) o ≡ None
removed-nowhere_by None v e h = refl
removed-nowhere_by (Some ts) v e h = removed-missing ts 1 v e h

pub removed-nowhere : (v : Value) (path : List ℕ) (e : PointerError) → entry_at v path ≡ Err e → removed_at v path ≡ None
removed-nowhere v [] e h = refl
removed-nowhere v (c ∷ cs) e h = removed-nowhere_by (tokens_of (c ∷ cs)) v e h

-- where a removal is refused, since the pointer names nothing
pub removal-lost : (v : Value) (path : List ℕ) (e : Refused) (error : PointerError) → e ≡ Lost error
    → (e ≡ TooMany) ⊎ ((lost : PointerError) × (e ≡ Lost lost) × (entry_at v path ≡ Err lost))
    → removed_at v path ≡ None
removal-lost v path e error is (inl h) = absurd (cc)
removal-lost v path e error is (inr h) = removed-nowhere v path h.0 h.2

pub entry-nowhere : (v : Value) (path : List ℕ) (e : PointerError) → value_at v path ≡ Err e → entry_at v path ≡ Err e
entry-nowhere v [] e h = absurd (cc)
entry-nowhere v (c ∷ cs) e h = h

-- the empty pointer leads to the whole value
pub whole-found : (v : Value) (path : List ℕ) (e : PointerError) → value_at v path ≡ Err e → path ≡ [] → ⊥
whole-found v [] e h none = cc
whole-found v (c ∷ cs) e h none = cc

-- ---- what leaves the value as it was

pub entry-is_value : (v w : Value) (path : List ℕ) → entry_of v path ≡ Some w → value_of v path ≡ Some w
entry-is_value v w [] h = absurd (none-some w h)
entry-is_value v w (c ∷ cs) h = h

pub kept-same : (v u : Value) (o : Option Value) → option_map (λ _. v) o ≡ Some u → v ≡ u
kept-same v u None is = absurd (none-some u is)
kept-same v u (Some x) is = same_Some v u is

pub tested-same : (v u : Value) (path : List ℕ) (o : Option Value)
    → option_and_then (λ w. tested_at w v path) o ≡ Some u → v ≡ u
tested-same v u path o is =
    option_and_then_some (λ w. tested_at w v path) o u is
    (λ w at e. option_and_then_some (λ x. if same x w then Some v else None) (value_of v path) u e
    (λ x there f. (cond_some (same x w) v u f).1))
