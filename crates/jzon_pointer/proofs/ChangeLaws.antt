-- A change at tokens, a token at a time.
use Rattle.std.proofs.Common.{◌≡◌, ℕ, zero, suc, List, [], ◌∷◌, ◌++◌, Bool, true, false, Option, None, Some, option_map, option_and_then, slice_get, slice_set}
use Rattle.std.proofs.Common.{Result, Ok, Err, IsErr, length, ◌+◌, refl, sym, ap, ◌∙◌, subst, if◌then◌else◌}
use Rattle.std.proofs.lemmas.Option.{same_Some}
use Rattle.std.specs.Option.{option_map_or, ok_or}
use Rattle.std.specs.Result.{result_ok}
use Rattle.std.specs.Str.{bytes_eq}
use Rattle.jzon.specs.PairList.{find, put}
use Rattle.jzon.specs.Value.{Value, null, boolean, text, number, array, object, list_of_values, list_of_pairs, values_of, pairs_of}
use Rattle.jzon.proofs.ValueLaws.{values_of-list_of_values, pairs_of-list_of_pairs}
use Rattle.jzon_pointer.specs.Pointer.{index_named, token_key, child_of, missing, found, and_then, with_child, updated, changed, ChangesAt, LacksAt}
use Rattle.jzon_pointer.specs.declared.pointer.PointerError.{PointerError}

-- a value put where it stands changes nothing
put-same_by : (b : Bool) (p : List ℕ × Value) (k : List ℕ) (v : Value) (ps : List (List ℕ × Value))
    → (find k ps ≡ Some v → put k v ps ≡ ps) → (if b then Some p.1 else find k ps) ≡ Some v
    → (if b then (p.0, v) ∷ ps else p ∷ put k v ps) ≡ p ∷ ps
put-same_by true p k v ps ih h = let same : p.1 ≡ v = cc in ap (λ w. (p.0, w) ∷ ps) (sym same)
put-same_by false p k v ps ih h = ap (λ qs. p ∷ qs) (ih h)

put-same : (k : List ℕ) (v : Value) (ps : List (List ℕ × Value)) → find k ps ≡ Some v → put k v ps ≡ ps
put-same k v [] h = absurd (cc)
put-same k v (p ∷ ps) h = put-same_by (bytes_eq p.0 k) p k v ps (put-same k v ps) h

set-same : (i : ℕ) (v : Value) (vs : List Value) → slice_get vs i ≡ Some v → slice_set vs i v ≡ vs
set-same i v [] h = absurd (cc)
set-same zero v (w ∷ ws) h = let same : w ≡ v = cc in ap (λ x. x ∷ ws) (sym same)
set-same (suc i) v (w ∷ ws) h = ap (λ xs. w ∷ xs) (set-same i v ws h)

-- a child put where it stands changes nothing
member-same : (ps : List (List ℕ × Value)) (c : Value) (k : Option (List ℕ))
    → option_and_then (λ j. find j ps) k ≡ Some c → option_map_or (λ j. put j c ps) k ps ≡ ps
member-same ps c None h = refl
member-same ps c (Some k) h = put-same k c ps h

element-same : (vs : List Value) (c : Value) (i : Option ℕ)
    → option_and_then (λ j. slice_get vs j) i ≡ Some c → option_map_or (λ j. slice_set vs j c) i vs ≡ vs
element-same vs c None h = refl
element-same vs c (Some i) h = set-same i c vs h

pub with_child-same : (v : Value) (t : List ℕ) (c : Value) → child_of v t ≡ Some c → with_child v t c ≡ v
with_child-same null t c h = refl
with_child-same (boolean b) t c h = refl
with_child-same (text k s) t c h = refl
with_child-same (number n) t c h = refl
with_child-same (array vs) t c h =
    ap (λ ws. array (values_of ws)) (element-same (list_of_values vs) c (index_named t) h)
    ∙ ap array (values_of-list_of_values vs)
with_child-same (object ps) t c h =
    ap (λ qs. object (pairs_of qs)) (member-same (list_of_pairs ps) c (token_key t) h)
    ∙ ap object (pairs_of-list_of_pairs ps)

-- ---- down one token

pub found-below : (i : ℕ) (v : Value) (t : List ℕ) (ts : List (List ℕ)) (c : Value) → child_of v t ≡ Some c
    → found i v (t ∷ ts) ≡ found (suc (i + length t)) c ts
found-below i v t ts c at = ap (λ o. and_then (λ d. found (suc (i + length t)) d ts) (ok_or o (missing i v t))) at

pub found-none : (i : ℕ) (v : Value) (t : List ℕ) (ts : List (List ℕ)) → child_of v t ≡ None
    → found i v (t ∷ ts) ≡ Err (missing i v t)
found-none i v t ts at = ap (λ o. and_then (λ d. found (suc (i + length t)) d ts) (ok_or o (missing i v t))) at

-- where tokens lead doesn't depend on where the first begins
found-position_by : (o : Option Value) (e f : PointerError) (ts : List (List ℕ)) (i j : ℕ)
    → ((c : Value) → result_ok (found i c ts) ≡ result_ok (found j c ts))
    → result_ok (and_then (λ c. found i c ts) (ok_or o e)) ≡ result_ok (and_then (λ c. found j c ts) (ok_or o f))
found-position_by None e f ts i j ih = refl
found-position_by (Some c) e f ts i j ih = ih c

found-position : (ts : List (List ℕ)) (i j : ℕ) (v : Value) → result_ok (found i v ts) ≡ result_ok (found j v ts)
found-position [] i j v = refl
found-position (t ∷ ts) i j v =
    found-position_by (child_of v t) (missing i v t) (missing j v t) ts (suc (i + length t)) (suc (j + length t))
    (found-position ts (suc (i + length t)) (suc (j + length t)))

pub found-down : (v : Value) (t : List ℕ) (ts : List (List ℕ)) (c : Value) → child_of v t ≡ Some c
    → result_ok (found 1 v (t ∷ ts)) ≡ result_ok (found 1 c ts)
found-down v t ts c at =
    ap result_ok (found-below 1 v t ts c at) ∙ found-position ts (suc (1 + length t)) 1 c

pub changes-below : (v : Value) (t : List ℕ) (ts : List (List ℕ)) (c old new w u : Value) → child_of v t ≡ Some c
    → with_child v t w ≡ u → ChangesAt c ts old new w → ChangesAt v (t ∷ ts) old new u
changes-below v t ts c old new w u at is h = (
  λ i. found-below i v t ts c at ∙ h.0 (suc (i + length t)),
  ap (λ o. option_map (with_child v t) (option_and_then (λ d. updated (λ _. Some new) d ts) o)) at
      ∙ ap (option_map (with_child v t)) h.1 ∙ ap (λ x. Some x) is,
)

pub lacks-below : (v : Value) (t : List ℕ) (ts : List (List ℕ)) (c w u : Value) → child_of v t ≡ Some c
    → with_child v t w ≡ u → LacksAt c ts w → LacksAt v (t ∷ ts) u
lacks-below v t ts c w u at is h = (
  λ i. subst IsErr (sym (found-below i v t ts c at)) (h.0 (suc (i + length t))),
  sym is ∙ ap (with_child v t) h.1 ∙ with_child-same v t c at,
)

pub lacks-here : (v : Value) (t : List ℕ) (ts : List (List ℕ)) → child_of v t ≡ None → LacksAt v (t ∷ ts) v
lacks-here v t ts at = (λ i. subst IsErr (sym (found-none i v t ts at)) refl, refl)

-- ---- the last token

not_ok : (e : PointerError) (a : Value) → ◌≡◌ {A = Result Value PointerError} (Err e) (Ok a) → ⊥
not_ok e a h = absurd (cc)

ok_is : (a b : Value) → ◌≡◌ {A = Result Value PointerError} (Ok a) (Ok b) → a ≡ b
ok_is a b h = cc

pub changed-onto : (f : Value → List ℕ → Option Value) (v : Value) (u t : List ℕ) (us : List (List ℕ))
    → changed f v (u ∷ (us ++ t ∷ []))
    ≡ option_map (with_child v u) (option_and_then (λ c. changed f c (us ++ t ∷ [])) (child_of v u))
changed-onto f v u t [] = refl
changed-onto f v u t (x ∷ xs) = refl

-- a change at the last of some tokens is one at those before it
changed-last_by : (o : Option Value) (f : Value → List ℕ → Option Value) (t u : List ℕ) (us : List (List ℕ)) (i : ℕ)
    (v old : Value)
    → ((j : ℕ) (w : Value) → found j w us ≡ Ok old → changed f w (us ++ t ∷ []) ≡ updated (λ _. f old t) w us)
    → child_of v u ≡ o → found i v (u ∷ us) ≡ Ok old
    → option_map (with_child v u) (option_and_then (λ c. changed f c (us ++ t ∷ [])) o)
    ≡ option_map (with_child v u) (option_and_then (λ c. updated (λ _. f old t) c us) o)
changed-last_by None f t u us i v old ih at h = refl
changed-last_by (Some c) f t u us i v old ih at h =
    ap (option_map (with_child v u)) (ih (suc (i + length u)) c (sym (found-below i v u us c at) ∙ h))

pub changed-last : (f : Value → List ℕ → Option Value) (t : List ℕ) (ts : List (List ℕ)) (old : Value) (i : ℕ) (v : Value)
    → found i v ts ≡ Ok old → changed f v (ts ++ t ∷ []) ≡ updated (λ _. f old t) v ts
changed-last f t [] old i v h = ap (λ w. f w t) (ok_is v old h)
changed-last f t (u ∷ us) old i v h =
    changed-onto f v u t us ∙ changed-last_by (child_of v u) f t u us i v old (changed-last f t us old) refl h

-- where the tokens before the last lead, the last is looked up
found-last_by : (o : Option Value) (t u : List ℕ) (us : List (List ℕ)) (i : ℕ) (v old : Value)
    → ((j : ℕ) (w : Value) → found j w us ≡ Ok old → (k : ℕ) × (found j w (us ++ t ∷ []) ≡ found k old (t ∷ [])))
    → child_of v u ≡ o → found i v (u ∷ us) ≡ Ok old
    → (k : ℕ) × (found i v (u ∷ (us ++ t ∷ [])) ≡ found k old (t ∷ []))
found-last_by None t u us i v old ih at h = absurd (not_ok _ old (sym (found-none i v u us at) ∙ h))
found-last_by (Some c) t u us i v old ih at h =
    let below = ih (suc (i + length u)) c (sym (found-below i v u us c at) ∙ h) in
    (below.0, found-below i v u (us ++ t ∷ []) c at ∙ below.1)

pub found-last : (t : List ℕ) (ts : List (List ℕ)) (old : Value) (i : ℕ) (v : Value) → found i v ts ≡ Ok old
    → (k : ℕ) × (found i v (ts ++ t ∷ []) ≡ found k old (t ∷ []))
found-last t [] old i v h = (i, ap (λ w. found i w (t ∷ [])) (ok_is v old h))
found-last t (u ∷ us) old i v h = found-last_by (child_of v u) t u us i v old (found-last t us old) refl h

-- tokens that lead nowhere lead nowhere with one more
lacks-last_by : (o : Option Value) (t u : List ℕ) (us : List (List ℕ)) (i : ℕ) (v : Value)
    → ((j : ℕ) (w : Value) → IsErr (found j w us) → IsErr (found j w (us ++ t ∷ []))) → child_of v u ≡ o
    → IsErr (found i v (u ∷ us)) → IsErr (found i v (u ∷ (us ++ t ∷ [])))
lacks-last_by None t u us i v ih at h = subst IsErr (sym (found-none i v u (us ++ t ∷ []) at)) refl
lacks-last_by (Some c) t u us i v ih at h =
    subst IsErr (sym (found-below i v u (us ++ t ∷ []) c at)) (ih (suc (i + length u)) c (subst IsErr (found-below i v u us c at) h))

pub lacks-last : (t : List ℕ) (ts : List (List ℕ)) (i : ℕ) (v : Value) → IsErr (found i v ts)
    → IsErr (found i v (ts ++ t ∷ []))
lacks-last t [] i v h = absurd (cc)
lacks-last t (u ∷ us) i v h = lacks-last_by (child_of v u) t u us i v (lacks-last t us) refl h

pub lacks-child : (t : List ℕ) (ts : List (List ℕ)) (i : ℕ) (v old : Value) → found i v ts ≡ Ok old
    → child_of old t ≡ None → IsErr (found i v (ts ++ t ∷ []))
lacks-child t ts i v old h none =
    let last = found-last t ts old i v h in
    subst IsErr (sym (last.1 ∙ found-none last.0 old t [] none)) refl

pub found-child : (t : List ℕ) (ts : List (List ℕ)) (i : ℕ) (v old c : Value) → found i v ts ≡ Ok old
    → child_of old t ≡ Some c → found i v (ts ++ t ∷ []) ≡ Ok c
found-child t ts i v old c h some =
    let last = found-last t ts old i v h in last.1 ∙ found-below last.0 old t [] c some

-- what is put in its own place changes nothing
updated-same_by : (o : Option Value) (u : List ℕ) (us : List (List ℕ)) (i : ℕ) (v old : Value)
    → ((j : ℕ) (w : Value) → found j w us ≡ Ok old → updated (λ _. Some old) w us ≡ Some w) → child_of v u ≡ o
    → found i v (u ∷ us) ≡ Ok old
    → option_map (with_child v u) (option_and_then (λ c. updated (λ _. Some old) c us) o) ≡ Some v
updated-same_by None u us i v old ih at h = absurd (not_ok _ old (sym (found-none i v u us at) ∙ h))
updated-same_by (Some c) u us i v old ih at h =
    ap (option_map (with_child v u)) (ih (suc (i + length u)) c (sym (found-below i v u us c at) ∙ h))
    ∙ ap (λ w. Some w) (with_child-same v u c at)

pub updated-same : (ts : List (List ℕ)) (old : Value) (i : ℕ) (v : Value) → found i v ts ≡ Ok old
    → updated (λ _. Some old) v ts ≡ Some v
updated-same [] old i v h = ap (λ w. Some w) (sym (ok_is v old h))
updated-same (u ∷ us) old i v h = updated-same_by (child_of v u) u us i v old (updated-same us old) refl h

-- ---- what a change of the last token gives

-- where a change leaves what is there, the whole is as it was
pub changes-kept : (v : Value) (ts : List (List ℕ)) (old new w : Value) → ChangesAt v ts old new w → new ≡ old → w ≡ v
changes-kept v ts old new w h same =
    same_Some w v (sym h.1 ∙ ap (λ x. updated (λ _. Some x) v ts) same ∙ updated-same ts old 0 v (h.0 0))

pub changed-some : (f : Value → List ℕ → Option Value) (v : Value) (ts : List (List ℕ)) (t : List ℕ) (old new w : Value)
    → ChangesAt v ts old new w → f old t ≡ Some new → changed f v (ts ++ t ∷ []) ≡ Some w
changed-some f v ts t old new w h is =
    changed-last f t ts old 0 v (h.0 0) ∙ ap (λ o. updated (λ _. o) v ts) is ∙ h.1

none-updated_by : (o : Option Value) (u : List ℕ) (us : List (List ℕ)) (v : Value)
    → ((w : Value) → updated (λ _. None) w us ≡ None)
    → ◌≡◌ {A = Option Value} (option_map (with_child v u) (option_and_then (λ c. updated (λ _. None) c us) o)) None
none-updated_by None u us v ih = refl
none-updated_by (Some c) u us v ih = ap (option_map (with_child v u)) (ih c)

none-updated : (ts : List (List ℕ)) (v : Value) → updated (λ _. None) v ts ≡ None
none-updated [] v = refl
none-updated (u ∷ us) v = none-updated_by (child_of v u) u us v (none-updated us)

pub changed-none : (f : Value → List ℕ → Option Value) (v : Value) (ts : List (List ℕ)) (t : List ℕ) (old : Value)
    → found 0 v ts ≡ Ok old → f old t ≡ None → changed f v (ts ++ t ∷ []) ≡ None
changed-none f v ts t old h is =
    changed-last f t ts old 0 v h ∙ ap (λ o. updated (λ _. o) v ts) is ∙ none-updated ts v

changed-lacks_by : (o : Option Value) (f : Value → List ℕ → Option Value) (t u : List ℕ) (us : List (List ℕ)) (i : ℕ)
    (v : Value) → ((j : ℕ) (w : Value) → IsErr (found j w us) → changed f w (us ++ t ∷ []) ≡ None)
    → child_of v u ≡ o → IsErr (found i v (u ∷ us))
    → option_map (with_child v u) (option_and_then (λ c. changed f c (us ++ t ∷ [])) o) ≡ None
changed-lacks_by None f t u us i v ih at h = refl
changed-lacks_by (Some c) f t u us i v ih at h =
    ap (option_map (with_child v u)) (ih (suc (i + length u)) c (subst IsErr (found-below i v u us c at) h))

pub changed-lacks : (f : Value → List ℕ → Option Value) (t : List ℕ) (ts : List (List ℕ)) (i : ℕ) (v : Value)
    → IsErr (found i v ts) → changed f v (ts ++ t ∷ []) ≡ None
changed-lacks f t [] i v h = absurd (cc)
changed-lacks f t (u ∷ us) i v h =
    changed-onto f v u t us ∙ changed-lacks_by (child_of v u) f t u us i v (changed-lacks f t us) refl h
