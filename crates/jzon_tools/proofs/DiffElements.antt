-- What the operations that `diff` makes do to the elements of an array.
use Rattle.std.proofs.Common.{◌≡◌, ℕ, zero, suc, ◌<◌, ◌≤◌, ◌^◌, List, [], ◌∷◌, ◌++◌, Bool, true, false, not, nat_lt, if◌then◌else◌, None, Some}
use Rattle.std.proofs.Common.{option_map, option_and_then, slice_get, slice_set, get_or, map, take, drop, length, refl, sym, ap, ◌∙◌, subst, append_assoc, append-nil, arith, length-append}
use Rattle.std.proofs.lemmas.Bool.{false≢true, ltb-true, and_parts, and_from}
use Rattle.std.proofs.lemmas.List.{length-take-le, take-append-drop, drop_all}
use Rattle.std.proofs.Math.Seq.{get_or-append_seam, take-append_seam}
use Rattle.std.proofs.lemmas.Option.{none-some, slice_get-map, slice_get_read}
use Rattle.std.proofs.lemmas.Slice.Eq.{bytes_eq-Decides}
use Rattle.std.specs.Fmt.{decimal}
use Rattle.std.specs.List.{insert, remove}
use Rattle.std.specs.Option.{option_map_or}
use Rattle.std.specs.Str.{bytes_eq}
use Rattle.std.specs.String.Boundary.{IsSplitPoint}
use Rattle.jzon.specs.JsonValue.{JsonValue}
use Rattle.jzon.specs.Measure.{size, largest}
use Rattle.jzon.specs.Same.{same, same_items}
use Rattle.jzon.specs.SameLaws.{same_equiv}
use Rattle.jzon.specs.Value.{Value, array, values_of}
use Rattle.jzon.specs.View.{view}
use Rattle.jzon.proofs.ValueLaws.{list_of_values-values_of}
use Rattle.jzon_tools.specs.Diff.{TurnsAt, AddsChanges, AddsElements, AllSame, IsPartly, IsBelow, Adds, Removes}
use Rattle.jzon_pointer.specs.Pointer.{index_named, child_of, new_index, tokens_of, with_child, with_new, without}
use Rattle.jzon_tools.proofs.DiffSteps.{turns-none, turns-both, turns-child, turns-changed, added-below}
use Rattle.jzon_pointer.proofs.IndexSteps.{index-named, index-child, lacks-decimal}
use Rattle.jzon_pointer.proofs.TokenSteps.{tokens-parent}

abbrev A : List Value → Value
A vs = array (values_of vs)

-- ---- lists of equal values

pub all_same-append : (us vs xs ys : List Value) → AllSame us vs → AllSame xs ys → AllSame (us ++ xs) (vs ++ ys)
all_same-append [] [] xs ys h g = g
all_same-append [] (v ∷ vs) xs ys h g = absurd (false≢true h)
all_same-append (u ∷ us) [] xs ys h g = absurd (false≢true h)
all_same-append (u ∷ us) (v ∷ vs) xs ys h g =
    let both = and_parts (same u v) (same_items (values_of us) (values_of vs)) h in
    and_from _ _ both.0 (all_same-append us vs xs ys both.1 g)

one-same : (u v : Value) → same u v ≡ true → AllSame (u ∷ []) (v ∷ [])
one-same u v h = and_from _ _ h refl

pub same-length : (us vs : List Value) → AllSame us vs → length us ≡ length vs
same-length [] [] h = refl
same-length [] (v ∷ vs) h = absurd (false≢true h)
same-length (u ∷ us) [] h = absurd (false≢true h)
same-length (u ∷ us) (v ∷ vs) h =
    let both = and_parts (same u v) (same_items (values_of us) (values_of vs)) h in
    ap suc (same-length us vs both.1)

-- ---- an element, and what stands before and after it

drop-here : (us : List Value) (i : ℕ) (u : Value) → slice_get us i ≡ Some u → drop i us ≡ u ∷ drop (suc i) us
drop-here [] i u h = absurd (none-some u h)
drop-here (x ∷ us) zero u h = let e : x ≡ u = cc in ap (λ y. y ∷ us) e
drop-here (x ∷ us) (suc i) u h = drop-here us i u h

take-here : (us : List Value) (i : ℕ) (u : Value) → slice_get us i ≡ Some u → take (suc i) us ≡ take i us ++ u ∷ []
take-here [] i u h = absurd (none-some u h)
take-here (x ∷ us) zero u h = let e : x ≡ u = cc in ap (λ y. y ∷ []) e
take-here (x ∷ us) (suc i) u h = ap (λ l. x ∷ l) (take-here us i u h)

get-seam : (ds : List Value) (u : Value) (rest : List Value) → slice_get (ds ++ u ∷ rest) (length ds) ≡ Some u
get-seam [] u rest = refl
get-seam (d ∷ ds) u rest = get-seam ds u rest

set-seam : (ds : List Value) (u w : Value) (rest : List Value) → slice_set (ds ++ u ∷ rest) (length ds) w ≡ ds ++ w ∷ rest
set-seam [] u w rest = refl
set-seam (d ∷ ds) u w rest = ap (λ l. d ∷ l) (set-seam ds u w rest)

remove-seam : (ds : List Value) (u : Value) (rest : List Value) → remove (ds ++ u ∷ rest) (length ds) ≡ ds ++ rest
remove-seam [] u rest = refl
remove-seam (d ∷ ds) u rest = ap (λ l. d ∷ l) (remove-seam ds u rest)

insert-seam : (ds : List Value) (w : Value) (rest : List Value) → insert (ds ++ rest) (length ds) w ≡ ds ++ w ∷ rest
insert-seam [] w rest = refl
insert-seam (d ∷ ds) w rest = ap (λ l. d ∷ l) (insert-seam ds w rest)

-- ---- an index as the token of an array

child-at : (ds : List Value) (u : Value) (rest : List Value) (i : ℕ) → length ds ≡ i → i < 2 ^ 64
    → child_of (A (ds ++ u ∷ rest)) (decimal i) ≡ Some u
child-at ds u rest i len small =
    index-child i (A (ds ++ u ∷ rest)) u small
    (ap (λ l. slice_get l i) (list_of_values-values_of (ds ++ u ∷ rest))
    ∙ ap (slice_get (ds ++ u ∷ rest)) (sym len) ∙ get-seam ds u rest)

set-at : (ds : List Value) (u w : Value) (rest : List Value) (i : ℕ) → length ds ≡ i → i < 2 ^ 64
    → with_child (A (ds ++ u ∷ rest)) (decimal i) w ≡ A (ds ++ w ∷ rest)
set-at ds u w rest i len small =
    let all = ds ++ u ∷ rest in
    ap (λ l. A (option_map_or (λ j. slice_set l j w) (index_named (decimal i)) l)) (list_of_values-values_of all)
    ∙ ap (λ o. A (option_map_or (λ j. slice_set all j w) o all)) (index-named i small)
    ∙ ap (λ j. A (slice_set all j w)) (sym len) ∙ ap A (set-seam ds u w rest)

removed-at : (ds : List Value) (u : Value) (rest : List Value) (i : ℕ) → length ds ≡ i → i < 2 ^ 64
    → without (A (ds ++ u ∷ rest)) (decimal i) ≡ Some (A (ds ++ rest))
removed-at ds u rest i len small =
    let all = ds ++ u ∷ rest in
    ap (λ l. option_and_then (λ j. option_map (λ c. A (remove l j)) (slice_get l j)) (index_named (decimal i)))
    (list_of_values-values_of all)
    ∙ ap (λ o. option_and_then (λ j. option_map (λ c. A (remove all j)) (slice_get all j)) o) (index-named i small)
    ∙ ap (λ j. option_map (λ c. A (remove all j)) (slice_get all j)) (sym len)
    ∙ ap (λ o. option_map (λ c. A (remove all (length ds))) o) (get-seam ds u rest)
    ∙ ap (λ l. Some (A l)) (remove-seam ds u rest)

-- the token of an index isn't `-`
no-dash_by : (b : Bool) (t : List ℕ) (i : ℕ) → bytes_eq t (45 ∷ []) ≡ b → index_named t ≡ Some i → b ≡ false
no-dash_by false t i e h = refl
no-dash_by true t i e h =
    absurd (none-some i (ap index_named (sym ((bytes_eq-Decides t (45 ∷ [])).0 e)) ∙ h))

place-by : (b : Bool) (n i : ℕ) → b ≡ false → (if b then None else Some i) ≡ Some i
place-by true n i h = absurd (false≢true (sym h))
place-by false n i h = refl

within-by : (b : Bool) (n i : ℕ) → i ≤ n → nat_lt n i ≡ b → b ≡ false
within-by false n i h e = refl
within-by true n i h e = absurd (omega (arith, ltb-true n i e))

new-at : (n i : ℕ) → i ≤ n → i < 2 ^ 64 → new_index (decimal i) n ≡ Some i
new-at n i within small =
    rw (no-dash_by (bytes_eq (decimal i) (45 ∷ [])) (decimal i) i refl (index-named i small), index-named i small)
    (place-by (nat_lt n i) n i (within-by (nat_lt n i) n i within refl))

inserted-at : (ds : List Value) (w : Value) (rest : List Value) (i : ℕ) → length ds ≡ i → i < 2 ^ 64
    → with_new w (A (ds ++ rest)) (decimal i) ≡ Some (A (ds ++ w ∷ rest))
inserted-at ds w rest i len small =
    let all = ds ++ rest in
    ap (λ l. option_map (λ j. A (insert l j w)) (new_index (decimal i) (length l))) (list_of_values-values_of all)
    ∙ ap (λ o. option_map (λ j. A (insert all j w)) o)
    (new-at (length all) i (omega (arith, len, length-append ds rest)) small)
    ∙ ap (λ j. Some (A (insert all j w))) (sym len) ∙ ap (λ l. Some (A l)) (insert-seam ds w rest)

-- ---- one element after the other

-- one more element is as it shall be
more : (us vs ds : List Value) (j k : ℕ) (w v : Value) → length ds ≡ j → AllSame ds (take j vs) → slice_get vs j ≡ Some v
    → same w v ≡ true → IsPartly us vs (suc j, k) (ds ++ w ∷ drop k us)
more us vs ds j k w v len equal wanted here = (
  ds ++ w ∷ [],
  length-append ds (w ∷ []) ∙ omega (arith, len),
  subst (λ (l : List Value). AllSame (ds ++ w ∷ []) l) (sym (take-here vs j v wanted))
      (all_same-append ds (take j vs) (w ∷ []) (v ∷ []) equal (one-same w v here)),
  sym (append_assoc ds (w ∷ []) (drop k us)),
)

pub elements-none : (path : List ℕ) (us vs : List Value) (at : ℕ × ℕ) (before after : List Value) → after ≡ before
    → AddsElements path us vs at at before after
elements-none path us vs at before after is =
    ([], is ∙ sym (append-nil before), λ ts tokens ws partly. (ws, partly, turns-none ts (A ws)), λ same. refl)

pub elements-both : (path : List ℕ) (us vs : List Value) (from mid to : ℕ × ℕ) (before between after : List Value)
    → AddsElements path us vs from mid before between → AddsElements path us vs mid to between after
    → AddsElements path us vs from to before after
elements-both path us vs from mid to before between after (xs, is, turns, none) (ys, next, turns', none') = (
  xs ++ ys,
  next ∙ ap (λ l. l ++ ys) is ∙ append_assoc before xs ys,
  λ ts tokens ws partly.
      let t = turns ts tokens ws partly in
      let u = turns' ts tokens t.0 t.1 in
      (u.0, u.1, turns-both ts xs ys (A ws) (A t.0) (A u.0) t.2 u.2),
  λ same. ap (λ l. l ++ ys) (none same) ∙ none' same,
)

pub element-kept : (path : List ℕ) (us vs : List Value) (i : ℕ) (u v : Value) (before after : List Value)
    → slice_get us i ≡ Some u → slice_get vs i ≡ Some v → same u v ≡ true → after ≡ before
    → AddsElements path us vs (i, i) (suc i, suc i) before after
element-kept path us vs i u v before after there wanted here is = (
  [],
  is ∙ sym (append-nil before),
  λ ts tokens ws (ds, len, equal, at). (
    ws,
    subst (λ (l : List Value). IsPartly us vs (suc i, suc i) l)
        (ap (λ l. ds ++ l) (sym (drop-here us i u there)) ∙ sym at)
        (more us vs ds i (suc i) u v len equal wanted here),
    turns-none ts (A ws),
  ),
  λ same. refl,
)

same-child : (us vs : List Value) (i : ℕ) (u v : Value) → slice_get us i ≡ Some u → slice_get vs i ≡ Some v
    → AllSame us vs → same u v ≡ true
same-child [] vs i u v h g same = absurd (none-some u h)
same-child (x ∷ us) [] i u v h g same = absurd (none-some v g)
same-child (x ∷ us) (y ∷ vs) zero u v h g all =
    let e : x ≡ u = cc in
    let f : y ≡ v = cc in
    sym (ap (λ a. same a y) e ∙ ap (same u) f) ∙ (and_parts (same x y) (same_items (values_of us) (values_of vs)) all).0
same-child (x ∷ us) (y ∷ vs) (suc i) u v h g all =
    same-child us vs i u v h g (and_parts (same x y) (same_items (values_of us) (values_of vs)) all).1

pub element-changed : (path place : List ℕ) (us vs : List Value) (i : ℕ) (u v : Value) (before after : List Value)
    → i < 2 ^ 64 → slice_get us i ≡ Some u → slice_get vs i ≡ Some v → IsBelow path (decimal i) place
    → AddsChanges place u v before after → AddsElements path us vs (i, i) (suc i, suc i) before after
element-changed path place us vs i u v before after small there wanted below (ops, is, turns, none) = (
  ops,
  is,
  λ ts tokens ws (ds, len, equal, at).
      let t = turns (ts ++ decimal i ∷ []) (below.1 ts tokens) in
      let rest = drop (suc i) us in
      let was : ws ≡ ds ++ u ∷ rest = at ∙ ap (λ l. ds ++ l) (drop-here us i u there) in (
        ds ++ t.0 ∷ rest,
        more us vs ds i (suc i) t.0 v len equal wanted t.1,
        subst (λ (l : List Value). TurnsAt ts ops (A l) (A (ds ++ t.0 ∷ rest))) (sym was)
            (subst (λ (x : Value). TurnsAt ts ops (A (ds ++ u ∷ rest)) x) (set-at ds u t.0 rest i len small)
            (turns-child ts (decimal i) ops (A (ds ++ u ∷ rest)) u t.0 (child-at ds u rest i len small) t.2)),
      ),
  λ same. none (same-child us vs i u v there wanted same),
)

-- no operation is right for equal elements, where so many aren't there
unequal : (us vs ops : List Value) → (length us ≡ length vs → ⊥) → AllSame us vs → ops ≡ []
unequal us vs ops differ same = absurd (differ (same-length us vs same))

pub element-removed : (path place : List ℕ) (us vs : List Value) (j k : ℕ) (u op : Value) (before after : List Value)
    → j < 2 ^ 64 → (length us ≡ length vs → ⊥) → slice_get us k ≡ Some u → IsBelow path (decimal j) place
    → Removes place op → after ≡ before ++ op ∷ [] → AddsElements path us vs (j, k) (j, suc k) before after
element-removed path place us vs j k u op before after small differ there below removes is = (
  op ∷ [],
  is,
  λ ts tokens ws (ds, len, equal, at).
      let rest = drop (suc k) us in
      let was : ws ≡ ds ++ u ∷ rest = at ∙ ap (λ l. ds ++ l) (drop-here us k u there) in (
        ds ++ rest,
        (ds, len, equal, refl),
        subst (λ (l : List Value). TurnsAt ts (op ∷ []) (A l) (A (ds ++ rest))) (sym was)
            (turns-changed without place ts (decimal j) op (A (ds ++ u ∷ rest)) (A (ds ++ rest)) (below.1 ts tokens)
            removes (removed-at ds u rest j len small)),
      ),
  unequal us vs (op ∷ []) differ,
)

pub element-added : (path place : List ℕ) (us vs : List Value) (j k : ℕ) (v op : Value) (before after : List Value)
    → j < 2 ^ 64 → (length us ≡ length vs → ⊥) → slice_get vs j ≡ Some v → IsBelow path (decimal j) place
    → Adds place v op → after ≡ before ++ op ∷ [] → AddsElements path us vs (j, k) (suc j, k) before after
element-added path place us vs j k v op before after small differ wanted below adds is = (
  op ∷ [],
  is,
  λ ts tokens ws (ds, len, equal, at).
      let rest = drop k us in (
        ds ++ v ∷ rest,
        more us vs ds j k v v len equal wanted (same_equiv.refl v),
        subst (λ (l : List Value). TurnsAt ts (op ∷ []) (A l) (A (ds ++ v ∷ rest))) (sym at)
            (turns-changed (with_new v) place ts (decimal j) op (A (ds ++ rest)) (A (ds ++ v ∷ rest)) (below.1 ts tokens)
            (added-below path (decimal j) place v op below.0 adds) (inserted-at ds v rest j len small)),
      ),
  unequal us vs (op ∷ []) differ,
)

-- the first and the last elements are equal, and what is between is brought from the one to the other
pub elements-end : (path : List ℕ) (us vs : List Value) (start j k : ℕ) (before after : List Value) → start ≤ length us
    → AllSame (take start us) (take start vs) → AllSame (drop k us) (drop j vs)
    → AddsElements path us vs (start, start) (j, k) before after → AddsChanges path (A us) (A vs) before after
elements-end path us vs start j k before after room first last (ops, is, turns, none) = (
  ops,
  is,
  λ ts tokens.
      let t = turns ts tokens us (take start us, length-take-le start us room, first, sym (take-append-drop start us)) in
      let p = t.1 in (
        A t.0,
        subst (λ (l : List Value). AllSame l vs) (sym p.3)
            (subst (λ (l : List Value). AllSame (p.0 ++ drop k us) l) (take-append-drop j vs)
            (all_same-append p.0 (take j vs) (drop k us) (drop j vs) p.2 last)),
        t.2,
      ),
  none,
)

-- ---- equal elements at the beginning and at the end

-- an element that is read
pub seen-at : (us : List JsonValue) (i : ℕ) (u : JsonValue) → i < length us → u ≡ get_or us i u
    → slice_get (map view us) i ≡ Some (view u)
seen-at us i u less is = slice_get-map view us i ∙ ap (option_map view) (slice_get_read us (length us) i u refl less is)

pub start-next : (us vs : List JsonValue) (i j : ℕ) (u v : JsonValue) → suc i ≡ j → i < length us → i < length vs
    → u ≡ get_or us i u → v ≡ get_or vs i v → same (view u) (view v) ≡ true
    → AllSame (take i (map view us)) (take i (map view vs)) → AllSame (take j (map view us)) (take j (map view vs))
start-next us vs i j u v next less less' is is' here before =
    let us' = map view us in
    let vs' = map view vs in
    subst (λ n. AllSame (take n us') (take n vs')) next
    (subst (λ (l : List Value). AllSame l (take (suc i) vs')) (sym (take-here us' i (view u) (seen-at us i u less is)))
    (subst (λ (l : List Value). AllSame (take i us' ++ view u ∷ []) l)
    (sym (take-here vs' i (view v) (seen-at vs i v less' is')))
    (all_same-append (take i us') (take i vs') (view u ∷ []) (view v ∷ []) before (one-same (view u) (view v) here))))

-- the last n elements are equal, and so is the one before them
pub end-next : (us vs : List JsonValue) (i j k l m n : ℕ) (u v : JsonValue) → i < length us → j < length vs
    → k ≡ suc i → l ≡ suc j → m ≡ i → n ≡ j
    → u ≡ get_or us i u → v ≡ get_or vs j v → same (view u) (view v) ≡ true
    → AllSame (drop k (map view us)) (drop l (map view vs)) → AllSame (drop m (map view us)) (drop n (map view vs))
end-next us vs i j k l m n u v less less' ks ls ms ns is is' here after =
    let us' = map view us in
    let vs' = map view vs in
    let tail : AllSame (drop (suc i) us') (drop (suc j) vs') =
    subst (λ a. AllSame (drop a us') (drop (suc j) vs')) ks (subst (λ b. AllSame (drop k us') (drop b vs')) ls after) in
    let whole = all_same-append (view u ∷ []) (view v ∷ []) (drop (suc i) us') (drop (suc j) vs')
    (one-same (view u) (view v) here) tail in
    let first : AllSame (drop i us') (drop j vs') =
    subst (λ (x : List Value). AllSame x (drop j vs')) (sym (drop-here us' i (view u) (seen-at us i u less is)))
    (subst (λ (y : List Value). AllSame (view u ∷ drop (suc i) us') y)
    (sym (drop-here vs' j (view v) (seen-at vs j v less' is'))) whole) in
    subst (λ a. AllSame (drop a us') (drop n vs')) (sym ms) (subst (λ b. AllSame (drop i us') (drop b vs')) (sym ns) first)

pub none-after : (us vs : List Value) (m n : ℕ) → length us ≤ m → length vs ≤ n → AllSame (drop m us) (drop n vs)
none-after us vs m n h g =
    subst (λ (l : List Value). AllSame l (drop n vs)) (sym (drop_all m us h))
    (subst (λ (l : List Value). AllSame [] l) (sym (drop_all n vs g)) refl)

-- ---- the path

-- the path of an index
pub index-below : (old new : List ℕ) (i : ℕ) → i < 2 ^ 64 → new ≡ old ++ 47 ∷ decimal i → IsBelow old (decimal i) new
index-below old new i small is =
    (is, λ ts tokens. ap tokens_of is ∙ tokens-parent old (decimal i) ts (lacks-decimal i small) tokens)

-- after a path may be cut what was put after it
pub split-after : (path new t : List ℕ) → new ≡ path ++ 47 ∷ t → IsSplitPoint new (length path)
split-after path new t is = (
  omega (arith, ap length is, length-append path (47 ∷ t)),
  λ some less large. absurd (omega (
    arith,
    large,
    ap (λ l. get_or l (length path) 0) is ∙ get_or-append_seam path 47 t 0,
  )),
)

pub cut-after : (path new t : List ℕ) → new ≡ path ++ 47 ∷ t → take (length path) new ≡ path
cut-after path new t is = ap (take (length path)) is ∙ take-append_seam path (47 ∷ t)

-- the same state, whose indexes are written in another way
pub to-is : (path : List ℕ) (us vs : List Value) (from : ℕ × ℕ) (a b c d : ℕ) (before after : List Value) → a ≡ c → b ≡ d
    → AddsElements path us vs from (a, b) before after → AddsElements path us vs from (c, d) before after
to-is path us vs from a b c d before after e f adds =
    subst (λ x. AddsElements path us vs from (x, d) before after) e
    (subst (λ y. AddsElements path us vs from (a, y) before after) f adds)

pub differ-by : (b : Bool) → not b ≡ true → b ≡ false
differ-by true h = absurd (false≢true h)
differ-by false h = refl

-- an element that is there
pub seen-in : (us : List Value) (k : ℕ) → k < length us → (u : Value) × (slice_get us k ≡ Some u)
seen-in [] k less = absurd (omega (arith, less))
seen-in (u ∷ us) zero less = (u, refl)
seen-in (u ∷ us) (suc k) less = seen-in us k (omega (arith, less))

-- the path is again what it was
pub cut-to : (path place new t : List ℕ) (n : ℕ) → n ≡ length path → place ≡ path ++ 47 ∷ t → new ≡ place
    → take n new ≡ path
cut-to path place new t n len is same =
    ap (λ m. take m new) len ∙ ap (take (length path)) same ∙ cut-after path place t is

-- an element is no larger than the largest
pub size-item : (vs : List JsonValue) (i : ℕ) (v : JsonValue) → i < length vs → v ≡ get_or vs i v → size v ≤ largest vs
size-item [] i v less is = absurd (omega (arith, less))
size-item (x ∷ vs) zero v less is = omega (arith, ap size is)
size-item (x ∷ vs) (suc i) v less is = omega (arith, size-item vs i v (omega (arith, less)) is)
