-- The open containers, as the automaton sees them.
use Rattle.jzon_base.proofs.Common.{◌≡◌, ◌≢◌, get_or, ℕ, suc, ◌+◌, ◌<◌, ◌≤◌, true, List, [], ◌∷◌, ◌++◌}
use Rattle.jzon_base.proofs.Common.{length, length-append, map, refl, sym, ap, ◌∙◌, arith, Some, None, nat_le, zip}
use Rattle.jzon_base.proofs.Common.{lt-leb, map-append, fold-append}
use Rattle.std.proofs.Math.ListN.{get_or-eq_default}
use Rattle.jzon_base.specs.PairList.{put, put_each}
use Rattle.jzon_tree.specs.Value.{Value, array, values_of, object, pairs_of}
use Rattle.jzon_tree.specs.View.{view, viewed}
use Rattle.jzon_tree.specs.declared.value.JsonValue.{JsonValue}
use Rattle.jzon_tree.proofs.Values.Views.{viewed-put}
use Rattle.jzon.specs.Reading.{Reading}
use Rattle.jzon.specs.Spelling.{breach_if, deep}
use Rattle.jzon.specs.Private.Brackets.{innermost_kind, after_comma, after_closer}
use Rattle.jzon.specs.Private.Machine.{EntriesSoFar, Frames, array_frame, frames_depth, is_fresh}
use Rattle.jzon.specs.Private.Machine.{before, before_key, after_value, value_mark, key_mark}
use Rattle.jzon.specs.Private.OpenContainers.{Container, entries_so_far, last_key, open_as, frames_in, whole_as}
use Rattle.jzon.specs.Private.OpenContainers.{before_item_as, AwaitsValue, HasAllValues, with_value}
use Rattle.jzon.specs.declared.container_kind.ContainerKind.{ContainerKind}
use Rattle.jzon.specs.declared.container_kind.ContainerKind.TheVariants.{Array, Object}

-- ---- the depth

depth_one_more : (b : ContainerKind) (fs : Frames) (c : Container) → frames_depth (open_as b fs c) ≡ suc (frames_depth fs)
depth_one_more Array fs c = refl
depth_one_more Object fs c = refl

pub frames_depth-in : (cs : List Container) → frames_depth (frames_in cs) ≡ length cs
frames_depth-in [] = refl
frames_depth-in (c ∷ cs) = let one = depth_one_more c.kind (frames_in cs) c in
    let rest = frames_depth-in cs in omega arith

pub not_too_deep : (m n : ℕ) → n < m → breach_if (nat_le m n) deep ≡ None
not_too_deep m n lt = ap (λ t. breach_if t deep) (lt-leb m n lt)

pub value_mark-shallow : (r : Reading) (fs : Frames) → frames_depth fs ≤ r.depth → value_mark r fs ≡ None
value_mark-shallow r (array_frame fs []) le = not_too_deep r.depth (frames_depth fs) (omega arith)
value_mark-shallow r _ le = refl

pub key_mark-shallow : (r : Reading) (fs : Frames) (es : EntriesSoFar) → frames_depth fs < r.depth → key_mark r fs es ≡ None
key_mark-shallow r fs [] lt = not_too_deep r.depth (frames_depth fs) lt
key_mark-shallow r fs (e ∷ es) lt = refl

-- ---- elements and entries

pub kind_of_frame : (b : ContainerKind) (fs : Frames) (c : Container) → innermost_kind (open_as b fs c) ≡ Some b
kind_of_frame Array fs c = refl
kind_of_frame Object fs c = refl

no_views : (vs : List JsonValue) → map view vs ≡ [] → vs ≡ []
no_views [] e = refl
no_views (v ∷ vs) e = absurd (cc)

fresh_frame : (fs : Frames) (ws : List Value) → is_fresh (array_frame fs ws) ≡ true → ws ≡ []
fresh_frame fs [] e = refl
fresh_frame fs (v ∷ vs) e = absurd (cc)

-- only an array without elements is fresh
pub fresh_is_empty : (b : ContainerKind) (fs : Frames) (c : Container) → is_fresh (open_as b fs c) ≡ true
    → (c.values ≡ []) × (b ≡ Array)
fresh_is_empty Array fs c e = (no_views c.values (fresh_frame fs (map view c.values) e), refl)
fresh_is_empty Object fs c e = absurd (cc)

pub some_more : (vs : List JsonValue) (v : JsonValue) → vs ++ v ∷ [] ≢ []
some_more [] v e = cc
some_more (w ∷ vs) v e = cc

-- the value of the last key makes one more entry
zip_last : (ks : List (List ℕ)) (vs : List JsonValue) (v : JsonValue) → length ks ≡ length vs + 1
    → zip ks (vs ++ v ∷ []) ≡ zip ks vs ++ (last_key ks, v) ∷ []
zip_last [] vs v e = absurd (omega (arith, e))
zip_last (k ∷ []) [] v e = refl
zip_last (k ∷ []) (w ∷ vs) v e = absurd (omega (arith, e))
zip_last (k ∷ l ∷ ks) [] v e = absurd (omega (arith, e))
zip_last (k ∷ l ∷ ks) (w ∷ vs) v e = ap (λ ps. (k, w) ∷ ps) (zip_last (l ∷ ks) vs v (omega (arith, e)))

pub entries_with_value : (c : Container) (v : JsonValue) → length c.keys ≡ length c.values + 1
    → entries_so_far (with_value c v) ≡ put (last_key c.keys) (view v) (entries_so_far c)
entries_with_value c v e =
    ap (λ ps. viewed (put_each ps)) (zip_last c.keys c.values v e)
    ∙ ap viewed (fold-append (λ qs p. put p.0 p.1 qs) [] (zip c.keys c.values) ((last_key c.keys, v) ∷ []))
    ∙ viewed-put (last_key c.keys) v (put_each (zip c.keys c.values))

-- a key without its value makes no entry
pub zip_key : (ks : List (List ℕ)) (vs : List JsonValue) (k : List ℕ) → length ks ≡ length vs
    → zip (ks ++ k ∷ []) vs ≡ zip ks vs
zip_key [] [] k e = refl
zip_key [] (v ∷ vs) k e = absurd (omega (arith, e))
zip_key (l ∷ ks) [] k e = absurd (omega (arith, e))
zip_key (l ∷ ks) (v ∷ vs) k e = ap (λ ps. (l, v) ∷ ps) (zip_key ks vs k (omega (arith, e)))

pub last_of : (ks : List (List ℕ)) (k : List ℕ) → last_key (ks ++ k ∷ []) ≡ k
last_of [] k = refl
last_of (l ∷ []) k = refl
last_of (l ∷ m ∷ ks) k = last_of (m ∷ ks) k

-- after a value the next item comes, or the container ends
pub after_comma-item : (b : ContainerKind) (fs : Frames) (c : Container) (v : JsonValue) → AwaitsValue b c
    → after_comma (open_as b fs c) (view v) ≡ before_item_as b fs (with_value c v)
after_comma-item Array fs c v h = ap (λ ws. before (array_frame fs ws)) (sym (map-append view c.values (v ∷ [])))
after_comma-item Object fs c v h = ap (before_key fs) (sym (entries_with_value c v h))

pub after_closer-whole : (b : ContainerKind) (fs : Frames) (c : Container) (v : JsonValue) → AwaitsValue b c
    → after_closer (open_as b fs c) (view v) ≡ after_value fs (whole_as b (with_value c v))
after_closer-whole Array fs c v h =
    ap (λ ws. after_value fs (array (values_of ws))) (sym (map-append view c.values (v ∷ [])))
after_closer-whole Object fs c v h = ap (λ es. after_value fs (object (pairs_of es))) (sym (entries_with_value c v h))

pub even_again : (b : ContainerKind) (c : Container) (v : JsonValue) → AwaitsValue b c → HasAllValues b (with_value c v)
even_again Array c v h = h
even_again Object c v h = h ∙ sym (length-append c.values (v ∷ []))

-- ---- bytes

-- a byte other than 0 is before the end of a text
pub byte_within : (bs : List ℕ) (i b : ℕ) → get_or bs i 0 ≡ b → 0 < b → i < length bs
byte_within bs i b e lt =
    let past : length bs ≤ i → ⊥ = λ h. omega (arith, e, get_or-eq_default bs 0 h) in omega (arith, past)
