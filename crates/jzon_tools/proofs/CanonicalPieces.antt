-- The pieces of a canonical text, joined.
use Rattle.std.proofs.Common.{◌≡◌, ◌||◌, ℕ, ◌+◌, ◌<◌, ◌≤◌, Bool, true, false, List, [], ◌∷◌, ◌++◌, length, take}
use Rattle.std.proofs.Common.{get_or, map, refl, sym, ap, ◌∙◌, append_assoc, Option, IsPermutation}
use Rattle.std.proofs.lemmas.Bool.{or_from}
use Rattle.std.proofs.lemmas.List.{take_all}
use Rattle.std.proofs.lemmas.List.Folds.{list_any_more}
use Rattle.std.proofs.lemmas.List.Sorted.{list_any-IsPermutation, IsPermutation-sym}
use Rattle.std.specs.Borrow.{Bor}
use Rattle.std.specs.List.{list_any}
use Rattle.std.specs.List.Sorted.{IsStrictlySortedBy}
use Rattle.std.specs.Cmp.Lexicographic.{slice_cmp}
use Rattle.std.specs.Ordering.{nat_cmp}
use Rattle.jzon.specs.PairList.{keys_of}
use Rattle.jzon.specs.DisplayText.{member_text}
use Rattle.jzon.specs.Generator.{Adds, Just}
use Rattle.jzon.specs.JsonValue.{JsonValue}
use Rattle.jzon.specs.Text.{quoted, compact, compact_layout, layout_text, more_values_text, more_pairs_text}
use Rattle.jzon.specs.Value.{Value, array, object, pairs_of}
use Rattle.jzon.specs.View.{view, view_values, viewed}
use Rattle.jzon.proofs.Appends.{adds_then, adds_weaker}
use Rattle.jzon.proofs.FormattedPieces.{texts_left, all_shown, none_shown, same_depth}
use Rattle.jzon_tools.specs.Canonical.{arranged, arranged_values, normal_leaf, canonical, pointed, has_nan, have_nan}
use Rattle.jzon_tools.specs.Canonical.{arranged_pairs, pairs_have_nan}
use Rattle.jzon_tools.proofs.SortedCopies.{copied, keys_at, distinct_sorted, distinct-permutation, sorted_copies}

-- ---- bytes that are added by two calls
pub adds_both : (a b c : Option (List ℕ)) (x y : List ℕ) → Adds (Just x) a b → Adds (Just y) b c → Adds (Just (x ++ y)) a c
adds_both a b c x y = adds_then (Just x) (Just y) (Just (x ++ y)) a b c (λ p q e f i. e i ++ f i)

pub adds_equal : (a b : Option (List ℕ)) (x y : List ℕ) → x ≡ y → Adds (Just x) a b → Adds (Just y) a b
adds_equal a b x y e = adds_weaker (Just x) (Just y) a b (λ z p. p ∙ e)

-- ---- arrays
abbrev pub item_text : JsonValue → List ℕ
item_text v = canonical (view v)

values_left : (vs : List JsonValue) → texts_left 93 true (map item_text vs)
    ≡ more_values_text compact_layout 0 (arranged_values normal_leaf (view_values vs))
values_left [] = refl
values_left (v ∷ vs) = λ i. 44 ∷ (same_depth 0 1 (arranged normal_leaf (view v)) i ++ values_left vs i)

array_pieces : (vs : List JsonValue) → 91 ∷ texts_left 93 false (map item_text vs) ≡ canonical (array (view_values vs))
array_pieces [] = refl
array_pieces (v ∷ vs) = λ i. 91 ∷ (same_depth 0 1 (arranged normal_leaf (view v)) i ++ values_left vs i)

pub array_written : (vs : List JsonValue) → all_shown item_text 91 93 vs ≡ canonical (array (view_values vs))
array_written vs = sym (none_shown item_text 91 93 vs) ∙ array_pieces vs

-- ---- objects
abbrev pub Entry : Type 0
Entry = Bor (List ℕ) × Bor JsonValue

abbrev pub entry_text : Entry → List ℕ
entry_text e = member_text (e.0.now, arranged normal_leaf (view e.1.now))

abbrev pub copy_of : Entry → List ℕ × Value
copy_of e = (e.0.now, arranged normal_leaf (view e.1.now))

entry_then : (k : List ℕ) (v : Value) (rest more : List ℕ) → rest ≡ more
    → member_text (k, v) ++ rest ≡ ((quoted k ++ 58 ∷ []) ++ layout_text compact_layout 1 v) ++ more
entry_then k v rest more e =
    ap (λ (w : List ℕ). w ++ rest) (sym (append_assoc (quoted k) (58 ∷ []) (compact v)))
    ∙ (λ i. ((quoted k ++ 58 ∷ []) ++ same_depth 0 1 v i) ++ e i)

pairs_left : (es : List Entry) → texts_left 125 true (map entry_text es)
    ≡ more_pairs_text compact_layout 0 (pairs_of (map copy_of es))
pairs_left [] = refl
pairs_left (e ∷ es) = ap (λ (w : List ℕ). 44 ∷ w) (entry_then e.0.now (arranged normal_leaf (view e.1.now)) _ _ (pairs_left es))

object_pieces : (es : List Entry)
    → 123 ∷ texts_left 125 false (map entry_text es) ≡ compact (object (pairs_of (map copy_of es)))
object_pieces [] = refl
object_pieces (e ∷ es) =
    ap (λ (w : List ℕ). 123 ∷ w) (entry_then e.0.now (arranged normal_leaf (view e.1.now)) _ _ (pairs_left es))

pub object_written : (es : List Entry) → all_shown entry_text 123 125 es ≡ compact (object (pairs_of (map copy_of es)))
object_written es = sym (none_shown entry_text 123 125 es) ∙ object_pieces es

copies : (es : List Entry) → map copy_of es ≡ map (copied normal_leaf) (map pointed es)
copies [] = refl
copies (e ∷ es) = ap (λ (qs : List (List ℕ × Value)). copy_of e ∷ qs) (copies es)

-- sorted entries are those of the canonical form
pub sorted_whole : (ps : List (List ℕ × JsonValue)) (es : List Entry) → IsPermutation ps (map pointed es)
    → IsStrictlySortedBy (slice_cmp nat_cmp) (keys_at es)
    → pairs_of (map copy_of es) ≡ arranged_pairs normal_leaf (pairs_of (viewed ps))
sorted_whole ps es same sorted =
    let qs = map pointed es in
    let dq = distinct_sorted (keys_of qs) sorted in
    let dp = distinct-permutation qs ps (IsPermutation-sym ps qs same) dq in
    ap pairs_of (copies es) ∙ sorted_copies normal_leaf ps qs dp dq same sorted

-- ---- NaN
abbrev pub item_nan : JsonValue → Bool
item_nan v = has_nan (view v)

abbrev pub entry_nan : Entry → Bool
entry_nan e = has_nan (view e.1.now)

pub no_nan_more : {X : Type 0} (p : X → Bool) (xs : List X) (i : ℕ) (x : X) → i < length xs → x ≡ get_or xs i x
    → p x ≡ false → list_any p (take i xs) ≡ false → list_any p (take (i + 1) xs) ≡ false
no_nan_more p xs i x lt at none before =
    list_any_more p xs i x lt ∙ or_from (list_any p (take i xs)) (p (get_or xs i x)) before (ap p (sym at) ∙ none)

pub no_nan_all : {X : Type 0} (p : X → Bool) (xs : List X) (i : ℕ) → length xs ≤ i → list_any p (take i xs) ≡ false
    → list_any p xs ≡ false
no_nan_all {X} p xs i le none = ap (λ (ys : List X). list_any p ys) (sym (take_all i xs le)) ∙ none

pub array_nan : (vs : List JsonValue) → have_nan (view_values vs) ≡ list_any item_nan vs
array_nan [] = refl
array_nan (v ∷ vs) = ap (λ b. item_nan v || b) (array_nan vs)

abbrev pair_nan : List ℕ × JsonValue → Bool
pair_nan q = has_nan (view q.1)

pairs_nan : (ps : List (List ℕ × JsonValue)) → pairs_have_nan (pairs_of (viewed ps)) ≡ list_any pair_nan ps
pairs_nan [] = refl
pairs_nan (p ∷ ps) = ap (λ b. pair_nan p || b) (pairs_nan ps)

pointed_nan : (es : List Entry) → list_any pair_nan (map pointed es) ≡ list_any entry_nan es
pointed_nan [] = refl
pointed_nan (e ∷ es) = ap (λ b. entry_nan e || b) (pointed_nan es)

pub object_nan : (ps : List (List ℕ × JsonValue)) (es : List Entry) → IsPermutation ps (map pointed es)
    → pairs_have_nan (pairs_of (viewed ps)) ≡ list_any entry_nan es
object_nan ps es same =
    pairs_nan ps ∙ list_any-IsPermutation pair_nan ps (map pointed es) same ∙ pointed_nan es
