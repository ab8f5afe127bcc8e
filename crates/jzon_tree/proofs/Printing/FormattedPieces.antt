-- The pieces that a formatter shows of a value, joined.
use Rattle.jzon_base.proofs.Common.{◌≡◌, ℕ, suc, ◌+◌, ◌<◌, Bool, true, false, List, [], ◌∷◌, ◌++◌, length, take, drop}
use Rattle.jzon_base.proofs.Common.{get_or, map, refl, sym, ap, ◌∙◌, append_assoc, append-nil, add-one, arith, nat_lt}
use Rattle.jzon_base.proofs.Common.{prefix_len, lt-ltb, nil_from_length}
use Rattle.std.proofs.Common.{length-drop}
use Rattle.std.proofs.Math.Seq.{drop-cons}
use Rattle.jzon_base.specs.Private.PlainBytes.{is_plain}
use Rattle.jzon_tree.specs.DisplayText.{comma_text, member_text}
use Rattle.jzon_tree.specs.Text.{escaped, escaped_byte, quoted, compact, compact_layout, layout_text, more_values_text}
use Rattle.jzon_tree.specs.Text.{more_pairs_text}
use Rattle.jzon_tree.specs.Value.{Value, array, object, Values, no_values, value, ValuePairs, no_pairs, pair}
use Rattle.jzon_tree.specs.View.{view, view_values, view_pairs}
use Rattle.jzon_tree.specs.declared.value.JsonValue.{JsonValue}
use Rattle.jzon_tree.proofs.Printing.PlainRuns.{escaped-run}

-- ---- a string

-- x of a string in quotes has been shown, and `rest` of it is left
abbrev pub TextLeft : List ℕ → List ℕ → List ℕ → Type 0
TextLeft whole rest x = x ++ escaped rest ≡ 34 ∷ escaped whole

module _ (whole bs run : List ℕ) (n : ℕ) (p : run ≡ take n bs) (e : n ≡ prefix_len is_plain bs) where
  pub escape_shown : (c : ℕ) (rest : List ℕ) → drop n bs ≡ c ∷ rest → (x : List ℕ) → TextLeft whole bs x
      → TextLeft whole rest ((x ++ run) ++ escaped_byte c)
  escape_shown c rest q x h =
      let all : escaped bs ≡ run ++ (escaped_byte c ++ escaped rest) = escaped-run bs n (omega (arith, e))
      ∙ rw (sym p, q) refl in
      rw (append_assoc, append_assoc, ← all) h

  pub text_shown : drop n bs ≡ [] → (x : List ℕ) → TextLeft whole bs x → (x ++ run) ++ 34 ∷ [] ≡ quoted whole
  text_shown q x h =
      let all : escaped bs ≡ run = escaped-run bs n (omega (arith, e)) ∙ rw (sym p, q) (append-nil run) in
      ap (λ (w : List ℕ). w ++ 34 ∷ []) (ap (λ (w : List ℕ). x ++ w) (sym all) ∙ h)

-- ---- the compact text of a container

mutual
  -- it is the same at each depth
  pub same_depth : (d e : ℕ) (v : Value) → layout_text compact_layout d v ≡ layout_text compact_layout e v
  same_depth d e (array (value v vs)) = λ i. 91 ∷ (same_depth (suc d) (suc e) v i ++ same_values d e vs i)
  same_depth d e (object (pair k v ps)) =
      λ i. 123 ∷ (((quoted k ++ 58 ∷ []) ++ same_depth (suc d) (suc e) v i) ++ same_pairs d e ps i)
  same_depth d e _ = refl

  pub same_values : (d e : ℕ) (vs : Values) → more_values_text compact_layout d vs ≡ more_values_text compact_layout e vs
  same_values d e no_values = refl
  same_values d e (value v vs) = λ i. 44 ∷ (same_depth (suc d) (suc e) v i ++ same_values d e vs i)

  pub same_pairs : (d e : ℕ) (ps : ValuePairs) → more_pairs_text compact_layout d ps ≡ more_pairs_text compact_layout e ps
  same_pairs d e no_pairs = refl
  same_pairs d e (pair k v ps) =
      λ i. 44 ∷ (((quoted k ++ 58 ∷ []) ++ same_depth (suc d) (suc e) v i) ++ same_pairs d e ps i)

-- these texts with a comma before each, except perhaps before the first, and the bracket
abbrev pub texts_left : ℕ → Bool → List (List ℕ) → List ℕ
texts_left close comma [] = close ∷ []
texts_left close comma (t ∷ ts) = comma_text comma ++ (t ++ texts_left close true ts)

-- x of a container of these elements has been shown, and those from the index on are left
module _ {A : Type 0} (shown : A → List ℕ) (opening close : ℕ) (items : List A) where
  pub all_shown : List ℕ
  all_shown = opening ∷ texts_left close false (map shown items)

  abbrev pub ItemsLeft : ℕ → List ℕ → Type 0
  ItemsLeft i x = x ++ texts_left close (nat_lt 0 i) (map shown (drop i items)) ≡ all_shown

  pub none_shown : ItemsLeft 0 (opening ∷ [])
  unfolding all_shown
  none_shown = refl

  pub item_shown : (i : ℕ) (a : A) → i < length items → a ≡ get_or items i a → (x : List ℕ) → ItemsLeft i x
      → ItemsLeft (i + 1) ((x ++ comma_text (nat_lt 0 i)) ++ shown a)
  item_shown i a h is x left =
      let comma = comma_text (nat_lt 0 i) in
      let rest = texts_left close true (map shown (drop (suc i) items)) in
      let here : drop i items ≡ a ∷ drop (suc i) items = drop-cons items i a h
      ∙ ap (λ (b : A). b ∷ drop (suc i) items) (sym is) in
      let more : x ++ (comma ++ (shown a ++ rest)) ≡ all_shown = rw here at left in
      rw (add-one i, lt-ltb 0 (suc i) (omega arith), append_assoc, append_assoc) more

  pub items_shown : (i : ℕ) → i ≡ length items → (x : List ℕ) → ItemsLeft i x → x ++ close ∷ [] ≡ all_shown
  items_shown i e x left =
      let none : drop i items ≡ [] = nil_from_length (drop i items) (omega (arith, length-drop i items)) in
      ap (λ (others : List A). x ++ texts_left close (nat_lt 0 i) (map shown others)) (sym none) ∙ left

-- ---- arrays
abbrev pub item_text : JsonValue → List ℕ
item_text v = compact (view v)

values_left : (vs : List JsonValue) → texts_left 93 true (map item_text vs)
    ≡ more_values_text compact_layout 0 (view_values vs)
values_left [] = refl
values_left (v ∷ vs) = λ i. 44 ∷ (same_depth 0 1 (view v) i ++ values_left vs i)

pub array_shown : (vs : List JsonValue) → all_shown item_text 91 93 vs ≡ compact (array (view_values vs))
unfolding all_shown
array_shown [] = refl
array_shown (v ∷ vs) = λ i. 91 ∷ (same_depth 0 1 (view v) i ++ values_left vs i)

-- ---- objects
abbrev pub entry_text : List ℕ × JsonValue → List ℕ
entry_text p = member_text (p.0, view p.1)

entry_then : (k : List ℕ) (v : JsonValue) (rest more : List ℕ) → rest ≡ more
    → entry_text (k, v) ++ rest ≡ ((quoted k ++ 58 ∷ []) ++ layout_text compact_layout 1 (view v)) ++ more
entry_then k v rest more e =
    ap (λ (w : List ℕ). w ++ rest) (sym (append_assoc (quoted k) (58 ∷ []) (compact (view v))))
    ∙ (λ i. ((quoted k ++ 58 ∷ []) ++ same_depth 0 1 (view v) i) ++ e i)

pairs_left : (ps : List (List ℕ × JsonValue)) → texts_left 125 true (map entry_text ps)
    ≡ more_pairs_text compact_layout 0 (view_pairs ps)
pairs_left [] = refl
pairs_left (p ∷ ps) = ap (λ (w : List ℕ). 44 ∷ w) (entry_then p.0 p.1 _ _ (pairs_left ps))

pub object_shown : (ps : List (List ℕ × JsonValue)) → all_shown entry_text 123 125 ps ≡ compact (object (view_pairs ps))
unfolding all_shown
object_shown [] = refl
object_shown (p ∷ ps) = ap (λ (w : List ℕ). 123 ∷ w) (entry_then p.0 p.1 _ _ (pairs_left ps))
