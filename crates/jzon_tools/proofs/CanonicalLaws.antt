-- Two values are equal if and only if their canonical texts are.
use Rattle.std.proofs.Common.{◌≡◌, ◌==◌, pos, ℕ, List, Bool, true, false, cond, Option, None, Some, option_map}
use Rattle.std.proofs.Common.{refl, sym, ap, ◌∙◌, IsUtf8}
use Rattle.std.specs.List.{AllByRecursion, IsDistinct}
use Rattle.std.proofs.lemmas.Bool.{and_from}
use Rattle.std.proofs.lemmas.Slice.Eq.{bytes_eq-Decides}
use Rattle.std.proofs.lemmas.Map.Made.{AllPairs-from_IsDistinct}
use Rattle.std.specs.Str.{bytes_eq}
use Rattle.jzon.specs.Decimal.{Decimal, nan, parts}
use Rattle.jzon.specs.PairList.{keys_of}
use Rattle.jzon.specs.Value.{Value, null, boolean, text, number, array, object, Values, no_values, value, ValuePairs}
use Rattle.jzon.specs.Value.{no_pairs, pair, list_of_pairs}
use Rattle.jzon.specs.Meaning.{meaning}
use Rattle.jzon.specs.SortedStyle.{is_before}
use Rattle.jzon.specs.Text.{compact}
use Rattle.jzon.specs.Lawful.{IsValue, AreValues, ArePairs, HasNoNan, HaveNoNan, PairsHaveNoNan, IsNumber}
use Rattle.jzon.specs.Same.{same, same_items}
use Rattle.jzon.specs.SameLaws.{same_at, object-intro, at, same_equiv}
use Rattle.jzon.proofs.ValueLaws.{IsValue-text}
use Rattle.jzon.proofs.PairLaws.{All-found}
use Rattle.jzon.proofs.PrintedUtf8.{text_utf8}
use Rattle.jzon_tools.specs.Canonical.{arranged, arranged_values, arranged_pairs, put_sorted, normal_number, stripped}
use Rattle.jzon_tools.specs.Canonical.{normal_leaf, CanonicalLaw, OneTextLaw}
use Rattle.jzon_tools.proofs.CompactTexts.{one_value}
use Rattle.jzon_tools.proofs.EqualForms.{MakesOne, form}
use Rattle.jzon_tools.proofs.SortedEntries.{at-arranged_pairs, IsSorted-arranged_pairs, distinct, IsSorted, AllAfter}
use Rattle.jzon_tools.proofs.SortedEntries.{apart-sym, before-apart}
use Rattle.jzon_tools.proofs.StrippedNumbers.{form_of, one_number_form}

abbrev N : Value → Value
N = arranged normal_leaf

-- ---- a value equals its form

abbrev IsSame : List ℕ × Value → Type 0
IsSame p = same (N p.1) p.1 ≡ true

at_same : (o : Option Value) → ((v : Value) → o ≡ Some v → same (N v) v ≡ true) → same_at (option_map N o) o ≡ true
at_same None f = refl
at_same (Some v) f = f v refl

mutual
  same_normal : (v : Value) → IsValue v → same (N v) v ≡ true
  same_normal null iv = refl
  same_normal (boolean b) iv = same_equiv.refl (boolean b)
  same_normal (text k s) iv = (bytes_eq-Decides s s).1 refl
  same_normal (number n) iv = (form_of n iv).equal
  same_normal (array vs) iv = same_normals vs iv
  same_normal (object ps) iv =
      object-intro (arranged_pairs normal_leaf ps) ps (λ k.
      ap (λ o. same_at o (at k ps)) (at-arranged_pairs normal_leaf ps (distinct ps iv.1) k)
      ∙ at_same (at k ps) (λ v e. All-found IsSame k v (list_of_pairs ps) (same_pairs ps iv.0) e))

  same_normals : (vs : Values) → AreValues vs → same_items (arranged_values normal_leaf vs) vs ≡ true
  same_normals no_values iv = refl
  same_normals (value v vs) iv = and_from _ _ (same_normal v iv.0) (same_normals vs iv.1)

  same_pairs : (ps : ValuePairs) → ArePairs ps → AllByRecursion IsSame (list_of_pairs ps)
  same_pairs no_pairs iv = tt
  same_pairs (pair k v ps) iv = (same_normal v iv.1, same_pairs ps iv.2)

-- ---- the form is a value too

pairs_put : (k : List ℕ) (v : Value) (ps : ValuePairs) → IsUtf8 k → IsValue v → ArePairs ps
    → ArePairs (put_sorted k v ps)
pairs_put k v no_pairs u iv all = (u, iv, tt)
pairs_put k v (pair j w ps) u iv all = pick (pairs_put k v ps u iv all.2) (is_before k j)
  where
    pick : ArePairs (put_sorted k v ps) → (b : Bool)
        → ArePairs (cond b (pair k v (pair j w ps)) (pair j w (put_sorted k v ps)))
    pick more true = (u, iv, all)
    pick more false = (all.0, all.1, more)

no_nan_put : (k : List ℕ) (v : Value) (ps : ValuePairs) → HasNoNan v → PairsHaveNoNan ps
    → PairsHaveNoNan (put_sorted k v ps)
no_nan_put k v no_pairs iv all = (iv, tt)
no_nan_put k v (pair j w ps) iv all = pick (no_nan_put k v ps iv all.1) (is_before k j)
  where
    pick : PairsHaveNoNan (put_sorted k v ps) → (b : Bool)
        → PairsHaveNoNan (cond b (pair k v (pair j w ps)) (pair j w (put_sorted k v ps)))
    pick more true = (iv, all)
    pick more false = (all.0, more)

apart_from_later : (k : List ℕ) (ps : ValuePairs) → AllAfter k ps
    → AllByRecursion (λ j. bytes_eq k j ≡ false) (keys_of (list_of_pairs ps))
apart_from_later k no_pairs a = tt
apart_from_later k (pair j v ps) a = (apart-sym j k (before-apart k j a.0), apart_from_later k ps a.1)

sorted_distinct : (ps : ValuePairs) → IsSorted ps → IsDistinct bytes_eq (keys_of (list_of_pairs ps))
unfolding IsDistinct
sorted_distinct no_pairs s = tt
sorted_distinct (pair k v ps) s = (apart_from_later k ps s.0, sorted_distinct ps s.1)

mutual
  value_normal : (v : Value) → IsValue v → IsValue (N v)
  value_normal null iv = tt
  value_normal (boolean b) iv = tt
  value_normal (text k s) iv = IsValue-text s (text_utf8 k s iv)
  value_normal (number n) iv = (form_of n iv).in_range
  value_normal (array vs) iv = values_normal vs iv
  value_normal (object ps) iv = (
    pairs_normal ps iv.0,
    AllPairs-from_IsDistinct bytes_eq-Decides (keys_of (list_of_pairs (arranged_pairs normal_leaf ps)))
        (sorted_distinct (arranged_pairs normal_leaf ps) (IsSorted-arranged_pairs normal_leaf ps (distinct ps iv.1))),
  )

  values_normal : (vs : Values) → AreValues vs → AreValues (arranged_values normal_leaf vs)
  values_normal no_values iv = tt
  values_normal (value v vs) iv = (value_normal v iv.0, values_normal vs iv.1)

  pairs_normal : (ps : ValuePairs) → ArePairs ps → ArePairs (arranged_pairs normal_leaf ps)
  pairs_normal no_pairs iv = tt
  pairs_normal (pair k v ps) iv =
      pairs_put k (N v) (arranged_pairs normal_leaf ps) iv.0 (value_normal v iv.1) (pairs_normal ps iv.2)

number_no_nan : (n : Decimal) → IsNumber n → IsNumber (normal_number n)
number_no_nan nan h = h
number_no_nan (parts p m e) h = pick (m == 0)
  where
    pick : (b : Bool) → IsNumber (cond b (parts true 0 (pos 0)) (parts p (stripped 20 m e).0 (stripped 20 m e).1))
    pick true = tt
    pick false = tt

mutual
  no_nan_normal : (v : Value) → HasNoNan v → HasNoNan (N v)
  no_nan_normal null iv = tt
  no_nan_normal (boolean b) iv = tt
  no_nan_normal (text k s) iv = tt
  no_nan_normal (number n) iv = number_no_nan n iv
  no_nan_normal (array vs) iv = no_nans_normal vs iv
  no_nan_normal (object ps) iv = no_nan_pairs ps iv

  no_nans_normal : (vs : Values) → HaveNoNan vs → HaveNoNan (arranged_values normal_leaf vs)
  no_nans_normal no_values iv = tt
  no_nans_normal (value v vs) iv = (no_nan_normal v iv.0, no_nans_normal vs iv.1)

  no_nan_pairs : (ps : ValuePairs) → PairsHaveNoNan ps → PairsHaveNoNan (arranged_pairs normal_leaf ps)
  no_nan_pairs no_pairs iv = tt
  no_nan_pairs (pair k v ps) iv =
      no_nan_put k (N v) (arranged_pairs normal_leaf ps) (no_nan_normal v iv.0) (no_nan_pairs ps iv.1)

one_leaf : MakesOne normal_leaf
one_leaf = record {
  strings = λ j k s. refl;
  numbers = λ d c rd rc e. ap (λ (x : Decimal). number x) (one_number_form d c rd rc e);
}

pub canonical_law : CanonicalLaw
canonical_law v w iv iw nv nw = (
  λ h. ap compact (form normal_leaf one_leaf v iv w iw h),
  λ e.
      let forms : same (N v) (N w) ≡ true =
      one_value (N v) (N w) (value_normal v iv) (value_normal w iw) (no_nan_normal v nv) (no_nan_normal w nw) e in
      let back : same v (N w) ≡ true = sym (same_equiv.congr (N v) v (N w) (same_normal v iv)) ∙ forms in
      same_equiv.symm v w ∙ sym (same_equiv.congr (N w) w v (same_normal w iw)) ∙ same_equiv.symm (N w) v ∙ back,
)

pub one_text_law : OneTextLaw
one_text_law t u a b h k =
    let v = meaning h.0.node in
    let w = meaning k.0.node in
    let law = canonical_law v w h.2.0 k.2.0 h.2.1 k.2.1 in
    (λ e. law.1 (sym h.3 ∙ e ∙ k.3), λ e. h.3 ∙ law.0 e ∙ sym k.3)
