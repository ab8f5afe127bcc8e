-- What the changers of values preserve: a law for each, of each property that goes inside, and three such properties:
-- that a program can hold the value, that it contains no NaN, and a bound of its nesting depth.
use Rattle.jzon_base.proofs.Common.{◌≡◌, ◌≢◌, ℕ, zero, suc, ◌<◌, ◌≤◌, List, [], ◌∷◌, ◌++◌, remove, slice_get, Some}
use Rattle.jzon_base.proofs.Common.{subst, arith, ⊤, AllPairs, IsUtf8, AllByRecursion, none-some, same_Some}
use Rattle.std.proofs.SliceLists.{all_by_recursion_push}
use Rattle.jzon_base.specs.PairList.{find, put, cut, keys_of}
use Rattle.jzon_base.proofs.Entries.PairLaws.{All-put, All-cut, All-found, distinct-put, distinct-cut}
use Rattle.jzon_tree.specs.Changers.{with_item, without_item, with_entry, without_entry}
use Rattle.jzon_tree.specs.Lawful.{IsValue, AreValues, ArePairs, HasNoNan, HaveNoNan, PairsHaveNoNan}
use Rattle.jzon_tree.specs.Readers.{items, entries}
use Rattle.jzon_tree.specs.Value.{Value, array, object, Values, no_values, value, ValuePairs, no_pairs, pair, values_of}
use Rattle.jzon_tree.specs.Value.{pairs_of, list_of_values, list_of_pairs, nest, most_nest, most_nest_under}
use Rattle.jzon_tree.proofs.Values.Views.{list_of_pairs-pairs_of}

-- ---- lists

module _ {X : Type 0} (P : X → Type 0) where
  All-remove : (xs : List X) (i : ℕ) → AllByRecursion P xs → AllByRecursion P (remove xs i)
  All-remove [] zero all = tt
  All-remove [] (suc i) all = tt
  All-remove (x ∷ xs) zero all = all.1
  All-remove (x ∷ xs) (suc i) all = (all.0, All-remove xs i all.1)

  All-slice_get : (xs : List X) (i : ℕ) (x : X) → AllByRecursion P xs → slice_get xs i ≡ Some x → P x
  All-slice_get [] zero x all got = absurd (none-some x got)
  All-slice_get [] (suc i) x all got = absurd (none-some x got)
  All-slice_get (y ∷ ys) zero x all got = subst P (same_Some y x got) all.0
  All-slice_get (y ∷ ys) (suc i) x all got = All-slice_get ys i x all.1 got

-- ---- a property that holds of a container if and only if one holds of its parts

-- P holds of an array if Q holds of its elements, and of an object if K holds of its keys, Q of its values, and D of
-- the list of its keys.
pub record GoesInside (P Q : Value → Type 0) (K : List ℕ → Type 0) (D : List (List ℕ) → Type 0) : Type 0 where
  pub array-from : (vs : List Value) → AllByRecursion Q vs → P (array (values_of vs))
  pub array-to : (vs : Values) → P (array vs) → AllByRecursion Q (list_of_values vs)
  pub object-from : (ps : List (List ℕ × Value)) → AllByRecursion (λ p. K p.0 × Q p.1) ps → D (keys_of ps)
      → P (object (pairs_of ps))
  pub object-to : (ps : ValuePairs) → P (object ps)
      → AllByRecursion (λ p. K p.0 × Q p.1) (list_of_pairs ps) × D (keys_of (list_of_pairs ps))
  pub put : (k : List ℕ) (v : Value) (ps : List (List ℕ × Value)) → D (keys_of ps) → D (keys_of (put k v ps))
  pub cut : (k : List ℕ) (ps : List (List ℕ × Value)) → D (keys_of ps) → D (keys_of (cut k ps))

module _ {P Q : Value → Type 0} {K : List ℕ → Type 0} {D : List (List ℕ) → Type 0} (inside : GoesInside P Q K D) where
  pub keeps_with_item : (v w : Value) → Q v → P w → P (with_item v w)
  keeps_with_item v (array vs) one all =
      inside.array-from (list_of_values vs ++ v ∷ [])
      (all_by_recursion_push Q (list_of_values vs) v (inside.array-to vs all) one)
  keeps_with_item v _ one all = all

  pub keeps_without_item : (i : ℕ) (w : Value) → P w → P (without_item i w)
  keeps_without_item i (array vs) all =
      inside.array-from (remove (list_of_values vs) i) (All-remove Q (list_of_values vs) i (inside.array-to vs all))
  keeps_without_item i _ all = all

  pub keeps_with_entry : (k : List ℕ) (v w : Value) → K k → Q v → P w → P (with_entry k v w)
  keeps_with_entry k v (object ps) key one all =
      let held = inside.object-to ps all in
      inside.object-from (put k v (list_of_pairs ps))
      (All-put (λ p. K p.0 × Q p.1) k v (list_of_pairs ps) (key, one) held.0) (inside.put k v (list_of_pairs ps) held.1)
  keeps_with_entry k v _ key one all = all

  pub keeps_without_entry : (k : List ℕ) (w : Value) → P w → P (without_entry k w)
  keeps_without_entry k (object ps) all =
      let held = inside.object-to ps all in
      inside.object-from (cut k (list_of_pairs ps)) (All-cut (λ p. K p.0 × Q p.1) k (list_of_pairs ps) held.0)
      (inside.cut k (list_of_pairs ps) held.1)
  keeps_without_entry k _ all = all

  pub keeps_item : (i : ℕ) (v w : Value) → P w → slice_get (items w) i ≡ Some v → Q v
  keeps_item i v (array vs) all got = All-slice_get Q (list_of_values vs) i v (inside.array-to vs all) got
  keeps_item i v _ all got = All-slice_get Q [] i v tt got

  pub keeps_found : (k : List ℕ) (v w : Value) → P w → find k (entries w) ≡ Some v → Q v
  keeps_found k v (object ps) all found =
      (All-found (λ p. K p.0 × Q p.1) k v (list_of_pairs ps) (inside.object-to ps all).0 found).1
  keeps_found k v _ all found = absurd (none-some v found)

-- ---- a value that a program can hold

abbrev pub AreDistinct : List (List ℕ) → Type 0
AreDistinct ks = AllPairs (λ j k. j ≢ k) ks

values-from : (vs : List Value) → AllByRecursion IsValue vs → AreValues (values_of vs)
values-from [] all = tt
values-from (v ∷ vs) all = (all.0, values-from vs all.1)

values-to : (vs : Values) → AreValues vs → AllByRecursion IsValue (list_of_values vs)
values-to no_values all = tt
values-to (value v vs) all = (all.0, values-to vs all.1)

pairs-from : (ps : List (List ℕ × Value)) → AllByRecursion (λ p. IsUtf8 p.0 × IsValue p.1) ps → ArePairs (pairs_of ps)
pairs-from [] all = tt
pairs-from (p ∷ ps) all = (all.0.0, all.0.1, pairs-from ps all.1)

pairs-to : (ps : ValuePairs) → ArePairs ps → AllByRecursion (λ p. IsUtf8 p.0 × IsValue p.1) (list_of_pairs ps)
pairs-to no_pairs all = tt
pairs-to (pair k v ps) all = ((all.0, all.1), pairs-to ps all.2)

object_held : (ps : List (List ℕ × Value)) → AllByRecursion (λ p. IsUtf8 p.0 × IsValue p.1) ps
    → AreDistinct (keys_of ps)
    → IsValue (object (pairs_of ps))
object_held ps all distinct = (pairs-from ps all, rw (list_of_pairs-pairs_of ps) distinct)

pub held : GoesInside IsValue IsValue IsUtf8 AreDistinct
held = record {
  array-from = values-from;
  array-to = values-to;
  object-from = object_held;
  object-to = λ ps all. (pairs-to ps all.0, all.1);
  put = distinct-put;
  cut = distinct-cut;
}

-- ---- no NaN inside

number_values-from : (vs : List Value) → AllByRecursion HasNoNan vs → HaveNoNan (values_of vs)
number_values-from [] all = tt
number_values-from (v ∷ vs) all = (all.0, number_values-from vs all.1)

number_values-to : (vs : Values) → HaveNoNan vs → AllByRecursion HasNoNan (list_of_values vs)
number_values-to no_values all = tt
number_values-to (value v vs) all = (all.0, number_values-to vs all.1)

number_pairs-from : (ps : List (List ℕ × Value)) → AllByRecursion (λ p. ⊤ × HasNoNan p.1) ps
    → PairsHaveNoNan (pairs_of ps)
number_pairs-from [] all = tt
number_pairs-from (p ∷ ps) all = (all.0.1, number_pairs-from ps all.1)

number_pairs-to : (ps : ValuePairs) → PairsHaveNoNan ps → AllByRecursion (λ p. ⊤ × HasNoNan p.1) (list_of_pairs ps)
number_pairs-to no_pairs all = tt
number_pairs-to (pair k v ps) all = ((tt, all.0), number_pairs-to ps all.1)

pub no_nan : GoesInside HasNoNan HasNoNan (λ k. ⊤) (λ ks. ⊤)
no_nan = record {
  array-from = number_values-from;
  array-to = number_values-to;
  object-from = λ ps all distinct. number_pairs-from ps all;
  object-to = λ ps all. (number_pairs-to ps all, tt);
  put = λ k v ps h. tt;
  cut = λ k ps h. tt;
}

-- ---- no deeper than h

abbrev pub NestsWithin : ℕ → Value → Type 0
NestsWithin h v = nest v ≤ h

abbrev pub NestsBelow : ℕ → Value → Type 0
NestsBelow h v = nest v < h

most-below : (h : ℕ) (vs : List Value) → 0 < h → AllByRecursion (NestsBelow h) vs → most_nest (values_of vs) < h
most-below h [] room all = room
most-below h (v ∷ vs) room all = omega (arith, all.0, most-below h vs room all.1)

nest_array-from : (h : ℕ) (vs : List Value) → AllByRecursion (NestsBelow h) vs → nest (array (values_of vs)) ≤ h
nest_array-from h [] all = omega arith
nest_array-from h (v ∷ vs) all = omega (arith, all.0, most-below h vs (omega (arith, all.0)) all.1)

each-below : (h : ℕ) (vs : Values) → most_nest vs < h → AllByRecursion (NestsBelow h) (list_of_values vs)
each-below h no_values most = tt
each-below h (value v vs) most = (omega (arith, most), each-below h vs (omega (arith, most)))

nest_array-to : (h : ℕ) (vs : Values) → nest (array vs) ≤ h → AllByRecursion (NestsBelow h) (list_of_values vs)
nest_array-to h no_values most = tt
nest_array-to h (value v vs) most = each-below h (value v vs) most

most_under-below : (h : ℕ) (ps : List (List ℕ × Value)) → 0 < h → AllByRecursion (λ p. ⊤ × NestsBelow h p.1) ps
    → most_nest_under (pairs_of ps) < h
most_under-below h [] room all = room
most_under-below h (p ∷ ps) room all = omega (arith, all.0.1, most_under-below h ps room all.1)

nest_object-from : (h : ℕ) (ps : List (List ℕ × Value)) → AllByRecursion (λ p. ⊤ × NestsBelow h p.1) ps
    → nest (object (pairs_of ps)) ≤ h
nest_object-from h [] all = omega arith
nest_object-from h (p ∷ ps) all = omega (arith, all.0.1, most_under-below h ps (omega (arith, all.0.1)) all.1)

each_under-below : (h : ℕ) (ps : ValuePairs) → most_nest_under ps < h
    → AllByRecursion (λ p. ⊤ × NestsBelow h p.1) (list_of_pairs ps)
each_under-below h no_pairs most = tt
each_under-below h (pair k v ps) most = ((tt, omega (arith, most)), each_under-below h ps (omega (arith, most)))

nest_object-to : (h : ℕ) (ps : ValuePairs) → nest (object ps) ≤ h
    → AllByRecursion (λ p. ⊤ × NestsBelow h p.1) (list_of_pairs ps)
nest_object-to h no_pairs most = tt
nest_object-to h (pair k v ps) most = each_under-below h (pair k v ps) most

pub nests : (h : ℕ) → GoesInside (NestsWithin h) (NestsBelow h) (λ k. ⊤) (λ ks. ⊤)
nests h = record {
  array-from = nest_array-from h;
  array-to = nest_array-to h;
  object-from = λ ps all distinct. nest_object-from h ps all;
  object-to = λ ps all. (nest_object-to h ps all, tt);
  put = λ k v ps all. tt;
  cut = λ k ps all. tt;
}

-- ---- what a value's parts have

-- the keys of a value that a program can hold
pub distinct-entries : (v : Value) → IsValue v → AllPairs (λ j k. j ≢ k) (keys_of (entries v))
distinct-entries (object ps) h = h.1
distinct-entries _ h = λ i j d below within. absurd (omega arith)

pub IsValue-found : (k : List ℕ) (v w : Value) → IsValue w → find k (entries w) ≡ Some v → IsValue v
IsValue-found = keeps_found held

pub nest-with_entry : (h : ℕ) (k : List ℕ) (v w : Value) → nest v < h → nest w ≤ h → nest (with_entry k v w) ≤ h
nest-with_entry h k v w = keeps_with_entry (nests h) k v w tt

pub nest-without_item : (h i : ℕ) (w : Value) → nest w ≤ h → nest (without_item i w) ≤ h
nest-without_item h = keeps_without_item (nests h)

pub nest-without_entry : (h : ℕ) (k : List ℕ) (w : Value) → nest w ≤ h → nest (without_entry k w) ≤ h
nest-without_entry h = keeps_without_entry (nests h)

pub nest-item : (i : ℕ) (v w : Value) → slice_get (items w) i ≡ Some v → nest v < nest w
nest-item i v w = keeps_item (nests (nest w)) i v w (omega arith)

pub nest-found : (k : List ℕ) (v w : Value) → find k (entries w) ≡ Some v → nest v < nest w
nest-found k v w = keeps_found (nests (nest w)) k v w (omega arith)
