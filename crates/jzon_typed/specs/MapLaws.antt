-- What is written of a map is read back as an equal map, and equal values give equal maps. (These are proofs; they are
-- here because the laws of `ReadsBack` and `ReadsAlike` cite them.)
use Rattle.std.specs.Prelude.{refl, List, [], ◌∷◌, ◌≡◌, ℕ, Bool, true, false, ◌&&◌, cond, Option, None, Some, MatchOption, string_bytes}
use Rattle.std.specs.BTreeMap.{BTreeMap, IsOrdered, get_by_text}
use Rattle.std.specs.Cmp.Lexicographic.{pointwise, slice_cmp, nat_list_eq_equiv}
use Rattle.std.specs.Ordering.{nat_cmp, is_eq}
use Rattle.std.specs.Str.{bytes_eq}
use Rattle.std.specs.String.{string_cmp, string_eq}
use Rattle.std.specs.declared.alloc.Global.{Global}
use Rattle.std.specs.declared.string.String.{String}
use Rattle.std.proofs.Common.{sym, ap, ◌∙◌, subst}
use Rattle.std.proofs.lemmas.Bool.{false≢true}
use Rattle.std.proofs.lemmas.Map.Text.{is_eq-slice_cmp}
use Rattle.std.proofs.lemmas.Option.{none-some, same_Some}
use Rattle.jzon.specs.IntoJson.{MapMeans, PairsMean}
use Rattle.jzon.specs.Lawful.{IsValue, ArePairs}
use Rattle.jzon.specs.PairList.{find}
use Rattle.jzon.specs.Readers.{entries, is_object}
use Rattle.jzon.specs.Same.{same}
use Rattle.jzon.specs.SameLaws.{object-elim, same_at}
use Rattle.jzon.specs.Value.{Value, null, boolean, text, number, array, object, ValuePairs, no_pairs, pair, list_of_pairs, pairs_of}
use Rattle.jzon_typed.specs.Alike.{AlikeBy, AreAlike, IsUncut, PairsUncut, TakenAlike}
use Rattle.jzon_typed.specs.AlikeLaws.{by-same, outlined, swap}
use Rattle.jzon_typed.specs.DecodeFields.{HasEntry}
use Rattle.jzon_typed.specs.DecodeMaps.{ReadsEntries, TakesEntries}
use Rattle.jzon_typed.specs.SortedMaps.{Meet, at_text, meet-some, no-left, no-right, sorted-equal}

-- ---- what two look-ups find

-- what is found on the left has what meets it on the right
meet-there : {X Y : Type 0} (P : X → Y → Type 0) (o : Option X) (p : Option Y) (x : X) → o ≡ Some x → Meet P o p
    → (y : Y) × (p ≡ Some y) × P x y
meet-there P None p x at h = absurd (none-some x at)
meet-there P (Some u) None x at h = absurd h
meet-there P (Some u) (Some y) x at h = (y, refl, subst (λ k. P k y) (same_Some u x at) h)

-- and the other way round
meet-back : {X Y : Type 0} (P : X → Y → Type 0) (o : Option X) (p : Option Y) (y : Y) → p ≡ Some y → Meet P o p
    → (x : X) × P x y
meet-back P o None y at h = absurd (none-some y at)
meet-back P None (Some u) y at h = absurd h
meet-back P (Some x) (Some u) y at h = (x, subst (λ k. P x k) (same_Some u y at) h)

-- ---- the entries of equal objects

module _ (P : Value → Type 0) where
  -- it holds of the value of each entry
  abbrev OfEach : ValuePairs → Type 0
  OfEach no_pairs = Unit {0}
  OfEach (pair k v ps) = P v × OfEach ps

  found_by : (b : Bool) (v u : Value) (rest : Option Value) → P v → (rest ≡ Some u → P u) → cond b (Some v) rest ≡ Some u
      → P u
  found_by true v u rest here later at = subst P (same_Some v u at) here
  found_by false v u rest here later at = later at

  of-found : (ps : ValuePairs) → OfEach ps → (k : List ℕ) (u : Value) → find k (list_of_pairs ps) ≡ Some u → P u
  of-found no_pairs each k u at = absurd (none-some u at)
  of-found (pair j v ps) each k u at =
      found_by (bytes_eq j k) v u (find k (list_of_pairs ps)) each.0 (of-found ps each.1 k u) at

each-value : (ps : ValuePairs) → ArePairs ps → OfEach IsValue ps
each-value no_pairs h = tt
each-value (pair k v ps) h = (h.1, each-value ps h.2)

each-uncut : (ps : ValuePairs) → PairsUncut ps → OfEach IsUncut ps
each-uncut no_pairs h = tt
each-uncut (pair k v ps) h = (h.0, each-uncut ps h.1)

uncut-found : (v : Value) → IsUncut v → (k : List ℕ) (u : Value) → find k (entries v) ≡ Some u → IsUncut u
uncut-found (object ps) cut k u at = of-found IsUncut ps (each-uncut ps cut) k u at
uncut-found null cut k u at = absurd (none-some u at)
uncut-found (boolean b) cut k u at = absurd (none-some u at)
uncut-found (text j s) cut k u at = absurd (none-some u at)
uncut-found (number n) cut k u at = absurd (none-some u at)
uncut-found (array vs) cut k u at = absurd (none-some u at)

meet-same : (o p : Option Value) → same_at o p ≡ true → ((u : Value) → o ≡ Some u → IsValue u)
    → ((u : Value) → p ≡ Some u → IsValue u) → Meet AreAlike o p
meet-same None None h f g = tt
meet-same None (Some w) h f g = absurd (false≢true h)
meet-same (Some v) None h f g = absurd (false≢true h)
meet-same (Some v) (Some w) h f g = (h, f v refl, g w refl)

-- at each key both have values that are alike, or neither has one
abbrev FoundAlike : Value → Value → Type 0
FoundAlike v w = IsValue v → IsValue w → (k : List ℕ) → Meet AreAlike (find k (entries v)) (find k (entries w))

found-by : (v w : Value) → same v w ≡ true → FoundAlike v w
found-by = by-same FoundAlike (λ f g k. tt) (λ b f g k. tt) (λ i j s f g k. tt) (λ d e h f g k. tt)
    (λ vs ws h f g k. tt)
    (λ ps qs h f g k.
    meet-same (find k (list_of_pairs ps)) (find k (list_of_pairs qs)) (object-elim ps qs h k)
    (λ u at. of-found IsValue ps (each-value ps f.0) k u at)
    (λ u at. of-found IsValue qs (each-value qs g.0) k u at))

found-alike : (v w : Value) → AreAlike v w → (k : List ℕ) → Meet AreAlike (find k (entries v)) (find k (entries w))
found-alike v w h k = found-by v w h.0 h.1 h.2 k

-- if an entry's value is read alike, it is of equal objects
pub entry-alike : {X : Type 0} (G : Value → X → Type 0) (E : X → X → Bool) → AlikeBy G E → (x y : X) (v w : Value)
    (key : List ℕ) → AreAlike v w → HasEntry v key (λ u. G u x) → HasEntry w key (λ u. G u y) → E x y ≡ true
entry-alike G E alike x y v w key h (a, at, f) (b, there, g) =
    let both = meet-some AreAlike (find key (entries v)) (find key (entries w)) a b at there (found-alike v w h key) in
    alike x y a b both f g

-- and taken alike
pub entry-taken-alike : (P : Value → Type 0) → TakenAlike P → (v w : Value) (key : List ℕ) → AreAlike v w → IsUncut w
    → HasEntry v key P → HasEntry w key P
entry-taken-alike P taken v w key h cut (a, at, holds) =
    let there = meet-there AreAlike (find key (entries v)) (find key (entries w)) a at (found-alike v w h key) in
    (there.0, there.1, taken a there.0 there.2 (uncut-found w cut key there.0 there.1) holds)

-- if the values of the entries are taken alike, so is the object
pub taken-alike-map : (P : Value → Type 0) → TakenAlike P → TakenAlike (TakesEntries P)
taken-alike-map P taken v w h cut (is, each) = (
  ap (λ o. o.2) (sym (outlined v w h.0)) ∙ is,
  λ k u at.
      let there = meet-there AreAlike (find k (entries w)) (find k (entries v)) u at (found-alike w v (swap v w h) k) in
      taken there.0 u (swap u there.0 there.2) (uncut-found w cut k u at) (each k there.0 there.1),
)

module _ {X : Type 0} (G : Value → X → Type 0) (E : X → X → Bool) where
  -- what is read of an entry, if there is one
  abbrev Reads : Option X → Option Value → Type 0
  Reads o s = MatchOption o (s ≡ None) (λ x. (w : Value) × (s ≡ Some w) × G w x)

  read-alike : AlikeBy G E → (o p : Option X) (s t : Option Value) → Reads o s → Reads p t → Meet AreAlike s t
      → Meet (λ x y. E x y ≡ true) o p
  read-alike alike None None s t f g h = tt
  read-alike alike None (Some y) s t f (w, at, g) h = no-left AreAlike s t w f at h
  read-alike alike (Some x) None s t (w, at, f) g h = no-right AreAlike s t w at g h
  read-alike alike (Some x) (Some y) s t (v, left, f) (w, right, g) h =
      alike x y v w (meet-some AreAlike s t v w left right h) f g

  -- equal values give equal maps, if their entries' values give equal results
  pub alike-map : AlikeBy G E → (m n : BTreeMap (String Global) X) (v w : Value) → AreAlike v w
      → (is_object v ≡ true) × ReadsEntries G v (get_by_text m) × IsOrdered string_cmp m
      → (is_object w ≡ true) × ReadsEntries G w (get_by_text n) × IsOrdered string_cmp n
      → pointwise (λ p q. string_eq p.0 q.0 && E p.1 q.1) m.entries n.entries ≡ true
  alike-map alike m n v w h (one, f, up) (two, g, above) =
      sorted-equal E m.entries n.entries up above
      (λ k. read-alike alike (get_by_text m k) (get_by_text n k) (find k (entries v)) (find k (entries w)) (f k) (g k)
      (found-alike v w h k))

-- ---- what is written of a map

pairs-of : (qs : List (List ℕ × Value)) → list_of_pairs (pairs_of qs) ≡ qs
pairs-of [] = refl
pairs-of (q ∷ qs) = ap (λ rs. q ∷ rs) (pairs-of qs)

-- a map isn't written as null
pub no-map : {X : Type 0} (S : X → Value → Type 0) (es : List (String Global × X))
    → MapMeans string_bytes S es null → ⊥
no-map S es (qs, each, is) = false≢true (ap is_object is)

module _ {X : Type 0} (S : X → Value → Type 0) where
  shown-by : (b : Bool) (x : X) (w : Value) (o : Option X) (p : Option Value) → S x w → Meet S o p
      → Meet S (cond b (Some x) o) (cond b (Some w) p)
  shown-by true x w o p s h = s
  shown-by false x w o p s h = h

  same-test : (k j l : List ℕ) → j ≡ l → is_eq (slice_cmp nat_cmp k l) ≡ bytes_eq j k
  same-test k j l is = is_eq-slice_cmp k l ∙ nat_list_eq_equiv.symm k l ∙ ap (λ (i : List ℕ). bytes_eq i k) (sym is)

  -- at each key the map and the object have a value that shows, or neither has one
  found-shown : (k : List ℕ) (es : List (String Global × X)) (qs : List (List ℕ × Value))
      → PairsMean string_bytes S es qs → Meet S (at_text k es) (find k qs)
  found-shown k [] [] each = tt
  found-shown k (e ∷ es) (q ∷ qs) each =
      subst (λ (b : Bool). Meet S (cond b (Some e.1) (at_text k es)) (find k (q ∷ qs)))
      (sym (same-test k q.0 (string_bytes e.0) each.0.0))
      (shown-by (bytes_eq q.0 k) e.1 q.1 (at_text k es) (find k qs) each.0.1 (found-shown k es qs each.1))
  found-shown k _ _ each = absurd each

  shown-in : (k : List ℕ) (es : List (String Global × X)) (v : Value) → MapMeans string_bytes S es v
      → Meet S (at_text k es) (find k (entries v))
  shown-in k es v (qs, each, is) =
      subst (λ ps. Meet S (at_text k es) (find k ps)) (sym (ap entries is ∙ pairs-of qs)) (found-shown k es qs each)

  -- if what the values show is taken, so is what the map shows
  pub taken-map : (P : Value → Type 0) → ((x : X) (v : Value) → S x v → P v) → (m : BTreeMap (String Global) X)
      (v : Value) → MapMeans string_bytes S m.entries v × IsOrdered string_cmp m → TakesEntries P v
  taken-map P taken m v (means, up) = (
    ap is_object means.2,
    λ k w at.
        let shown = meet-back S (at_text k m.entries) (find k (entries v)) w at (shown-in k m.entries v means) in
        taken shown.0 w shown.1,
  )

  read-back : (G : Value → X → Type 0) (E : X → X → Bool) → ((x y : X) (v : Value) → S x v → G v y → E y x ≡ true)
      → (o p : Option X) (s : Option Value) → Reads G E o s → Meet S p s → Meet (λ y x. E y x ≡ true) o p
  read-back G E back None None s f h = tt
  read-back G E back None (Some x) s f h = no-right S (Some x) s x refl f h
  read-back G E back (Some y) None s (w, at, g) h = no-left S None s w refl at h
  read-back G E back (Some y) (Some x) s (w, at, g) h = back x y w (meet-some S (Some x) s x w refl at h) g

  -- and it gives only equal maps, if that holds of the values
  pub back-map : (G : Value → X → Type 0) (E : X → X → Bool) → ((x y : X) (v : Value) → S x v → G v y → E y x ≡ true)
      → (m n : BTreeMap (String Global) X) (v : Value)
      → MapMeans string_bytes S m.entries v × IsOrdered string_cmp m
      → (is_object v ≡ true) × ReadsEntries G v (get_by_text n) × IsOrdered string_cmp n
      → pointwise (λ p q. string_eq p.0 q.0 && E p.1 q.1) n.entries m.entries ≡ true
  back-map G E back m n v (means, up) (is, g, above) =
      sorted-equal E n.entries m.entries above up
      (λ k. read-back G E back (get_by_text n k) (at_text k m.entries) (find k (entries v)) (g k)
      (shown-in k m.entries v means))
