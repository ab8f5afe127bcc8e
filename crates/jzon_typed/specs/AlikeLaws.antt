-- Equal values give equal results, and where no digit may have been cut, one is taken if the other is. (These are
-- proofs; they are here because the laws of `ReadsAlike` cite them.)
use Rattle.std.specs.Prelude.{refl, List, [], ◌∷◌, ◌++◌, ◌≡◌, ℕ, ℤ, zero, suc, Bool, true, false, ◌&&◌, Option, None, Some, IsSome, MatchOption, ◌⊎◌, length, nat_eq, option_and_then, slice_get, encode_utf8, string_bytes}
use Rattle.std.specs.Bool.{beq}
use Rattle.std.specs.Cmp.{bool_eq_equiv, booleans_Decides, int_eq_equiv, nat_eq_equiv}
use Rattle.std.specs.Cmp.Lexicographic.{pointwise}
use Rattle.std.specs.Int.{Width}
use Rattle.std.specs.List.{AllZip}
use Rattle.std.specs.Option.{is_some, option_eq}
use Rattle.std.specs.Ordering.{int_eq}
use Rattle.std.specs.String.{string_eq}
use Rattle.std.specs.declared.alloc.Global.{Global}
use Rattle.std.specs.declared.string.String.{String}
use Rattle.std.proofs.Common.{sym, ap, ◌∙◌, subst, inl, inr}
use Rattle.std.proofs.lemmas.Bool.{and_from, and_parts, false≢true}
use Rattle.std.proofs.lemmas.Option.{none-some, same_Some}
use Rattle.std.proofs.lemmas.Str.{encode_same}
use Rattle.std.proofs.lemmas.Slice.Eq.{bytes_eq-Decides}
use Rattle.jzon.specs.Decimal.{Decimal, same_decimal}
use Rattle.jzon.specs.JsonValue.{JsonValue}
use Rattle.jzon.specs.Lawful.{IsValue, AreValues}
use Rattle.jzon.specs.Readers.{is_array, is_null, is_object, items, number_in, text_in, truth_in}
use Rattle.jzon.specs.Same.{same, same_items}
use Rattle.jzon.specs.SameLaws.{same_equiv}
use Rattle.jzon.specs.Value.{Kind, Value, null, boolean, text, number, array, object, Values, no_values, value, ValuePairs}
use Rattle.jzon.specs.Value.{list_of_values}
use Rattle.jzon.specs.View.{view}
use Rattle.jzon_typed.specs.Alike.{AlikeBy, AreAlike, IsUncut, AreUncut, TakenAlike}
use Rattle.jzon_typed.specs.DecodeMaps.{IsArrayOf, IsOneChar, ReadsItem, TakesItem, TakesItems}
use Rattle.jzon_typed.specs.Integers.{EqualIntegers, may_be_cut_in, natural_of, whole_in, IsNatural, IsNaturalBelow, IsWhole, IsWholeOf}

-- ---- what holds of equal values, by their kind

-- a statement of two equal values, from what it says of each kind
module _ (P : Value → Value → Type 0) where
  -- then it holds of any two that are equal
  pub by-same : P null null → ((b : Bool) → P (boolean b) (boolean b)) → ((j k : Kind) (s : List ℕ) → P (text j s) (text k s))
      → ((d e : Decimal) → same_decimal d e ≡ true → P (number d) (number e))
      → ((vs ws : Values) → same_items vs ws ≡ true → P (array vs) (array ws))
      → ((ps qs : ValuePairs) → same (object ps) (object qs) ≡ true → P (object ps) (object qs))
      → (v w : Value) → same v w ≡ true → P v w
  by-same n b t d a o null null h = n
  by-same n b t d a o (boolean x) (boolean y) h =
      subst (λ (z : Bool). P (boolean x) (boolean z)) ((booleans_Decides x y).0 h) (b x)
  by-same n b t d a o (text j s) (text k u) h =
      subst (λ (z : List ℕ). P (text j s) (text k z)) ((bytes_eq-Decides s u).0 h) (t j k s)
  by-same n b t d a o (number x) (number y) h = d x y h
  by-same n b t d a o (array vs) (array ws) h = a vs ws h
  by-same n b t d a o (object ps) (object qs) h = o ps qs h
  by-same _ _ _ _ _ _ _ _ h = absurd (false≢true h)

-- what equal values have in common
abbrev pub outline : Value → Bool × Bool × Bool × Option Bool × Option (List ℕ)
outline v = (is_null v, is_array v, is_object v, truth_in v, text_in v)

-- it is the same
pub outlined : (v w : Value) → same v w ≡ true → outline v ≡ outline w
outlined = by-same (λ v w. outline v ≡ outline w) refl (λ b. refl) (λ j k s. refl) (λ d e h. refl) (λ vs ws h. refl)
    (λ ps qs h. refl)

-- the other way round
pub swap : (v w : Value) → AreAlike v w → AreAlike w v
swap v w h = (sym (same_equiv.symm v w) ∙ h.0, h.2, h.1)

-- ---- booleans, strings, numbers and values

-- equal values give the same boolean
pub alike-bool : (x y : Bool) (v w : Value) → AreAlike v w → truth_in v ≡ Some x → truth_in w ≡ Some y → beq x y ≡ true
alike-bool x y v w h f g =
    let is : x ≡ y = same_Some x y (sym f ∙ ap (λ o. o.3) (outlined v w h.0) ∙ g) in
    subst (λ (b : Bool). beq x b ≡ true) is (bool_eq_equiv.refl x)

-- and one is taken if the other is
pub taken-alike-bool : (v w : Value) → AreAlike v w → IsUncut w → IsSome (truth_in v) → IsSome (truth_in w)
taken-alike-bool v w h cut taken = ap (λ o. is_some o.3) (sym (outlined v w h.0)) ∙ taken

-- the same of a string
pub alike-text : (x y : String Global) (v w : Value) → AreAlike v w → text_in v ≡ Some (string_bytes x)
    → text_in w ≡ Some (string_bytes y) → string_eq x y ≡ true
alike-text x y v w h f g =
    (bytes_eq-Decides (string_bytes x) (string_bytes y)).1
    (same_Some (string_bytes x) (string_bytes y) (sym f ∙ ap (λ o. o.4) (outlined v w h.0) ∙ g))

-- and one is taken if the other is
pub taken-alike-text : (v w : Value) → AreAlike v w → IsUncut w → IsSome (text_in v) → IsSome (text_in w)
taken-alike-text v w h cut taken = ap (λ o. is_some o.4) (sym (outlined v w h.0)) ∙ taken

-- the same of a character
pub alike-char : (x y : ℕ) (v w : Value) → AreAlike v w → text_in v ≡ Some (encode_utf8 x)
    → text_in w ≡ Some (encode_utf8 y) → nat_eq x y ≡ true
alike-char x y v w h f g =
    let same = same_Some (encode_utf8 x) (encode_utf8 y) (sym f ∙ ap (λ o. o.4) (outlined v w h.0) ∙ g) in
    let is : x ≡ y = (encode_same x y [] [] (ap (λ (l : List ℕ). l ++ []) same)).0 in
    subst (λ (n : ℕ). nat_eq x n ≡ true) is (nat_eq_equiv.refl x)

-- and one is taken if the other is
pub taken-alike-char : (v w : Value) → AreAlike v w → IsUncut w → IsOneChar v → IsOneChar w
taken-alike-char v w h cut (c, scalar, is) = (c, scalar, ap (λ o. o.4) (sym (outlined v w h.0)) ∙ is)

abbrev NumbersAlike : Value → Value → Type 0
NumbersAlike v w = (x y : Decimal) → number_in v ≡ Some x → number_in w ≡ Some y → same_decimal x y ≡ true

numbers-alike : (v w : Value) → same v w ≡ true → NumbersAlike v w
numbers-alike = by-same NumbersAlike (λ x y f g. absurd (none-some x f)) (λ b x y f g. absurd (none-some x f))
    (λ j k s x y f g. absurd (none-some x f))
    (λ d e h x y f g.
    subst (λ (z : Decimal). same_decimal z y ≡ true) (same_Some d x f)
    (subst (λ (z : Decimal). same_decimal d z ≡ true) (same_Some e y g) h))
    (λ vs ws h x y f g. absurd (none-some x f)) (λ ps qs h x y f g. absurd (none-some x f))

-- the same of a number
pub alike-number : (x y : Decimal) (v w : Value) → AreAlike v w → number_in v ≡ Some x → number_in w ≡ Some y
    → same_decimal x y ≡ true
alike-number x y v w h f g = numbers-alike v w h.0 x y f g

are-numbers : (v w : Value) → same v w ≡ true → is_some (number_in v) ≡ is_some (number_in w)
are-numbers = by-same (λ v w. is_some (number_in v) ≡ is_some (number_in w)) refl (λ b. refl) (λ j k s. refl)
    (λ d e h. refl) (λ vs ws h. refl) (λ ps qs h. refl)

-- and one is taken if the other is
pub taken-alike-number : (v w : Value) → AreAlike v w → IsUncut w → IsSome (number_in v) → IsSome (number_in w)
taken-alike-number v w h cut taken = sym (are-numbers v w h.0) ∙ taken

-- of a value as it is
pub alike-value : (x y : JsonValue) (v w : Value) → AreAlike v w → view x ≡ v → view y ≡ w → same (view x) (view y) ≡ true
alike-value x y v w h f g =
    subst (λ (k : Value). same k (view y) ≡ true) (sym f) (subst (λ (k : Value). same v k ≡ true) (sym g) h.0)

-- ---- integers

whole-alike : EqualIntegers → (v w : Value) → same v w ≡ true → IsValue v → IsValue w → whole_in v ≡ whole_in w
whole-alike equal = by-same (λ v w. IsValue v → IsValue w → whole_in v ≡ whole_in w) (λ f g. refl) (λ b f g. refl)
    (λ j k s f g. refl) (λ d e h f g. equal d e f g h) (λ vs ws h f g. refl) (λ ps qs h f g. refl)

uncut-number : (v : Value) → IsUncut v → may_be_cut_in v ≡ false
uncut-number null h = refl
uncut-number (boolean b) h = refl
uncut-number (text k s) h = refl
uncut-number (number n) h = h
uncut-number (array vs) h = refl
uncut-number (object ps) h = refl

-- equal values give the same integer from 0 on
pub alike-nat : EqualIntegers → (x y : ℕ) (v w : Value) → AreAlike v w → IsNatural v x → IsNatural w y → nat_eq x y ≡ true
alike-nat equal x y v w h f g =
    let is : x ≡ y = same_Some x y (sym f.0 ∙ ap (option_and_then natural_of) (whole-alike equal v w h.0 h.1 h.2) ∙ g.0) in
    subst (λ (n : ℕ). nat_eq x n ≡ true) is (nat_eq_equiv.refl x)

-- and one is taken if the other is
pub taken-alike-nat : (b : ℕ) → EqualIntegers → (v w : Value) → AreAlike v w → IsUncut w → IsNaturalBelow b v → IsNaturalBelow b w
taken-alike-nat b equal v w h cut (n, is, below) =
    (n, (sym (ap (option_and_then natural_of) (whole-alike equal v w h.0 h.1 h.2)) ∙ is.0, uncut-number w cut), below)

-- the same of an integer that may be negative
pub alike-int : EqualIntegers → (x y : ℤ) (v w : Value) → AreAlike v w → IsWhole v x → IsWhole w y → int_eq x y ≡ true
alike-int equal x y v w h f g =
    let is : x ≡ y = same_Some x y (sym f.0 ∙ whole-alike equal v w h.0 h.1 h.2 ∙ g.0) in
    subst (λ (n : ℤ). int_eq x n ≡ true) is (int_eq_equiv.refl x)

-- and one is taken if the other is
pub taken-alike-int : (m : Width) → EqualIntegers → (v w : Value) → AreAlike v w → IsUncut w → IsWholeOf m v → IsWholeOf m w
taken-alike-int m equal v w h cut (n, is, fits) =
    (n, (sym (whole-alike equal v w h.0 h.1 h.2) ∙ is.0, uncut-number w cut), fits)

-- ---- what the elements of equal arrays have in common

zipped-by : (vs ws : Values) → same_items vs ws ≡ true → AreValues vs → AreValues ws
    → AllZip AreAlike (list_of_values vs) (list_of_values ws)
zipped-by no_values no_values h f g = tt
zipped-by (value v vs) (value w ws) h f g =
    let both = and_parts (same v w) (same_items vs ws) h in
    ((both.0, f.0, g.0), zipped-by vs ws both.1 f.1 g.1)
zipped-by _ _ h f g = absurd (false≢true h)

zipped-in : (v w : Value) → same v w ≡ true → IsValue v → IsValue w → AllZip AreAlike (items v) (items w)
zipped-in = by-same (λ v w. IsValue v → IsValue w → AllZip AreAlike (items v) (items w)) (λ f g. tt) (λ b f g. tt)
    (λ j k s f g. tt) (λ d e h f g. tt) zipped-by (λ ps qs h f g. tt)

zipped : (v w : Value) → AreAlike v w → AllZip AreAlike (items v) (items w)
zipped v w h = zipped-in v w h.0 h.1 h.2

-- an element has one that is like it at the same index
at-index : (vs ws : List Value) → AllZip AreAlike vs ws → (i : ℕ) (v : Value) → slice_get vs i ≡ Some v
    → (w : Value) × (slice_get ws i ≡ Some w) × AreAlike v w
at-index [] [] each i v at = absurd (none-some v at)
at-index [] (w ∷ ws) each i v at = absurd each
at-index (u ∷ vs) [] each i v at = absurd each
at-index (u ∷ vs) (w ∷ ws) each zero v at = (w, refl, subst (λ (k : Value). AreAlike k w) (same_Some u v at) each.0)
at-index (u ∷ vs) (w ∷ ws) each (suc i) v at = at-index vs ws each.1 i v at

uncut-at : (vs : Values) → AreUncut vs → (i : ℕ) (v : Value) → slice_get (list_of_values vs) i ≡ Some v → IsUncut v
uncut-at no_values cut i v at = absurd (none-some v at)
uncut-at (value u vs) cut zero v at = subst IsUncut (same_Some u v at) cut.0
uncut-at (value u vs) cut (suc i) v at = uncut-at vs cut.1 i v at

uncut-item : (v : Value) → IsUncut v → (i : ℕ) (u : Value) → slice_get (items v) i ≡ Some u → IsUncut u
uncut-item (array vs) cut i u at = uncut-at vs cut i u at
uncut-item null cut i u at = absurd (none-some u at)
uncut-item (boolean b) cut i u at = absurd (none-some u at)
uncut-item (text k s) cut i u at = absurd (none-some u at)
uncut-item (number n) cut i u at = absurd (none-some u at)
uncut-item (object ps) cut i u at = absurd (none-some u at)

as-many-by : (vs ws : Values) → same_items vs ws ≡ true → length (list_of_values vs) ≡ length (list_of_values ws)
as-many-by no_values no_values h = refl
as-many-by (value v vs) (value w ws) h =
    ap (λ (n : ℕ). suc n) (as-many-by vs ws (and_parts (same v w) (same_items vs ws) h).1)
as-many-by _ _ h = absurd (false≢true h)

as-many : (v w : Value) → same v w ≡ true → (n : ℕ) → IsArrayOf n v → IsArrayOf n w
as-many = by-same (λ v w. (n : ℕ) → IsArrayOf n v → IsArrayOf n w) (λ n f. absurd (false≢true f.0))
    (λ b n f. absurd (false≢true f.0)) (λ j k s n f. absurd (false≢true f.0)) (λ d e h n f. absurd (false≢true f.0))
    (λ vs ws h n f. (refl, sym (as-many-by vs ws h) ∙ f.1)) (λ ps qs h n f. absurd (false≢true f.0))

-- ---- of a container, if it holds of its content

taken-item : (P : Value → Type 0) → TakenAlike P → (v w : Value) (i : ℕ) → AreAlike v w → IsUncut w → TakesItem v i P
    → TakesItem w i P
taken-item P taken v w i h cut (u, at, holds) =
    let there = at-index (items v) (items w) (zipped v w h) i u at in
    (there.0, there.1, taken u there.0 there.2 (uncut-item w cut i there.0 there.1) holds)

-- if a list's elements are taken alike, so is the list
pub taken-alike-list : (P : Value → Type 0) → TakenAlike P → TakenAlike (TakesItems P)
taken-alike-list P taken v w h cut (is, each) = (
  ap (λ o. o.1) (sym (outlined v w h.0)) ∙ is,
  λ i u at.
      let there = at-index (items w) (items v) (zipped w v (swap v w h)) i u at in
      taken there.0 u (swap u there.0 there.2) (uncut-item w cut i u at) (each i there.0 there.1),
)

-- the value is null if the reader says so
pub null-is : (v : Value) → is_null v ≡ true → v ≡ null
null-is null h = refl
null-is (boolean b) h = absurd (false≢true h)
null-is (text k s) h = absurd (false≢true h)
null-is (number n) h = absurd (false≢true h)
null-is (array vs) h = absurd (false≢true h)
null-is (object ps) h = absurd (false≢true h)

null-alike : (v w : Value) → AreAlike v w → v ≡ null → w ≡ null
null-alike v w h is = null-is w (ap (λ o. o.0) (sym (outlined v w h.0)) ∙ ap is_null is)

-- of an option, if of what is inside
pub taken-alike-option : (P : Value → Type 0) → TakenAlike P → TakenAlike (λ v. (v ≡ null) ⊎ P v)
taken-alike-option P taken v w h cut (inl is) = inl (null-alike v w h is)
taken-alike-option P taken v w h cut (inr holds) = inr (taken v w h cut holds)

-- of a pair, if of both
pub taken-alike-pair : (P Q : Value → Type 0) → TakenAlike P → TakenAlike Q
    → TakenAlike (λ v. IsArrayOf 2 v × TakesItem v 0 P × TakesItem v 1 Q)
taken-alike-pair P Q one two v w h cut (len, a, b) =
    (as-many v w h.0 2 len, taken-item P one v w 0 h cut a, taken-item Q two v w 1 h cut b)

-- of a triple, if of all three
pub taken-alike-triple : (P Q R : Value → Type 0) → TakenAlike P → TakenAlike Q → TakenAlike R
    → TakenAlike (λ v. IsArrayOf 3 v × TakesItem v 0 P × TakesItem v 1 Q × TakesItem v 2 R)
taken-alike-triple P Q R one two three v w h cut (len, a, b, c) = (
  as-many v w h.0 3 len,
  taken-item P one v w 0 h cut a,
  taken-item Q two v w 1 h cut b,
  taken-item R three v w 2 h cut c,
)

module _ {X : Type 0} (G : Value → X → Type 0) (E : X → X → Bool) (alike : AlikeBy G E) where
  zip-alike : (vs ws : List Value) (xs ys : List X) → AllZip AreAlike vs ws → AllZip G vs xs → AllZip G ws ys
      → pointwise E xs ys ≡ true
  zip-alike [] [] [] [] s g h = refl
  zip-alike [] [] [] (y ∷ ys) s g h = absurd h
  zip-alike [] [] (x ∷ xs) ys s g h = absurd g
  zip-alike [] (w ∷ ws) xs ys s g h = absurd s
  zip-alike (v ∷ vs) [] xs ys s g h = absurd s
  zip-alike (v ∷ vs) (w ∷ ws) [] ys s g h = absurd g
  zip-alike (v ∷ vs) (w ∷ ws) (x ∷ xs) [] s g h = absurd h
  zip-alike (v ∷ vs) (w ∷ ws) (x ∷ xs) (y ∷ ys) s g h =
      and_from (E x y) (pointwise E xs ys) (alike x y v w s.0 g.0 h.0) (zip-alike vs ws xs ys s.1 g.1 h.1)

  -- what is read of equal arrays is equal, if what is read of equal elements is
  pub alike-list : (xs ys : List X) (v w : Value) → AreAlike v w → (is_array v ≡ true) × AllZip G (items v) xs
      → (is_array w ≡ true) × AllZip G (items w) ys → pointwise E xs ys ≡ true
  alike-list xs ys v w h f g = zip-alike (items v) (items w) xs ys (zipped v w h) f.1 g.1

  -- of an option, if of what is inside
  pub alike-option : (x y : Option X) (v w : Value) → AreAlike v w
      → MatchOption x (v ≡ null) (λ z. (v ≡ null → ⊥) × G v z) → MatchOption y (w ≡ null) (λ z. (w ≡ null → ⊥) × G w z)
      → option_eq E x y ≡ true
  alike-option None None v w h f g = refl
  alike-option None (Some y) v w h f g = absurd (g.0 (null-alike v w h f))
  alike-option (Some x) None v w h f g = absurd (f.0 (null-alike w v (swap v w h) g))
  alike-option (Some x) (Some y) v w h f g = alike x y v w h f.1 g.1

  alike-item : (x y : X) (v w : Value) (i : ℕ) → AreAlike v w → ReadsItem v i G x → ReadsItem w i G y → E x y ≡ true
  alike-item x y v w i h (a, at, f) (b, here, g) =
      let there = at-index (items v) (items w) (zipped v w h) i a at in
      alike x y a b (subst (λ (k : Value). AreAlike a k) (same_Some there.0 b (sym there.1 ∙ here)) there.2) f g

module _ {X Y : Type 0} (G : Value → X → Type 0) (E : X → X → Bool) (one : AlikeBy G E) (H : Value → Y → Type 0)
    (F : Y → Y → Bool) (two : AlikeBy H F) where
  -- of a pair, if of both
  pub alike-pair : (p q : X × Y) (v w : Value) → AreAlike v w
      → IsArrayOf 2 v × ReadsItem v 0 G p.0 × ReadsItem v 1 H p.1
      → IsArrayOf 2 w × ReadsItem w 0 G q.0 × ReadsItem w 1 H q.1 → (E p.0 q.0 && F p.1 q.1) ≡ true
  alike-pair p q v w h (len, a, b) (len', c, d) =
      and_from (E p.0 q.0) (F p.1 q.1) (alike-item G E one p.0 q.0 v w 0 h a c)
      (alike-item H F two p.1 q.1 v w 1 h b d)

  -- of a triple, if of all three
  pub alike-triple : {Z : Type 0} (I : Value → Z → Type 0) (D : Z → Z → Bool) → AlikeBy I D → (p q : X × Y × Z)
      (v w : Value) → AreAlike v w
      → IsArrayOf 3 v × ReadsItem v 0 G p.0 × ReadsItem v 1 H p.1 × ReadsItem v 2 I p.2
      → IsArrayOf 3 w × ReadsItem w 0 G q.0 × ReadsItem w 1 H q.1 × ReadsItem w 2 I q.2
      → ((E p.0 q.0 && F p.1 q.1) && D p.2 q.2) ≡ true
  alike-triple I D three p q v w h (len, a, b, c) (len', d, e, f) =
      and_from (E p.0 q.0 && F p.1 q.1) (D p.2 q.2)
      (and_from (E p.0 q.0) (F p.1 q.1) (alike-item G E one p.0 q.0 v w 0 h a d) (alike-item H F two p.1 q.1 v w 1 h b e))
      (alike-item I D three p.2 q.2 v w 2 h c f)
