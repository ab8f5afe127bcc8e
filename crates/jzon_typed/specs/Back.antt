-- What is written of a value is taken, and gives only results equal to it. (These are proofs; they are here because the
-- laws of `ReadsBack` cite them.)
use Rattle.std.specs.Prelude.{refl, List, [], ◌∷◌, string_bytes, ◌++◌, ◌≡◌, ◌<◌, ◌*◌, ◌^◌, ℕ, zero, suc, ℤ, pos, negsuc, neg_ℤ, Bool, true, false, ◌&&◌, Option, None, Some, is_some, IsSome, MatchOption, ◌⊎◌, FitsSigned, nat_eq, slice_get, encode_utf8}
use Rattle.std.specs.Char.{IsScalar}
use Rattle.std.specs.Cmp.Lexicographic.{pointwise}
use Rattle.std.specs.List.{AllZip}
use Rattle.std.specs.Option.{option_eq}
use Rattle.std.specs.Int.{Width}
use Rattle.std.specs.Bool.{beq}
use Rattle.std.specs.Cmp.{bool_eq_equiv, int_eq_equiv, nat_eq_equiv}
use Rattle.std.specs.Ordering.{int_eq}
use Rattle.std.proofs.Common.{sym, ap, ◌∙◌, subst, inl, inr, arith}
use Rattle.std.proofs.lemmas.Bool.{and_from, false≢true}
use Rattle.std.proofs.lemmas.Option.{none-some, same_Some}
use Rattle.std.proofs.lemmas.Slice.Eq.{bytes_eq-Decides}
use Rattle.std.proofs.lemmas.Str.{encode_same}
use Rattle.std.specs.Str.{bytes_eq}
use Rattle.std.specs.String.{string_eq}
use Rattle.std.specs.declared.alloc.Global.{Global}
use Rattle.std.specs.declared.string.String.{String}
use Rattle.jzon.specs.Decimal.{Decimal, integer_parts, same_decimal}
use Rattle.jzon.specs.IntoJson.{ListMeans, OptionMeans}
use Rattle.jzon.specs.JsonValue.{JsonValue}
use Rattle.jzon.specs.Readers.{count, entries, is_array, items, number_in, text_in, truth_in}
use Rattle.jzon.specs.PairList.{find}
use Rattle.jzon.specs.Same.{same}
use Rattle.jzon.specs.SameLaws.{same_equiv}
use Rattle.jzon.specs.Value.{Kind, Value, null, array, boolean, kind_of, number, text, list_of_values, values_of}
use Rattle.jzon.specs.View.{view}
use Rattle.jzon_typed.specs.DecodeFields.{HasEntry}
use Rattle.jzon_typed.specs.DecodeMaps.{IsArrayOf, IsOneChar, ReadsItem, TakesItem, TakesItems}
use Rattle.jzon_pointer.specs.Found.{may_be_cut}
use Rattle.jzon_typed.specs.Integers.{may_be_cut_in, natural_in, whole_in, IsNatural, IsNaturalBelow, IsWhole, IsWholeOf}

-- of what a boolean is written as, only an equal one is read
pub back-bool : (x y : Bool) (v : Value) → v ≡ boolean x → truth_in v ≡ Some y → beq y x ≡ true
back-bool x y v h g =
    let is : x ≡ y = same_Some x y (sym (ap truth_in h) ∙ g) in
    subst (λ (b : Bool). beq b x ≡ true) is (bool_eq_equiv.refl x)

-- and one is read
pub taken-bool : (x : Bool) (v : Value) → v ≡ boolean x → IsSome (truth_in v)
taken-bool x v h = ap (λ w. is_some (truth_in w)) h

-- the same of a number
pub back-number : (x y : Decimal) (v : Value) → v ≡ number x → number_in v ≡ Some y → same_decimal y x ≡ true
back-number x y v h g =
    let is : x ≡ y = same_Some x y (sym (ap number_in h) ∙ g) in
    subst (λ (d : Decimal). same_decimal d x ≡ true) is (same_equiv.refl (number x))

-- and one is read
pub taken-number : (x : Decimal) (v : Value) → v ≡ number x → IsSome (number_in v)
taken-number x v h = ap (λ w. is_some (number_in w)) h

-- of a value as it is, only an equal one is read
pub back-value : (x y : JsonValue) (v : Value) → v ≡ view x → view y ≡ v → same (view y) (view x) ≡ true
back-value x y v h g = subst (λ w. same w (view x) ≡ true) (sym (g ∙ h)) (same_equiv.refl (view x))

nat-read : (n : ℕ) → natural_in (number (integer_parts (pos n))) ≡ Some n
nat-read n = let one : n * 10 ^ 0 ≡ n = omega arith in ap (λ (m : ℕ). Some m) one

-- of an integer from 0 on
pub back-nat : (b x y : ℕ) (v : Value) → (v ≡ number (integer_parts (pos x))) × (x < b) → IsNatural v y
    → nat_eq y x ≡ true
back-nat b x y v h g =
    let is : x ≡ y = same_Some x y (sym (ap natural_in h.0 ∙ nat-read x) ∙ g.0) in
    subst (λ (n : ℕ). nat_eq n x ≡ true) is (nat_eq_equiv.refl x)

-- and one is read, if it is below the bound
pub taken-nat : (b x : ℕ) (v : Value) → (v ≡ number (integer_parts (pos x))) × (x < b) → IsNaturalBelow b v
taken-nat b x v h = (x, (ap natural_in h.0 ∙ nat-read x, ap may_be_cut_in h.0), h.1)

int-read : (n : ℤ) → whole_in (number (integer_parts n)) ≡ Some n
int-read (pos n) = let one : n * 10 ^ 0 ≡ n = omega arith in ap (λ (m : ℕ). Some (pos m)) one
int-read (negsuc n) = let one : suc n * 10 ^ 0 ≡ suc n = omega arith in ap (λ (m : ℕ). Some (neg_ℤ (pos m))) one

-- of an integer that may be negative
pub back-int : (w : Width) (x y : ℤ) (v : Value) → (v ≡ number (integer_parts x)) × FitsSigned w x → IsWhole v y
    → int_eq y x ≡ true
back-int w x y v h g =
    let is : x ≡ y = same_Some x y (sym (ap whole_in h.0 ∙ int-read x) ∙ g.0) in
    subst (λ (n : ℤ). int_eq n x ≡ true) is (int_eq_equiv.refl x)

uncut-int : (n : ℤ) → may_be_cut (integer_parts n) ≡ false
uncut-int (pos n) = refl
uncut-int (negsuc n) = refl

-- and one is read, if it fits
pub taken-int : (w : Width) (x : ℤ) (v : Value) → (v ≡ number (integer_parts x)) × FitsSigned w x → IsWholeOf w v
taken-int w x v h = (x, (ap whole_in h.0 ∙ int-read x, ap may_be_cut_in h.0 ∙ uncut-int x), h.1)

-- of a string
pub back-text : (x y : String Global) (v : Value) → v ≡ text (kind_of (string_bytes x)) (string_bytes x)
    → text_in v ≡ Some (string_bytes y) → string_eq y x ≡ true
back-text x y v h g =
    let is : string_bytes x ≡ string_bytes y = same_Some (string_bytes x) (string_bytes y) (sym (ap text_in h) ∙ g) in
    subst (λ (l : List ℕ). bytes_eq l (string_bytes x) ≡ true) is ((bytes_eq-Decides (string_bytes x) (string_bytes x)).1 refl)

-- and one is read
pub taken-text : (x : String Global) (v : Value) → v ≡ text (kind_of (string_bytes x)) (string_bytes x) → IsSome (text_in v)
taken-text x v h = ap (λ w. is_some (text_in w)) h

-- of a character
pub back-char : (x y : ℕ) (v : Value) → (v ≡ text (kind_of (encode_utf8 x)) (encode_utf8 x)) × IsScalar x
    → text_in v ≡ Some (encode_utf8 y) → nat_eq y x ≡ true
back-char x y v h g =
    let same = same_Some (encode_utf8 x) (encode_utf8 y) (sym (ap text_in h.0) ∙ g) in
    let is : x ≡ y = (encode_same x y [] [] (ap (λ (l : List ℕ). l ++ []) same)).0 in
    subst (λ (n : ℕ). nat_eq n x ≡ true) is (nat_eq_equiv.refl x)

-- and one is read
pub taken-char : (x : ℕ) (v : Value) → (v ≡ text (kind_of (encode_utf8 x)) (encode_utf8 x)) × IsScalar x → IsOneChar v
taken-char x v h = (x, h.1, ap text_in h.0)

-- ---- lists

items-of : (vs : List Value) → list_of_values (values_of vs) ≡ vs
items-of [] = refl
items-of (v ∷ vs) = ap (λ ws. v ∷ ws) (items-of vs)

module _ {X : Type 0} (S : X → Value → Type 0) where
  zip-back : (G : Value → X → Type 0) (E : X → X → Bool) → ((x y : X) (v : Value) → S x v → G v y → E y x ≡ true)
      → (xs ys : List X) (vs : List Value) → AllZip S xs vs → AllZip G vs ys → pointwise E ys xs ≡ true
  zip-back G E back [] [] [] s g = refl
  zip-back G E back [] (y ∷ ys) [] s g = absurd g
  zip-back G E back [] ys (v ∷ vs) s g = absurd s
  zip-back G E back (x ∷ xs) ys [] s g = absurd s
  zip-back G E back (x ∷ xs) [] (v ∷ vs) s g = absurd g
  zip-back G E back (x ∷ xs) (y ∷ ys) (v ∷ vs) s g =
      and_from (E y x) (pointwise E ys xs) (back x y v s.0 g.0) (zip-back G E back xs ys vs s.1 g.1)

  -- of a list, if it holds of its elements
  pub back-list : (G : Value → X → Type 0) (E : X → X → Bool)
      → ((x y : X) (v : Value) → S x v → G v y → E y x ≡ true) → (xs ys : List X) (v : Value) → ListMeans S xs v
      → (is_array v ≡ true) × AllZip G (items v) ys → pointwise E ys xs ≡ true
  back-list G E back xs ys v (vs, is, each) g =
      zip-back G E back xs ys vs each (subst (λ l. AllZip G l ys) (ap items is ∙ items-of vs) g.1)

  zip-taken : (P : Value → Type 0) → ((x : X) (v : Value) → S x v → P v) → (xs : List X) (vs : List Value)
      → AllZip S xs vs → (i : ℕ) (w : Value) → slice_get vs i ≡ Some w → P w
  zip-taken P taken [] [] each i w at = absurd (none-some w at)
  zip-taken P taken [] (v ∷ vs) each i w at = absurd each
  zip-taken P taken (x ∷ xs) [] each i w at = absurd each
  zip-taken P taken (x ∷ xs) (v ∷ vs) each zero w at = subst P (same_Some v w at) (taken x v each.0)
  zip-taken P taken (x ∷ xs) (v ∷ vs) each (suc i) w at = zip-taken P taken xs vs each.1 i w at

  -- and one is read
  pub taken-list : (P : Value → Type 0) → ((x : X) (v : Value) → S x v → P v) → (xs : List X) (v : Value)
      → ListMeans S xs v → TakesItems P v
  taken-list P taken xs v (vs, is, each) = (
    ap is_array is,
    λ i w at. zip-taken P taken xs vs each i w (sym (ap (λ l. slice_get l i) (ap items is ∙ items-of vs)) ∙ at),
  )

  -- ---- an option, if nothing is written as null

  -- of an option, if it holds of what is inside
  pub back-option : (G : Value → X → Type 0) (E : X → X → Bool)
      → ((x y : X) (v : Value) → S x v → G v y → E y x ≡ true) → ((x : X) → S x null → ⊥) → (x y : Option X) (v : Value)
      → OptionMeans S x v → MatchOption y (v ≡ null) (λ z. (v ≡ null → ⊥) × G v z) → option_eq E y x ≡ true
  back-option G E back never None None v s g = refl
  back-option G E back never None (Some y) v s g = absurd (g.0 s)
  back-option G E back never (Some x) None v s g = absurd (never x (subst (S x) g s))
  back-option G E back never (Some x) (Some y) v s g = back x y v s g.1

  -- and one is read
  pub taken-option : (P : Value → Type 0) → ((x : X) (v : Value) → S x v → P v) → (x : Option X) (v : Value)
      → OptionMeans S x v → (v ≡ null) ⊎ P v
  taken-option P taken None v s = inl s
  taken-option P taken (Some x) v s = inr (taken x v s)

-- ---- pairs

-- what the element at an index shows is taken
item-taken : {X : Type 0} (S : X → Value → Type 0) (P : Value → Type 0) → ((x : X) (v : Value) → S x v → P v) → (x : X)
    (v w : Value) (vs : List Value) (i : ℕ) → v ≡ array (values_of vs) → slice_get vs i ≡ Some w → S x w
    → TakesItem v i P
item-taken S P taken x v w vs i is at shown =
    (w, ap (λ l. slice_get l i) (ap items is ∙ items-of vs) ∙ at, taken x w shown)

-- and gives only results equal to it
item-back : {X : Type 0} (S : X → Value → Type 0) (G : Value → X → Type 0) (E : X → X → Bool)
    → ((x y : X) (v : Value) → S x v → G v y → E y x ≡ true) → (x y : X) (v w : Value) (vs : List Value) (i : ℕ)
    → v ≡ array (values_of vs) → slice_get vs i ≡ Some w → S x w → ReadsItem v i G y → E y x ≡ true
item-back S G E back x y v w vs i is at shown (u, there, given) =
    let here : slice_get (items v) i ≡ Some w = ap (λ l. slice_get l i) (ap items is ∙ items-of vs) ∙ at in
    back x y w shown (subst (λ k. G k y) (same_Some u w (sym there ∙ here)) given)

module _ {X Y : Type 0} (S : X → Value → Type 0) (T : Y → Value → Type 0) where
  -- of a pair, if it holds of both
  pub back-pair : (G : Value → X → Type 0) (E : X → X → Bool) → ((x y : X) (v : Value) → S x v → G v y → E y x ≡ true)
      → (H : Value → Y → Type 0) (F : Y → Y → Bool) → ((x y : Y) (v : Value) → T x v → H v y → F y x ≡ true)
      → (p q : X × Y) (v : Value)
      → (x y : Value) × S p.0 x × T p.1 y × (v ≡ array (values_of (x ∷ y ∷ [])))
      → IsArrayOf 2 v × ReadsItem v 0 G q.0 × ReadsItem v 1 H q.1 → (E q.0 p.0 && F q.1 p.1) ≡ true
  back-pair G E back H F back' p q v (x, y, s, t, is) (two, g, h) =
      and_from (E q.0 p.0) (F q.1 p.1) (item-back S G E back p.0 q.0 v x (x ∷ y ∷ []) 0 is refl s g)
      (item-back T H F back' p.1 q.1 v y (x ∷ y ∷ []) 1 is refl t h)

  -- and one is read
  pub taken-pair : (P : Value → Type 0) → ((x : X) (v : Value) → S x v → P v) → (Q : Value → Type 0)
      → ((x : Y) (v : Value) → T x v → Q v) → (p : X × Y) (v : Value)
      → (x y : Value) × S p.0 x × T p.1 y × (v ≡ array (values_of (x ∷ y ∷ [])))
      → IsArrayOf 2 v × TakesItem v 0 P × TakesItem v 1 Q
  taken-pair P taken Q taken' p v (x, y, s, t, is) = (
    (ap is_array is, ap count is),
    item-taken S P taken p.0 v x (x ∷ y ∷ []) 0 is refl s,
    item-taken T Q taken' p.1 v y (x ∷ y ∷ []) 1 is refl t,
  )

module _ {X Y Z : Type 0} (S : X → Value → Type 0) (T : Y → Value → Type 0) (U : Z → Value → Type 0) where
  -- of a triple, if it holds of all three
  pub back-triple : (G : Value → X → Type 0) (E : X → X → Bool) → ((x y : X) (v : Value) → S x v → G v y → E y x ≡ true)
      → (H : Value → Y → Type 0) (F : Y → Y → Bool) → ((x y : Y) (v : Value) → T x v → H v y → F y x ≡ true)
      → (I : Value → Z → Type 0) (D : Z → Z → Bool) → ((x y : Z) (v : Value) → U x v → I v y → D y x ≡ true)
      → (p q : X × Y × Z) (v : Value)
      → (x y z : Value) × S p.0 x × T p.1 y × U p.2 z × (v ≡ array (values_of (x ∷ y ∷ z ∷ [])))
      → IsArrayOf 3 v × ReadsItem v 0 G q.0 × ReadsItem v 1 H q.1 × ReadsItem v 2 I q.2
      → ((E q.0 p.0 && F q.1 p.1) && D q.2 p.2) ≡ true
  back-triple G E one H F two I D three p q v (x, y, z, s, t, u, is) (len, g, h, i) =
      let vs = x ∷ y ∷ z ∷ [] in
      and_from (E q.0 p.0 && F q.1 p.1) (D q.2 p.2)
      (and_from (E q.0 p.0) (F q.1 p.1) (item-back S G E one p.0 q.0 v x vs 0 is refl s g)
      (item-back T H F two p.1 q.1 v y vs 1 is refl t h))
      (item-back U I D three p.2 q.2 v z vs 2 is refl u i)

  -- and one is read
  pub taken-triple : (P : Value → Type 0) → ((x : X) (v : Value) → S x v → P v) → (Q : Value → Type 0)
      → ((x : Y) (v : Value) → T x v → Q v) → (R : Value → Type 0) → ((x : Z) (v : Value) → U x v → R v)
      → (p : X × Y × Z) (v : Value)
      → (x y z : Value) × S p.0 x × T p.1 y × U p.2 z × (v ≡ array (values_of (x ∷ y ∷ z ∷ [])))
      → IsArrayOf 3 v × TakesItem v 0 P × TakesItem v 1 Q × TakesItem v 2 R
  taken-triple P one Q two R three p v (x, y, z, s, t, u, is) =
      let vs = x ∷ y ∷ z ∷ [] in (
        (ap is_array is, ap count is),
        item-taken S P one p.0 v x vs 0 is refl s,
        item-taken T Q two p.1 v y vs 1 is refl t,
        item-taken U R three p.2 v z vs 2 is refl u,
      )

-- ---- what isn't null

abbrev is_not_null : Value → Bool
is_not_null null = false
is_not_null v = true

null-not : (v : Value) → is_not_null v ≡ true → null ≡ v → ⊥
null-not v h e = false≢true (ap is_not_null e ∙ h)

-- a number isn't null
pub no-number : (d : Decimal) → null ≡ number d → ⊥
no-number d = null-not (number d) refl

-- nor is a boolean
pub no-boolean : (b : Bool) → null ≡ boolean b → ⊥
no-boolean b = null-not (boolean b) refl

-- nor a string
pub no-text : (k : Kind) (s : List ℕ) → null ≡ text k s → ⊥
no-text k s = null-not (text k s) refl

-- nor an array, and so neither a pair nor a triple
pub no-array : (vs : List Value) → null ≡ array (values_of vs) → ⊥
no-array vs = null-not (array (values_of vs)) refl

-- nor what a list means
pub no-list : {X : Type 0} (S : X → Value → Type 0) (xs : List X) → ListMeans S xs null → ⊥
no-list S xs (vs, is, each) = no-array vs is

-- ---- the entries of an object

same_entry : (o : Option Value) (v w : Value) → o ≡ Some v → o ≡ Some w → v ≡ w
same_entry o v w h g = same_Some v w (sym h ∙ g)

-- what an entry shows is taken
pub entry-taken : {X : Type 0} (S : X → Value → Type 0) (P : Value → Type 0) → ((x : X) (v : Value) → S x v → P v) → (x : X)
    (v : Value) (key : List ℕ) → HasEntry v key (S x) → HasEntry v key P
entry-taken S P taken x v key (w, at, shown) = (w, at, taken x w shown)

-- what an entry shows gives only results equal to it
pub entry-back : {X : Type 0} (S : X → Value → Type 0) (G : Value → X → Type 0) (E : X → X → Bool)
    → ((x y : X) (v : Value) → S x v → G v y → E y x ≡ true) → (x y : X) (v : Value) (key : List ℕ)
    → HasEntry v key (S x) → HasEntry v key (λ w. G w y) → E y x ≡ true
entry-back S G E back x y v key (w, at, shown) (u, there, given) =
    back x y w shown (subst (λ k. G k y) (same_entry (find key (entries v)) u w there at) given)
