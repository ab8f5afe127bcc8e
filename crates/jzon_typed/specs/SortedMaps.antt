-- Maps in the order of their keys' texts are equal if they have equal values at each key. (These are proofs; they are
-- here because the laws of `ReadsBack` and `ReadsAlike` cite them.)
use Rattle.std.specs.Prelude.{refl, List, [], ◌∷◌, ◌≡◌, ℕ, Bool, true, false, ◌&&◌, Option, None, Some, string_bytes}
use Rattle.std.specs.List.{AllByRecursion}
use Rattle.std.specs.List.Sorted.{IsStrictlySortedBy}
use Rattle.std.specs.BTreeMap.{is_at}
use Rattle.std.specs.Map.{keys_of, lookup}
use Rattle.std.specs.Cmp.{tied_itself}
use Rattle.std.specs.Cmp.Lexicographic.{pointwise, slice_cmp, nat_list_cmp_total}
use Rattle.std.specs.Ordering.{nat_cmp, is_eq, ordering_reverse}
use Rattle.std.specs.String.{string_cmp, string_eq}
use Rattle.std.specs.declared.alloc.Global.{Global}
use Rattle.std.specs.declared.cmp.Ordering.{Ordering}
use Rattle.std.specs.declared.cmp.Ordering.TheVariants.{Less, Equal, Greater}
use Rattle.std.specs.declared.string.String.{String}
use Rattle.std.proofs.Common.{sym, ap, ◌∙◌, subst}
use Rattle.std.proofs.lemmas.Bool.{and_from}
use Rattle.std.proofs.lemmas.Map.Keys.{sorted_head, sorted_tail}
use Rattle.std.proofs.lemmas.Map.Text.{is_eq-slice_cmp}
use Rattle.std.proofs.lemmas.Slice.Eq.{bytes_eq-Decides}

-- the value at the key with these bytes
abbrev pub at_text : {X : Type 0} → List ℕ → List (String Global × X) → Option X
at_text k es = lookup (is_at (λ j. slice_cmp nat_cmp k (string_bytes j))) es

-- both are there, and this holds of them, or neither is
abbrev pub Meet : {X Y : Type 0} → (X → Y → Type 0) → Option X → Option Y → Type 0
Meet P None None = Unit {0}
Meet P None (Some y) = ⊥
Meet P (Some x) None = ⊥
Meet P (Some x) (Some y) = P x y

-- of what is there it holds
pub meet-some : {X Y : Type 0} (P : X → Y → Type 0) (o : Option X) (p : Option Y) (x : X) (y : Y) → o ≡ Some x → p ≡ Some y
    → Meet P o p → P x y
meet-some P o p x y is there h = subst (λ q. Meet P (Some x) q) there (subst (λ q. Meet P q p) is h)

-- it isn't so that only the right one is there
pub no-left : {X Y : Type 0} (P : X → Y → Type 0) (o : Option X) (p : Option Y) (y : Y) → o ≡ None → p ≡ Some y
    → Meet P o p → ⊥
no-left P o p y is there h = subst (λ q. Meet P None q) there (subst (λ q. Meet P q p) is h)

-- nor the left one alone
pub no-right : {X Y : Type 0} (P : X → Y → Type 0) (o : Option X) (p : Option Y) (x : X) → o ≡ Some x → p ≡ None
    → Meet P o p → ⊥
no-right P o p x there is h = subst (λ q. Meet P (Some x) q) is (subst (λ q. Meet P q p) there h)

-- the keys are above these bytes
abbrev Above : List ℕ → List (String Global) → Type 0
Above k ks = AllByRecursion (λ j. slice_cmp nat_cmp k (string_bytes j) ≡ Less) ks

above-more : (j k : List ℕ) → slice_cmp nat_cmp j k ≡ Less → (ks : List (String Global)) → Above k ks → Above j ks
above-more j k less [] h = tt
above-more j k less (l ∷ ks) h = (nat_list_cmp_total.trans j k (string_bytes l) less h.0, above-more j k less ks h.1)

same-text : (j k : List ℕ) → is_eq (slice_cmp nat_cmp j k) ≡ true → j ≡ k
same-text j k h = (bytes_eq-Decides j k).0 (sym (is_eq-slice_cmp j k) ∙ h)

module _ {X : Type 0} where
  none-below : (k : List ℕ) (es : List (String Global × X)) → Above k (keys_of es) → at_text k es ≡ None
  none-below k [] h = refl
  none-below k (e ∷ es) h = rw h.0 (none-below k es h.1)

  at-head : (k : List ℕ) (e : String Global × X) (es : List (String Global × X))
      → slice_cmp nat_cmp k (string_bytes e.0) ≡ Equal → at_text k (e ∷ es) ≡ Some e.1
  at-head k e es h = rw h refl

  at-own : (e : String Global × X) (es : List (String Global × X)) → at_text (string_bytes e.0) (e ∷ es) ≡ Some e.1
  at-own e es = at-head (string_bytes e.0) e es (tied_itself nat_list_cmp_total (string_bytes e.0))

  module _ (E : X → X → Bool) where
    -- at each key both have equal values, or neither has one
    abbrev pub AreTogether : List (String Global × X) → List (String Global × X) → Type 0
    AreTogether es fs = (k : List ℕ) → Meet (λ x y. E x y ≡ true) (at_text k es) (at_text k fs)

    same-first : (e f : String Global × X) (es fs : List (String Global × X)) (c : Ordering)
        → slice_cmp nat_cmp (string_bytes e.0) (string_bytes f.0) ≡ c → Above (string_bytes e.0) (keys_of es)
        → Above (string_bytes f.0) (keys_of fs) → AreTogether (e ∷ es) (f ∷ fs) → string_bytes e.0 ≡ string_bytes f.0
    same-first e f es fs Equal is up above h = same-text (string_bytes e.0) (string_bytes f.0) (ap is_eq is)
    same-first e f es fs Less is up above h =
        let k = string_bytes e.0 in
        let none = none-below k (f ∷ fs) (is, above-more k (string_bytes f.0) is (keys_of fs) above) in
        absurd (no-right (λ x y. E x y ≡ true) (at_text k (e ∷ es)) (at_text k (f ∷ fs)) e.1 (at-own e es) none (h k))
    same-first e f es fs Greater is up above h =
        let k = string_bytes f.0 in
        let less = nat_list_cmp_total.antisymm k (string_bytes e.0) ∙ ap ordering_reverse is in
        let none = none-below k (e ∷ es) (less, above-more k (string_bytes e.0) less (keys_of es) up) in
        absurd (no-left (λ x y. E x y ≡ true) (at_text k (e ∷ es)) (at_text k (f ∷ fs)) f.1 none (at-own f fs) (h k))

    tails-by : (b : Bool) (k : List ℕ) (e f : String Global × X) (es fs : List (String Global × X))
        → is_eq (slice_cmp nat_cmp k (string_bytes e.0)) ≡ b → string_bytes e.0 ≡ string_bytes f.0
        → Above (string_bytes e.0) (keys_of es) → Above (string_bytes f.0) (keys_of fs)
        → Meet (λ x y. E x y ≡ true) (at_text k (e ∷ es)) (at_text k (f ∷ fs))
        → Meet (λ x y. E x y ≡ true) (at_text k es) (at_text k fs)
    tails-by true k e f es fs is same up above h =
        let here : string_bytes e.0 ≡ k = sym (same-text k (string_bytes e.0) is) in
        let left = none-below k es (subst (λ j. Above j (keys_of es)) here up) in
        let right = none-below k fs (subst (λ j. Above j (keys_of fs)) (sym same ∙ here) above) in
        rw (left, right) tt
    tails-by false k e f es fs is same up above h =
        let other = ap (λ (j : List ℕ). is_eq (slice_cmp nat_cmp k j)) (sym same) ∙ is in
        rw (is, other) at h

    pub sorted-equal : (es fs : List (String Global × X)) → IsStrictlySortedBy string_cmp (keys_of es)
        → IsStrictlySortedBy string_cmp (keys_of fs) → AreTogether es fs
        → pointwise (λ p q. string_eq p.0 q.0 && E p.1 q.1) es fs ≡ true
    sorted-equal [] [] s t h = refl
    sorted-equal [] (f ∷ fs) s t h =
        absurd (no-left (λ x y. E x y ≡ true) None (at_text (string_bytes f.0) (f ∷ fs)) f.1 refl (at-own f fs)
        (h (string_bytes f.0)))
    sorted-equal (e ∷ es) [] s t h =
        absurd (no-right (λ x y. E x y ≡ true) (at_text (string_bytes e.0) (e ∷ es)) None e.1 (at-own e es) refl
        (h (string_bytes e.0)))
    sorted-equal (e ∷ es) (f ∷ fs) s t h =
        let k = string_bytes e.0 in
        let up = sorted_head string_cmp e.0 (keys_of es) s in
        let above = sorted_head string_cmp f.0 (keys_of fs) t in
        let first = same-first e f es fs (slice_cmp nat_cmp k (string_bytes f.0)) refl up above h in
        let there = ap (λ j. at_text j (f ∷ fs)) first ∙ at-own f fs in
        let value = meet-some (λ x y. E x y ≡ true) (at_text k (e ∷ es)) (at_text k (f ∷ fs)) e.1 f.1 (at-own e es) there (h k) in
        let rest = sorted-equal es fs (sorted_tail string_cmp e.0 (keys_of es) s) (sorted_tail string_cmp f.0 (keys_of fs) t)
        (λ j. tails-by (is_eq (slice_cmp nat_cmp j k)) j e f es fs refl first up above (h j)) in
        and_from (string_eq e.0 f.0 && E e.1 f.1) (pointwise (λ p q. string_eq p.0 q.0 && E p.1 q.1) es fs)
        (and_from (string_eq e.0 f.0) (E e.1 f.1) ((bytes_eq-Decides k (string_bytes f.0)).1 first) value) rest
