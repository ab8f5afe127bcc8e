-- The loops that compare two arrays and two objects.
use Rattle.jzon_base.proofs.Common.{◌≡◌, ◌⊎◌, ℕ, suc, ◌≤◌, Bool, true, false, List, [], ◌∷◌, length, cond, Option, Some}
use Rattle.jzon_base.proofs.Common.{None, option_map, is_some, refl, sym, ap, ◌∙◌, subst, inl, inr, arith, IsDistinct}
use Rattle.jzon_base.proofs.Common.{bytes_eq, false≢true, false_from_ne_true, IsDistinct-head, IsDistinct-tail}
use Rattle.jzon_base.proofs.Common.{none-some, same_Some, bytes_eq-Decides}
use denote.Param.Weighed.{most}
use Rattle.std.proofs.lemmas.Bool.{and_right}
use Rattle.jzon_base.specs.PairList.{find, keys_of, values_of}
use Rattle.jzon_tree.specs.Value.{Value, object}
use Rattle.jzon_tree.specs.Same.{same, same_items, passes}
use Rattle.jzon_tree.specs.SameLaws.{find-head, find-past, object-elim, object-intro, same_at}
use Rattle.jzon_tree.specs.View.{view, view_values, view_pairs}
use Rattle.jzon_tree.specs.declared.value.JsonValue.{JsonValue, size-JsonValue}
use Rattle.jzon_tree.proofs.Values.PairKeys.{IsWithin, found_apart, length-within, none_more}
use Rattle.jzon_tree.proofs.Values.Views.{view-find, most-rest}

-- ---- arrays

-- The elements vs and ws of two arrays are left, and all before them are equal.
pub record ComparedItems (items others vs ws : List JsonValue) : Type 0 where
  pub left : same_items (view_values items) (view_values others) ≡ same_items (view_values vs) (view_values ws)
  pub as_many : length vs ≡ length ws
  pub no_larger : most size-JsonValue vs ≤ most size-JsonValue items

pub lengths_differ : (vs ws : List JsonValue) → (length vs ≡ length ws → ⊥)
    → same_items (view_values vs) (view_values ws) ≡ false
lengths_differ [] [] h = absurd (h refl)
lengths_differ (v ∷ vs) (w ∷ ws) h = and_right _ _ (lengths_differ vs ws (λ e. h (ap suc e)))
lengths_differ _ _ h = refl

-- ---- objects

-- The entries rest of an object are left.
pub record LeftEntries (ps rest : List (List ℕ × JsonValue)) : Type 0 where
  pub inside : (k : List ℕ) (v : JsonValue) → find k rest ≡ Some v → find k ps ≡ Some v
  pub distinct : IsDistinct bytes_eq (keys_of rest)

-- The entries rest of an object are left, and all before them are in the other.
pub record ComparedPairs (ps qs rest : List (List ℕ × JsonValue)) : Type 0 where
  pub left : LeftEntries ps rest
  pub agreed : (k : List ℕ) (v : JsonValue) → find k ps ≡ Some v → (find k rest ≡ Some v)
      ⊎ (passes (same (view v)) (option_map view (find k qs)) ≡ true)
  pub no_larger : most size-JsonValue (values_of rest) ≤ most size-JsonValue (values_of ps)

-- the next of them is found by its key
pub next_found : (ps rest left : List (List ℕ × JsonValue)) (k : List ℕ) (v : JsonValue) → LeftEntries ps rest
    → rest ≡ (k, v) ∷ left → find k ps ≡ Some v
next_found ps rest left k v c e = c.inside k v (ap (find k) e ∙ find-head k v left)

pub none_left : (xs ys : List (List ℕ × JsonValue)) → length xs ≡ length ys → ys ≡ [] → xs ≡ []
none_left [] ys h e = refl
none_left (x ∷ xs) ys h e = absurd (omega (arith, ap (λ (zs : List (List ℕ × JsonValue)). length zs) e))

pub left_next : (ps rest left : List (List ℕ × JsonValue)) (k : List ℕ) (v : JsonValue) → LeftEntries ps rest
    → rest ≡ (k, v) ∷ left → LeftEntries ps left
left_next ps rest left k v c e =
    let keys : IsDistinct bytes_eq (keys_of ((k, v) ∷ left)) = subst
    (λ (xs : List (List ℕ × JsonValue)). IsDistinct bytes_eq (keys_of xs)) e c.distinct in
    record {
      inside = λ l w f.
          let apart = found_apart k l left (IsDistinct-head bytes_eq k (keys_of left) keys) (ap is_some f) in
          c.inside l w (ap (find l) e ∙ find-past k l v left apart ∙ f);
      distinct = IsDistinct-tail bytes_eq k (keys_of left) keys;
    }

abbrev same_pairs : List (List ℕ × JsonValue) → List (List ℕ × JsonValue) → Bool
same_pairs ps qs = same (object (view_pairs ps)) (object (view_pairs qs))

-- the two lookups of a key, in two equal objects
looked_up : (ps qs : List (List ℕ × JsonValue)) → same_pairs ps qs ≡ true → (k : List ℕ)
    → same_at (option_map view (find k ps)) (option_map view (find k qs)) ≡ true
looked_up ps qs h k = rw (view-find k ps, view-find k qs) (object-elim (view_pairs ps) (view_pairs qs) h k)

same_at-some : (o p : Option JsonValue) → same_at (option_map view o) (option_map view p) ≡ true → is_some o ≡ is_some p
same_at-some None None h = refl
same_at-some (Some v) (Some w) h = refl
same_at-some _ _ h = absurd (false≢true h)

same_keys : (ps qs : List (List ℕ × JsonValue)) → same_pairs ps qs ≡ true → (k : List ℕ)
    → is_some (find k ps) ≡ is_some (find k qs)
same_keys ps qs h k = same_at-some (find k ps) (find k qs) (looked_up ps qs h k)

pub counts_differ : (ps qs : List (List ℕ × JsonValue)) → IsDistinct bytes_eq (keys_of ps)
    → IsDistinct bytes_eq (keys_of qs) → (length ps ≡ length qs → ⊥) → same_pairs ps qs ≡ false
counts_differ ps qs d e h = false_from_ne_true (same_pairs ps qs) (λ s. h (omega (
  arith,
  length-within ps qs d (λ k there. sym (same_keys ps qs s k) ∙ there),
  length-within qs ps e (λ k there. same_keys ps qs s k ∙ there),
)))

pub value_differs : (ps qs rest left : List (List ℕ × JsonValue)) (k : List ℕ) (v : JsonValue)
    → ComparedPairs ps qs rest → rest ≡ (k, v) ∷ left → passes (same (view v)) (option_map view (find k qs)) ≡ false
    → same_pairs ps qs ≡ false
value_differs ps qs rest left k v c e h =
    let here : find k ps ≡ Some v = next_found ps rest left k v c.left e in
    false_from_ne_true (same_pairs ps qs) (λ s. false≢true (sym h ∙ (rw here at (looked_up ps qs s k))))

passed_at : (k l : List ℕ) (b : Bool) (v w : JsonValue) (qs : List (List ℕ × JsonValue)) (found : Option JsonValue)
    → bytes_eq k l ≡ b → passes (same (view v)) (option_map view (find k qs)) ≡ true
    → cond b (Some v) found ≡ Some w → (found ≡ Some w) ⊎ (passes (same (view w)) (option_map view (find l qs)) ≡ true)
passed_at k l true v w qs found e h f =
    let there = subst (λ (q : List ℕ). passes (same (view v)) (option_map view (find q qs)) ≡ true)
    ((bytes_eq-Decides k l).0 e) h in
    inr (subst (λ (x : JsonValue). passes (same (view x)) (option_map view (find l qs)) ≡ true) (same_Some v w f) there)
passed_at k l false v w qs found e h f = inl f

-- one entry further
pub compared_next : (ps qs rest left : List (List ℕ × JsonValue)) (k : List ℕ) (v : JsonValue)
    → ComparedPairs ps qs rest → rest ≡ (k, v) ∷ left → passes (same (view v)) (option_map view (find k qs)) ≡ true
    → ComparedPairs ps qs left
compared_next ps qs rest left k v c e h = record {
  left = left_next ps rest left k v c.left e;
  agreed = λ l w f. elim (c.agreed l w f) [
    | inl g ↦ passed_at k l (bytes_eq k l) v w qs (find l left) refl h (sym (ap (find l) e) ∙ g)
    | inr g ↦ inr g
  ];
  no_larger = omega (arith, c.no_larger, most-rest rest left (k, v) e);
}

-- ---- all entries compared
none_more_at : (k : List ℕ) (ps qs : List (List ℕ × JsonValue)) (o p : Option JsonValue) → find k ps ≡ o → find k qs ≡ p
    → (o ≡ None → (w : JsonValue) → p ≡ Some w → ⊥) → ((v : JsonValue) → o ≡ Some v
    → passes (same (view v)) (option_map view p) ≡ true)
    → same_at (option_map view o) (option_map view p) ≡ true
none_more_at k ps qs None None e f none some = refl
none_more_at k ps qs None (Some w) e f none some = absurd (none refl w refl)
none_more_at k ps qs (Some v) p e f none some = some v refl

found_passed : (ps qs : List (List ℕ × JsonValue)) → ComparedPairs ps qs [] → (k : List ℕ) (v : JsonValue)
    → find k ps ≡ Some v → passes (same (view v)) (option_map view (find k qs)) ≡ true
found_passed ps qs c k v e = elim (c.agreed k v e) [ inl g ↦ absurd (none-some v g) | inr g ↦ g ]

passes_some : (test : Value → Bool) (o : Option JsonValue) → passes test (option_map view o) ≡ true → is_some o ≡ true
passes_some test None h = absurd (false≢true h)
passes_some test (Some v) h = refl

within_at : (ps qs : List (List ℕ × JsonValue)) → ComparedPairs ps qs [] → (k : List ℕ) (o : Option JsonValue)
    → find k ps ≡ o → is_some o ≡ true → is_some (find k qs) ≡ true
within_at ps qs c k None e h = absurd (false≢true h)
within_at ps qs c k (Some v) e h = passes_some (same (view v)) (find k qs) (found_passed ps qs c k v e)

pub all_compared : (ps qs rest : List (List ℕ × JsonValue)) → IsDistinct bytes_eq (keys_of ps) → length ps ≡ length qs
    → ComparedPairs ps qs rest → rest ≡ [] → same_pairs ps qs ≡ true
all_compared ps qs rest d e compared none =
    let c : ComparedPairs ps qs [] = subst (ComparedPairs ps qs) none compared in
    let within : IsWithin ps qs = λ k h. within_at ps qs c k (find k ps) refl h in
    object-intro (view_pairs ps) (view_pairs qs) (λ k. rw (← view-find k ps, ← view-find k qs)
    (none_more_at k ps qs (find k ps) (find k qs) refl refl (λ n w f. none_more k w ps qs d within e n f)
    (λ v f. found_passed ps qs c k v f)))
