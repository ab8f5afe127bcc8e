-- `same` is an equivalence. (These are proofs; they are here because the laws of `PartialEq` and `Eq` cite them.)
use Rattle.std.specs.Prelude.{◌≡◌, ℕ, Bool, true, false, ◌||◌, cond, List, [], ◌∷◌, Option, None, Some, is_some, refl}
use Rattle.std.specs.Cmp.{IsEquivalence, bool_eq_equiv, booleans_Decides, both_ways}
use Rattle.std.specs.Str.{bytes_eq}
use Rattle.std.proofs.Common.{sym, ap, ◌∙◌, subst}
use Rattle.std.proofs.lemmas.Bool.{false≢true, and_parts, and_from, or_parts}
use Rattle.std.proofs.lemmas.Option.{none-some, same_Some}
use Rattle.std.proofs.lemmas.Slice.Eq.{bytes_eq-Decides}
use Rattle.jzon_base.specs.PairList.{find}
use Rattle.jzon_base.specs.Private.Same.{same_decimal_equiv as decimal_equiv}
use Rattle.jzon_tree.specs.Value.{Value, null, boolean, text, number, array, object, Values, no_values, value, ValuePairs}
use Rattle.jzon_tree.specs.Value.{no_pairs, pair, list_of_pairs}
use Rattle.jzon_tree.specs.Same.{same, same_items, same_under, has_keys_within, is_known, passes}

-- ---- what a lookup finds

-- the value at a key
abbrev pub at : List ℕ → ValuePairs → Option Value
at k ps = find k (list_of_pairs ps)

-- P holds of the value of each entry
abbrev Each : (Value → Type 0) → ValuePairs → Type 0
Each P no_pairs = Unit {0}
Each P (pair k v ps) = P v × Each P ps

each_cond : (P : Value → Type 0) (b : Bool) (v w : Value) (rest : Option Value) → P w → (rest ≡ Some v → P v)
    → cond b (Some w) rest ≡ Some v → P v
each_cond P true v w rest here later e = subst P (same_Some w v e) here
each_cond P false v w rest here later e = later e

each_found : (P : Value → Type 0) (ps : ValuePairs) (k : List ℕ) (v : Value) → Each P ps → at k ps ≡ Some v → P v
each_found P no_pairs k v each e = absurd (none-some v e)
each_found P (pair l w ps) k v each e = each_cond P (bytes_eq l k) v w (at k ps) each.0 (each_found P ps k v each.1) e

module _ {V : Type 0} where
  -- a look-up of the first key
  pub find-head : (k : List ℕ) (v : V) (ps : List (List ℕ × V)) → find k ((k, v) ∷ ps) ≡ Some v
  find-head k v ps = rw ((bytes_eq-Decides k k).1 refl) refl

  -- a look-up of another key goes past it
  pub find-past : (l k : List ℕ) (w : V) (ps : List (List ℕ × V)) → bytes_eq l k ≡ false
      → find k ((l, w) ∷ ps) ≡ find k ps
  find-past l k w ps e = rw e refl

-- ---- `has_keys_within`, by lookups
abbrev KeysWithin : ValuePairs → ValuePairs → Type 0
KeysWithin ps qs = (k : List ℕ) (v : Value) → at k ps ≡ Some v → is_some (at k qs) ≡ true

within-elim-head : (l : List ℕ) (w : Value) (ps qs : ValuePairs) → is_some (at l qs) ≡ true → KeysWithin ps qs
    → (k : List ℕ) (v : Value) (b : Bool) → bytes_eq l k ≡ b → cond b (Some w) (at k ps) ≡ Some v
    → is_some (at k qs) ≡ true
within-elim-head l w ps qs here later k v true e f = subst (λ (q : List ℕ). is_some (at q qs) ≡ true)
    ((bytes_eq-Decides l k).0 e) here
within-elim-head l w ps qs here later k v false e f = later k v f

within-elim : (ps qs : ValuePairs) → has_keys_within ps qs ≡ true → KeysWithin ps qs
within-elim no_pairs qs h k v e = absurd (none-some v e)
within-elim (pair l w ps) qs h k v e =
    let both = and_parts (is_some (at l qs)) (has_keys_within ps qs) h in
    within-elim-head l w ps qs both.0 (within-elim ps qs both.1) k v (bytes_eq l k) refl e

within-intro-tail : (l : List ℕ) (w : Value) (ps qs : ValuePairs) → KeysWithin (pair l w ps) qs
    → (k : List ℕ) (v : Value) (b : Bool) → bytes_eq l k ≡ b → at k ps ≡ Some v → is_some (at k qs) ≡ true
within-intro-tail l w ps qs h k v true e f = h k w (rw e refl)
within-intro-tail l w ps qs h k v false e f = h k v (find-past l k w (list_of_pairs ps) e ∙ f)

within-intro : (ps qs : ValuePairs) → KeysWithin ps qs → has_keys_within ps qs ≡ true
within-intro no_pairs qs h = refl
within-intro (pair l w ps) qs h =
    and_from _ _ (h l w (find-head l w (list_of_pairs ps))) (within-intro ps qs
    (λ k v e. within-intro-tail l w ps qs h k v (bytes_eq l k) refl e))

-- ---- `same_under`, by lookups: keys that are in `seen` aren't compared again
abbrev Agrees : List (List ℕ) → ValuePairs → ValuePairs → Type 0
Agrees seen ps qs = (k : List ℕ) (v : Value) → at k ps ≡ Some v → is_known seen k ≡ false
    → passes (same v) (at k qs) ≡ true

known_or : (b c : Bool) → b ≡ false → (b || c) ≡ true → c ≡ true
known_or true c e h = absurd (false≢true (sym e))
known_or false c e h = h

or_known : (b c : Bool) → (b ≡ false → c ≡ true) → (b || c) ≡ true
or_known true c h = refl
or_known false c h = h refl

under-elim-head : (seen : List (List ℕ)) (l : List ℕ) (w : Value) (ps qs : ValuePairs)
    → (is_known seen l || passes (same w) (at l qs)) ≡ true → Agrees (l ∷ seen) ps qs
    → (k : List ℕ) (v : Value) (b : Bool) → bytes_eq l k ≡ b → cond b (Some w) (at k ps) ≡ Some v
    → is_known seen k ≡ false → passes (same v) (at k qs) ≡ true
under-elim-head seen l w ps qs here later k v true e f unseen =
    let there = subst (λ (q : List ℕ). (is_known seen q || passes (same w) (at q qs)) ≡ true)
    ((bytes_eq-Decides l k).0 e) here in
    subst (λ (x : Value). passes (same x) (at k qs) ≡ true) (same_Some w v f) (known_or _ _ unseen there)
under-elim-head seen l w ps qs here later k v false e f unseen = later k v f (rw (e, unseen) refl)

under-elim : (seen : List (List ℕ)) (ps qs : ValuePairs) → same_under seen ps qs ≡ true → Agrees seen ps qs
under-elim seen no_pairs qs h k v e unseen = absurd (none-some v e)
under-elim seen (pair l w ps) qs h k v e unseen =
    let both = and_parts (is_known seen l || passes (same w) (at l qs)) (same_under (l ∷ seen) ps qs) h in
    under-elim-head seen l w ps qs both.0 (under-elim (l ∷ seen) ps qs both.1) k v (bytes_eq l k) refl e unseen

under-intro : (seen : List (List ℕ)) (ps qs : ValuePairs) → Agrees seen ps qs → same_under seen ps qs ≡ true
under-intro seen no_pairs qs h = refl
under-intro seen (pair l w ps) qs h =
    and_from _ _
    (or_known (is_known seen l) (passes (same w) (at l qs)) (h l w (find-head l w (list_of_pairs ps))))
    (under-intro (l ∷ seen) ps qs (λ k v e unseen.
    let apart = or_parts (bytes_eq l k) (is_known seen k) unseen in
    h k v (find-past l k w (list_of_pairs ps) apart.0 ∙ e) apart.1))

-- ---- equal objects, by lookups: at each key both have equal values, or neither has one

-- there are two equal values, or none
abbrev pub same_at : Option Value → Option Value → Bool
same_at None None = true
same_at None (Some w) = false
same_at (Some v) p = passes (same v) p

-- at each key both have equal values, or neither has one
abbrev pub SameAtEach : ValuePairs → ValuePairs → Type 0
SameAtEach ps qs = (k : List ℕ) → same_at (at k ps) (at k qs) ≡ true

same_at-from : (o p : Option Value) → ((v : Value) → o ≡ Some v → passes (same v) p ≡ true)
    → ((w : Value) → p ≡ Some w → is_some o ≡ true) → same_at o p ≡ true
same_at-from None None f g = refl
same_at-from None (Some w) f g = g w refl
same_at-from (Some v) p f g = f v refl

same_at-passes : (o p : Option Value) (v : Value) → same_at o p ≡ true → o ≡ Some v → passes (same v) p ≡ true
same_at-passes None p v h e = absurd (none-some v e)
same_at-passes (Some u) p v h e = subst (λ (x : Value). passes (same x) p ≡ true) (same_Some u v e) h

same_at-there : (o p : Option Value) (w : Value) → same_at o p ≡ true → p ≡ Some w → is_some o ≡ true
same_at-there None None w h e = absurd (none-some w e)
same_at-there None (Some x) w h e = h
same_at-there (Some v) p w h e = refl

-- equal objects have equal values at each key
pub object-elim : (ps qs : ValuePairs) → same (object ps) (object qs) ≡ true → SameAtEach ps qs
object-elim ps qs h k =
    let both = and_parts (same_under [] ps qs) (has_keys_within qs ps) h in
    same_at-from (at k ps) (at k qs) (λ v e. under-elim [] ps qs both.0 k v e refl)
    (λ w e. within-elim qs ps both.1 k w e)

-- objects with equal values at each key are equal
pub object-intro : (ps qs : ValuePairs) → SameAtEach ps qs → same (object ps) (object qs) ≡ true
object-intro ps qs h =
    and_from _ _ (under-intro [] ps qs (λ k v e unseen. same_at-passes (at k ps) (at k qs) v (h k) e))
    (within-intro qs ps (λ k w e. same_at-there (at k ps) (at k qs) w (h k) e))

-- ---- reflexive
same_at-refl : (o : Option Value) → ((v : Value) → o ≡ Some v → same v v ≡ true) → same_at o o ≡ true
same_at-refl None h = refl
same_at-refl (Some v) h = h v refl

object-refl : (ps : ValuePairs) → Each (λ v. same v v ≡ true) ps → same (object ps) (object ps) ≡ true
object-refl ps each = object-intro ps ps (λ k. same_at-refl (at k ps)
    (λ v e. each_found (λ x. same x x ≡ true) ps k v each e))

mutual
  same-refl : (v : Value) → same v v ≡ true
  same-refl null = refl
  same-refl (boolean b) = bool_eq_equiv.refl b
  same-refl (text k s) = (bytes_eq-Decides s s).1 refl
  same-refl (number n) = decimal_equiv.refl n
  same-refl (array vs) = items-refl vs
  same-refl (object ps) = object-refl ps (each-refl ps)

  items-refl : (vs : Values) → same_items vs vs ≡ true
  items-refl no_values = refl
  items-refl (value v vs) = and_from _ _ (same-refl v) (items-refl vs)

  each-refl : (ps : ValuePairs) → Each (λ v. same v v ≡ true) ps
  each-refl no_pairs = tt
  each-refl (pair k v ps) = (same-refl v, each-refl ps)

-- ---- equal values are equal to the same values
abbrev IsAlike : Value → Type 0
IsAlike v = (w : Value) → same v w ≡ true → (x : Value) → same v x ≡ same w x

same_at-alike : (o p r : Option Value) → ((v : Value) → o ≡ Some v → IsAlike v) → same_at o p ≡ true
    → same_at o r ≡ same_at p r
same_at-alike None None r alike h = refl
same_at-alike None (Some w) r alike h = absurd (false≢true h)
same_at-alike (Some v) None r alike h = absurd (false≢true h)
same_at-alike (Some v) (Some w) None alike h = refl
same_at-alike (Some v) (Some w) (Some x) alike h = alike v refl w h x

object-alike : (ps qs xs : ValuePairs) → Each IsAlike ps → same (object ps) (object qs) ≡ true
    → same (object ps) (object xs) ≡ same (object qs) (object xs)
object-alike ps qs xs each h =
    let along : (k : List ℕ) → same_at (at k ps) (at k xs) ≡ same_at (at k qs) (at k xs) = λ k. same_at-alike (at k ps)
    (at k qs) (at k xs) (λ v e. each_found IsAlike ps k v each e) (object-elim ps qs h k) in
    both_ways (same (object ps) (object xs)) (same (object qs) (object xs))
    (λ e. object-intro qs xs (λ k. sym (along k) ∙ object-elim ps xs e k))
    (λ e. object-intro ps xs (λ k. along k ∙ object-elim qs xs e k))

text_alike : (s t : List ℕ) → bytes_eq s t ≡ true → (u : List ℕ) → bytes_eq s u ≡ bytes_eq t u
text_alike s t h u = ap (λ (q : List ℕ). bytes_eq q u) ((bytes_eq-Decides s t).0 h)

mutual
  same-alike : (v : Value) → IsAlike v
  same-alike null null h x = refl
  same-alike (boolean b) (boolean c) h x = ap (λ (d : Bool). same (boolean d) x) ((booleans_Decides b c).0 h)
  same-alike (text j s) (text k t) h (text l u) = text_alike s t h u
  same-alike (text j s) (text k t) h _ = refl
  same-alike (number m) (number n) h (number o) = decimal_equiv.congr m n o h
  same-alike (number m) (number n) h _ = refl
  same-alike (array vs) (array ws) h (array xs) = items-alike vs ws h xs
  same-alike (array vs) (array ws) h _ = refl
  same-alike (object ps) (object qs) h (object xs) = object-alike ps qs xs (each-alike ps) h
  same-alike (object ps) (object qs) h _ = refl
  same-alike _ _ h _ = absurd (false≢true h)

  items-alike : (vs ws : Values) → same_items vs ws ≡ true → (xs : Values) → same_items vs xs ≡ same_items ws xs
  items-alike no_values no_values h xs = refl
  items-alike (value v vs) (value w ws) h no_values = refl
  items-alike (value v vs) (value w ws) h (value x xs) =
      let both = and_parts (same v w) (same_items vs ws) h in
      rw (same-alike v w both.0 x, items-alike vs ws both.1 xs) refl
  items-alike _ _ h _ = absurd (false≢true h)

  each-alike : (ps : ValuePairs) → Each IsAlike ps
  each-alike no_pairs = tt
  each-alike (pair k v ps) = (same-alike v, each-alike ps)

-- ---- the laws
same-symm : (v w : Value) → same v w ≡ true → same w v ≡ true
same-symm v w h = sym (same-alike v w h v) ∙ same-refl v

-- `same` is an equivalence
pub same_equiv : IsEquivalence same
same_equiv = record {
  refl = same-refl;
  symm = λ v w. both_ways (same v w) (same w v) (same-symm v w) (same-symm w v);
  congr = λ v w x h. same-alike v w h x;
}
