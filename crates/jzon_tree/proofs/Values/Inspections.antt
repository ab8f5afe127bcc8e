-- What an inspection finds of a container, one element or entry after the other.
use Rattle.jzon_base.proofs.Common.{◌≡◌, ℕ, zero, suc, ◌+◌, ◌-◌, ◌<◌, ◌≤◌, ◌^◌, List, [], ◌∷◌, ◌++◌, map, take, Some}
use Rattle.jzon_base.proofs.Common.{add-one, refl, ap, subst, arith, slice_get, get_or, length, max, min, ◌↔◌, le-max_left}
use Rattle.jzon_base.proofs.Common.{le-max_right}
use Rattle.std.proofs.Math.Nat.{max-le}
use Rattle.jzon_tree.specs.Private.Inspected.{IsInspected}
use Rattle.jzon_tree.specs.Lawful.{IsValue, AreValues, HasNoNan, HaveNoNan, PairsHaveNoNan}
use Rattle.jzon_tree.specs.Value.{Value, Values, array, object, nest, most_nest, most_nest_under, values_of, pairs_of}
use Rattle.jzon_tree.specs.View.{view, viewed}
use Rattle.jzon_tree.specs.declared.value.JsonValue.{JsonValue}

abbrev end : List Value → Value → Values
end vs v = values_of (vs ++ v ∷ [])

values_more : (vs : List Value) (v : Value) → AreValues (values_of vs) → IsValue v → AreValues (end vs v)
values_more [] v h k = (k, tt)
values_more (w ∷ vs) v h k = (h.0, values_more vs v h.1 k)

nan_more : (vs : List Value) (v : Value) → HaveNoNan (values_of vs) → HasNoNan v → HaveNoNan (end vs v)
nan_more [] v h k = (k, tt)
nan_more (w ∷ vs) v h k = (h.0, nan_more vs v h.1 k)

most_more : (vs : List Value) (v : Value) (r : ℕ) → most_nest (values_of vs) ≤ r → nest v ≤ r → most_nest (end vs v) ≤ r
most_more [] v r h k = max-le k (omega arith)
most_more (w ∷ vs) v r h k = max-le (omega (arith, le-max_left (nest w) (most_nest (values_of vs)), h))
    (most_more vs v r (omega (arith, le-max_right (nest w) (most_nest (values_of vs)), h)) k)

most_start : (vs : List Value) (v : Value) → most_nest (values_of vs) ≤ most_nest (end vs v)
most_start [] v = omega arith
most_start (w ∷ vs) v = max-le (le-max_left (nest w) (most_nest (end vs v)))
    (omega (arith, most_start vs v, le-max_right (nest w) (most_nest (end vs v))))

most_last : (vs : List Value) (v : Value) → nest v ≤ most_nest (end vs v)
most_last [] v = le-max_left (nest v) 0
most_last (w ∷ vs) v = omega (arith, most_last vs v, le-max_right (nest w) (most_nest (end vs v)))

nest_more : (vs : List Value) (v : Value) (r : ℕ) → nest (array (values_of vs)) ≤ r → nest v < r
    → nest (array (end vs v)) ≤ r
nest_more vs v zero h k = absurd (omega arith)
nest_more [] v (suc r) h k = omega (arith, most_more [] v r (omega arith) (omega (arith, k)))
nest_more (w ∷ vs) v (suc r) h k = omega (arith, most_more (w ∷ vs) v r (omega (arith, h)) (omega (arith, k)))

nest_parts : (vs : List Value) (v : Value) (r : ℕ) → nest (array (end vs v)) ≤ r
    → (nest (array (values_of vs)) ≤ r) × (nest v < r)
nest_parts [] v r h = (omega arith, omega (arith, h, most_last [] v))
nest_parts (w ∷ vs) v r h = (omega (arith, h, most_start (w ∷ vs) v), omega (arith, h, most_last (w ∷ vs) v))

-- one more, saturating
below : (n r : ℕ) → r < 2 ^ 128 - 1 → min (n + 1) (2 ^ 128 - 1) ≤ r → n < r
below n r h k = omega (arith, h, k)

below_back : (n r : ℕ) → n < r → min (n + 1) (2 ^ 128 - 1) ≤ r
below_back n r h = omega (arith, h)

pub inspected_more : (vs : List Value) (v : Value) (m n : ℕ) → IsInspected (array (values_of vs)) m
    → IsInspected v n → IsInspected (array (end vs v)) (max m (min (n + 1) (2 ^ 128 - 1)))
inspected_more vs v m n h k = record {
  value = values_more vs v h.value k.value;
  within = λ r l e.
      let less = below n r l (omega (arith, e, le-max_right m (min (n + 1) (2 ^ 128 - 1)))) in
      nest_more vs v r (h.within r l (omega (arith, e, le-max_left m (min (n + 1) (2 ^ 128 - 1)))))
      (omega (arith, k.within (r - 1) (omega (arith, l)) (omega (arith, less))));
  reached = λ r l e.
      let parts = nest_parts vs v r e in
      let less = k.reached (r - 1) (omega (arith, l)) (omega (arith, parts.1)) in
      max-le (h.reached r l parts.0) (below_back n r (omega (arith, less, parts.1)));
}

-- ---- the values of entries
abbrev pub inside : List (List ℕ × JsonValue) → List Value
inside ps = map (λ p. view p.1) ps

pub inside_more : (ps : List (List ℕ × JsonValue)) (i : ℕ) (k : List ℕ) (v : JsonValue) → slice_get ps i ≡ Some (k, v)
    → inside (take (i + 1) ps) ≡ inside (take i ps) ++ view v ∷ []
inside_more [] i k v e = absurd (cc e)
inside_more (p ∷ ps) zero k v e = let same : p ≡ (k, v) = cc e in ap (λ (q : List ℕ × JsonValue). view q.1 ∷ []) same
inside_more (p ∷ ps) (suc i) k v e = rw (add-one (suc i)) (ap (λ ws. view p.1 ∷ ws)
    (rw (add-one i) at (inside_more ps i k v e)))

nan_under : (ps : List (List ℕ × JsonValue)) → PairsHaveNoNan (pairs_of (viewed ps)) ↔ HaveNoNan (values_of (inside ps))
nan_under [] = (λ h. h, λ h. h)
nan_under (p ∷ ps) = (λ h. (h.0, (nan_under ps).0 h.1), λ h. (h.0, (nan_under ps).1 h.1))

most_under : (ps : List (List ℕ × JsonValue))
    → most_nest_under (pairs_of (viewed ps)) ≡ most_nest (values_of (inside ps))
most_under [] = refl
most_under (p ∷ ps) = ap (max (nest (view p.1))) (most_under ps)

nest_under : (ps : List (List ℕ × JsonValue))
    → nest (object (pairs_of (viewed ps))) ≡ nest (array (values_of (inside ps)))
nest_under [] = refl
nest_under (p ∷ ps) = ap suc (most_under (p ∷ ps))

pub inspected_object : (ps : List (List ℕ × JsonValue)) (n : ℕ) → IsValue (object (pairs_of (viewed ps)))
    → IsInspected (array (values_of (inside ps))) n → IsInspected (object (pairs_of (viewed ps))) n
inspected_object ps n h k = record {
  value = h;
  within = λ r l e. rw (nest_under ps) (k.within r l e);
  reached = λ r l e. k.reached r l (rw (nest_under ps) at e);
}

-- ---- values that are read back

-- these values are valid and contain no NaN, and nest in an array no deeper than this
pub record AreReadable (vs : List Value) (depth : ℕ) : Type 0 where
  pub values : AreValues (values_of vs)
  pub clear : HaveNoNan (values_of vs)
  pub shallow : nest (array (values_of vs)) ≤ depth

pub readable_more : (vs : List Value) (v : Value) (depth : ℕ) → AreReadable vs depth → IsValue v
    → HasNoNan v × (nest v < depth) → AreReadable (vs ++ v ∷ []) depth
readable_more vs v depth h k l = record {
  values = values_more vs v h.values k;
  clear = nan_more vs v h.clear l.0;
  shallow = nest_more vs v depth h.shallow l.1;
}

nan_at : (vs : List Value) (i : ℕ) (v : Value) → i < length vs → get_or vs i v ≡ v → HaveNoNan (values_of vs)
    → HasNoNan v
nan_at [] i v l e h = absurd (omega arith)
nan_at (w ∷ vs) zero v l e h = subst HasNoNan e h.0
nan_at (w ∷ vs) (suc i) v l e h = nan_at vs i v (omega arith) e h.1

most_at : (vs : List Value) (i : ℕ) (v : Value) → i < length vs → get_or vs i v ≡ v → nest v ≤ most_nest (values_of vs)
most_at [] i v l e = absurd (omega arith)
most_at (w ∷ vs) zero v l e = omega (arith, ap nest e, le-max_left (nest w) (most_nest (values_of vs)))
most_at (w ∷ vs) (suc i) v l e =
    omega (arith, most_at vs i v (omega arith) e, le-max_right (nest w) (most_nest (values_of vs)))

-- each of them contains no NaN and is less deep
pub readable_at : (vs : List Value) (i : ℕ) (v : Value) (depth : ℕ) → i < length vs → get_or vs i v ≡ v
    → HaveNoNan (values_of vs) × (nest (array (values_of vs)) ≤ depth) → HasNoNan v × (nest v < depth)
readable_at [] i v depth l e h = absurd (omega arith)
readable_at (w ∷ vs) i v depth l e h =
    (nan_at (w ∷ vs) i v l e h.0, omega (arith, most_at (w ∷ vs) i v l e, h.1))

pub inside_at : (ps : List (List ℕ × JsonValue)) (i : ℕ) (k : List ℕ) (v : JsonValue) → slice_get ps i ≡ Some (k, v)
    → (i < length (inside ps)) × (get_or (inside ps) i (view v) ≡ view v)
inside_at [] i k v e = absurd (cc e)
inside_at (p ∷ ps) zero k v e =
    let same : p ≡ (k, v) = cc e in
    (omega arith, ap (λ (q : List ℕ × JsonValue). view q.1) same)
inside_at (p ∷ ps) (suc i) k v e = let rest = inside_at ps i k v e in (omega (arith, rest.0), rest.1)

-- an object nests as an array of its values does
pub object_readable : (ps : List (List ℕ × JsonValue)) (depth : ℕ) → (HasNoNan (object (pairs_of (viewed ps)))
    × (nest (object (pairs_of (viewed ps))) ≤ depth))
    ↔ (HaveNoNan (values_of (inside ps)) × (nest (array (values_of (inside ps))) ≤ depth))
object_readable ps depth = (
  λ h. ((nan_under ps).0 h.0, rw (nest_under ps) at h.1),
  λ h. ((nan_under ps).1 h.0, rw (nest_under ps) h.1),
)
