-- The entries of an object in the order that the generator returned.
use Rattle.jzon_base.proofs.Common.{◌≡◌, ℕ, zero, suc, ◌+◌, ◌<◌, ◌≤◌, List, [], ◌∷◌, ◌++◌, length, drop, Option, Some}
use Rattle.jzon_base.proofs.Common.{None, map, refl, sym, ap, ◌∙◌, get_or, take, true, false, Bool, add-one, arith}
use Rattle.jzon_base.proofs.Common.{subst, inl, inr, IsTrue, IsUtf8, ◌==◌, slice_get, Result, IsDistinct, bytes_eq}
use Rattle.jzon_base.proofs.Common.{cases_lt, length-map, AllPairs-from_IsDistinct, bytes_eq-Decides, Vec, Global}
use Rattle.std.proofs.Common.{length-take}
use denote.Param.Weighed.{most}
use Rattle.std.proofs.lemmas.Bool.{eqb-true}
use Rattle.std.proofs.lemmas.Map.Entries.{length-keys_of}
use Rattle.jzon_base.specs.PairList.{keys_of, values_of}
use Rattle.jzon_tree.specs.declared.value.JsonValue.{JsonValue, size-JsonValue}
use Rattle.jzon_tree.specs.Generator.{Emitted, Added, Just, Emits, IsAnswer, positions}
use Rattle.jzon_tree.specs.Lawful.{IsValue, AreValues, ArePairs, IsPair}
use Rattle.jzon_tree.specs.Private.Printing.{pair_at, PrintsIf}
use Rattle.jzon_tree.specs.StyleLaws.{IsOrder-insertion}
use Rattle.jzon_tree.specs.Value.{Value, object, pairs_of}
use Rattle.jzon_tree.specs.View.{view, viewed, view_values, view_pairs}
use Rattle.jzon_tree.specs.Writing.{Style, IsOrder, Writes}
use Rattle.jzon_tree.proofs.Printing.Emissions.{PrintsIf-after, PrintsIf-just}
use Rattle.jzon_tree.proofs.Printing.Orders.{order_occurs}
use Rattle.jzon_tree.proofs.Values.Views.{list_of_pairs-pairs_of}

pub entry_at : (ps : List (List ℕ × JsonValue)) (p : ℕ) (k : List ℕ) (v : JsonValue) → slice_get ps p ≡ Some (k, v)
    → pair_at (viewed ps) p ≡ (k, view v)
entry_at [] p k v e = absurd (cc e)
entry_at (q ∷ ps) zero k v e = let same : q ≡ (k, v) = cc e in ap (λ (r : List ℕ × JsonValue). (r.0, view r.1)) same
entry_at (q ∷ ps) (suc p) k v e = entry_at ps p k v e

-- the same for a position in an order
pub entry_named : (ps : List (List ℕ × JsonValue)) (p q : ℕ) (k : List ℕ) (v : JsonValue) → p ≡ q
    → slice_get ps p ≡ Some (k, v) → pair_at (viewed ps) q ≡ (k, view v)
entry_named ps p q k v e h = sym (ap (pair_at (viewed ps)) e) ∙ entry_at ps p k v h

pub keys-viewed : (ps : List (List ℕ × JsonValue)) → keys_of (viewed ps) ≡ keys_of ps
keys-viewed [] = refl
keys-viewed (p ∷ ps) = ap (λ ks. p.0 ∷ ks) (keys-viewed ps)

pub length-viewed : (ps : List (List ℕ × JsonValue)) → length (viewed ps) ≡ length ps
length-viewed ps = length-map ps (λ p. (p.0, view p.1))

answered : (s : Style) (ks : List (List ℕ)) (answer : Option (Vec ℕ Global)) → IsAnswer s ks answer
    → IsOrder (length ks) (positions (length ks) answer) × IsTrue (s.order ks (positions (length ks) answer))
answered s ks None h = (IsOrder-insertion (length ks), h)
answered s ks (Some ps) h = h

module _ (s : Style) (ps : List (List ℕ × JsonValue)) (answer : Option (Vec ℕ Global))
    (h : IsAnswer s (keys_of ps) answer) where
  pub answer_order : IsOrder (length (viewed ps)) (positions (length ps) answer)
  answer_order = rw (length-viewed ps) (rw (length-keys_of ps) at (answered s (keys_of ps) answer h).0)

  pub answer_allowed : IsTrue (s.order (keys_of (viewed ps)) (positions (length ps) answer))
  answer_allowed = rw (keys-viewed ps) (rw (length-keys_of ps) at (answered s (keys_of ps) answer h).1)

  pub answer_length : length (positions (length ps) answer) ≡ length ps
  answer_length = answer_order.as_many ∙ length-viewed ps

-- ---- the empty object
pub some_pair : (ps : List (List ℕ × JsonValue)) (t : Bool) → t ≡ (length ps == 0) → t ≡ false → 0 < length (viewed ps)
some_pair [] t e h = absurd (cc (e, h))
some_pair (p ∷ ps) t e h = omega arith

pub no_pair : (a b : Emitted) (ps : List (List ℕ × JsonValue)) (t : Bool) {E : Type 0} (K : Type 0)
    (r : Result (Unit {0}) E) → t ≡ (length ps == 0) → t ≡ true → Emits (Just (123 ∷ 125 ∷ [])) a b r
    → PrintsIf K (Writes a.style a.dent (object (view_pairs ps))) a b r
no_pair a b [] t K r e h w = PrintsIf-just K _ (123 ∷ 125 ∷ []) a b r refl w
no_pair a b (p ∷ ps) t K r e h w = absurd (let none : suc (length ps)
    ≡ 0 = eqb-true (suc (length ps)) 0 (sym e ∙ h) in omega arith)

-- an object after its order, which adds nothing
pub after_order : (a b c : Emitted) (v : Value) {E : Type 0} (K : Type 0) (r : Result (Unit {0}) E)
    → Added (Just []) a b → PrintsIf K (Writes b.style b.dent v) b c r → PrintsIf K (Writes a.style a.dent v) a c r
after_order a b c v K r h k = PrintsIf-after (Just []) (λ s d. Writes s d v) (Writes a.style a.dent v) a b c
    (λ x y e q. rw e q) h K r k

-- ---- a visited object
-- its keys are distinct
pub whole_object : (ps : List (List ℕ × JsonValue)) → IsDistinct bytes_eq (keys_of ps) → ArePairs (view_pairs ps)
    → IsValue (object (view_pairs ps))
whole_object ps h k =
    let distinct = AllPairs-from_IsDistinct bytes_eq-Decides (keys_of ps) h in
    (k, rw (list_of_pairs-pairs_of (viewed ps), keys-viewed ps) distinct)

-- one more visited entry
pub pairs_more : (ps : List (List ℕ × JsonValue)) (i : ℕ) (k : List ℕ) (v : JsonValue) → slice_get ps i ≡ Some (k, v)
    → IsUtf8 k → IsValue (view v) → ArePairs (view_pairs (take i ps))
    → ArePairs (view_pairs (take (i + 1) ps))
pairs_more [] i k v e u q h = absurd (cc e)
pairs_more (p ∷ ps) zero k v e u q h = let same : p ≡ (k, v) = cc e in rw same (u, q, tt)
pairs_more (p ∷ ps) (suc i) k v e u q h = rw (add-one (suc i))
    (h.0, h.1, rw (add-one i) at (pairs_more ps i k v e u q h.2))

-- the entries at the positions of an order
pairs_at : (es : List (List ℕ × Value)) → ((p : ℕ) → p < length es → IsPair (pair_at es p)) → ArePairs (pairs_of es)
pairs_at [] h = tt
pairs_at (e ∷ es) h = ((h 0 (omega arith)).0, (h 0 (omega arith)).1, pairs_at es (λ p g. h (suc p) (omega arith)))

pub pairs_named : (es : List (List ℕ × Value)) (ps : List ℕ) → IsOrder (length es) ps
    → ((k : ℕ) → k < length ps → IsPair (pair_at es (get_or ps k 0))) → ArePairs (pairs_of es)
pairs_named es ps o each = pairs_at es (λ p h.
    let k : (k : ℕ) × (k < length ps) × (get_or ps k 0 ≡ p) = order_occurs (length es) ps o p h in
    subst (λ q. IsPair (pair_at es q)) k.2 (each k.0 k.1))

pub named_more : (es : List (List ℕ × Value)) (ps : List ℕ) (i : ℕ) → IsPair (pair_at es (get_or ps i 0))
    → ((k : ℕ) → k < i → IsPair (pair_at es (get_or ps k 0)))
    → (k : ℕ) → k < i + 1 → IsPair (pair_at es (get_or ps k 0))
named_more es ps i e each k h = elim (cases_lt k i) [
  | inl f ↦ each k f
  | inr f ↦ let same : k ≡ i = omega arith in rw same e
]

-- one more visited element
pub keyed_more : (vs : List JsonValue) (i : ℕ) (v : JsonValue) → i < length vs → v ≡ get_or vs i v
    → AreValues (view_values (take i vs)) → IsValue (view v) → AreValues (view_values (take (i + 1) vs))
keyed_more [] i v h e k q = absurd (omega arith)
keyed_more (w ∷ vs) zero v h e k q = (rw e at q, tt)
keyed_more (w ∷ vs) (suc i) v h e k q = rw (add-one (suc i))
    (k.0, rw (add-one i) at (keyed_more vs i v (omega arith) e k.1 q))

-- no value at a position is larger than all of them
pub most-at : (ps : List (List ℕ × JsonValue)) (p : ℕ) (k : List ℕ) (v : JsonValue) → slice_get ps p ≡ Some (k, v)
    → size-JsonValue v ≤ most size-JsonValue (values_of ps)
most-at [] p k v e = absurd (cc e)
most-at (q ∷ ps) zero k v e = let same : q ≡ (k, v) = cc e in omega
    (arith, ap (λ (r : List ℕ × JsonValue). size-JsonValue r.1) same)
most-at (q ∷ ps) (suc p) k v e = omega (arith, most-at ps p k v e)

-- a list at one of its positions, through a function
module _ {X Y : Type 0} (f : X → Y) where
  pub map-at : (xs : List X) (i : ℕ) (x : X) → i < length xs → x ≡ get_or xs i x
      → map f xs ≡ map f (take i xs) ++ f x ∷ map f (drop (i + 1) xs)
  map-at [] i x h e = absurd (omega arith)
  map-at (y ∷ ys) zero x h e = ap (λ w. f w ∷ map f ys) (sym e)
  map-at (y ∷ ys) (suc i) x h e = rw (add-one (suc i)) (ap (λ w. f y ∷ w)
      (rw (add-one i) at (map-at ys i x (omega arith) e)))

  pub map-take_more : (xs : List X) (i : ℕ) (x : X) → i < length xs → x ≡ get_or xs i x
      → map f (take (i + 1) xs) ≡ map f (take i xs) ++ f x ∷ []
  map-take_more [] i x h e = absurd (omega arith)
  map-take_more (y ∷ ys) zero x h e = ap (λ w. f w ∷ []) (sym e)
  map-take_more (y ∷ ys) (suc i) x h e = rw (add-one (suc i))
      (ap (λ w. f y ∷ w) (rw (add-one i) at (map-take_more ys i x (omega arith) e)))

  pub length-map-take : (xs : List X) (i : ℕ) → i < length xs → length (map f (take i xs)) ≡ i
  length-map-take xs i h = rw (length-map (take i xs) f) (omega (arith, length-take i xs))

pub not_empty : (vs : List JsonValue) (t : Bool) → t ≡ (length vs == 0) → t ≡ false → 0 < length (map view vs)
not_empty [] t e h = absurd (cc (e, h))
not_empty (v ∷ vs) t e h = omega arith
