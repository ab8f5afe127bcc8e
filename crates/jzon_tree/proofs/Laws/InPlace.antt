-- A loop that writes a list in place, one position after the other, for callers: what its invariant says, and the laws
-- of its steps. `see` is what is seen of an item, `view` of an array's elements and `seen_member` of an object's
-- members, and `h` is what each one becomes.
use Rattle.jzon_base.proofs.Common.{◌≡◌, ◌≤◌, ◌<◌, ◌+◌, ℕ, zero, suc, List, [], ◌∷◌, map, take, drop, length, set}
use Rattle.jzon_base.proofs.Common.{get_or, Option, Some, None, refl, ap, sym, ◌∙◌, arith, add-one, slice_get}
use Rattle.jzon_base.proofs.Common.{option_map, slice_get-get_or}
use Rattle.std.specs.Borrow.{MutBor}
use Rattle.std.specs.Option.{option_copied_mut}
use Rattle.jzon_base.specs.PairList.{set_value}
use Rattle.jzon_tree.specs.Measure.{size, largest, largest_under}
use Rattle.jzon_tree.specs.Value.{Value}
use Rattle.jzon_tree.specs.View.{view}
use Rattle.jzon_tree.specs.declared.value.JsonValue.{JsonValue, Null}

abbrev pub seen_member : List ℕ × JsonValue → List ℕ × Value
seen_member p = (p.0, view p.1)

module _ {A B : Type 0} (see : A → B) (h : B → B) where
  -- the items before i are h of what they were, and the others are as they were
  pub record IsWrittenBelow (i : ℕ) (old new : List A) : Type 0 where
    pub written : map see (take i new) ≡ map h (map see (take i old))
    pub left : drop i new ≡ drop i old

  pub written-none : (xs : List A) → IsWrittenBelow 0 xs xs
  written-none xs = record { written = refl; left = refl }

  next-written : (i : ℕ) (old new : List A) (x y : A) → IsWrittenBelow i old new → slice_get new i ≡ Some x
      → see y ≡ h (see x) → map see (take (suc i) (set new i y)) ≡ map h (map see (take (suc i) old))
  next-written i old [] x y w at is = absurd (cc)
  next-written zero [] (n ∷ ns) x y w at is = let e = w.left in absurd (cc)
  next-written zero (o ∷ os) (n ∷ ns) x y w at is =
      let e = w.left in
      let same : x ≡ o = cc in
      ap (λ b. b ∷ []) (is ∙ ap (λ a. h (see a)) same)
  next-written (suc i) [] (n ∷ ns) x y w at is = let e = w.written in absurd (cc)
  next-written (suc i) (o ∷ os) (n ∷ ns) x y w at is =
      let e = w.written in
      let first : see n ≡ h (see o) = cc in
      let rest : map see (take i ns) ≡ map h (map see (take i os)) = cc in
      let more = next-written i os ns x y (record { written = rest; left = w.left }) at is in
      ap (λ b. b ∷ map see (take (suc i) (set ns i y))) first ∙ ap (λ bs. h (see o) ∷ bs) more

  first-left : (i : ℕ) (xs : List A) → slice_get (drop i xs) 0 ≡ slice_get xs i
  first-left zero xs = refl
  first-left (suc i) [] = refl
  first-left (suc i) (x ∷ xs) = first-left i xs

  -- an item that isn't written yet is what it was
  pub unwritten : (i : ℕ) (old new : List A) → IsWrittenBelow i old new → slice_get new i ≡ slice_get old i
  unwritten i old new w = sym (first-left i new) ∙ ap (λ xs. slice_get xs 0) w.left ∙ first-left i old

  beyond : (i : ℕ) (ns : List A) (x : A) → drop i ns ≡ [] → slice_get ns i ≡ Some x → ⊥
  beyond i [] x e at = cc
  beyond zero (n ∷ ns) x e at = cc
  beyond (suc i) (n ∷ ns) x e at = beyond i ns x e at

  next-left : (i : ℕ) (old new : List A) (x y : A) → drop i new ≡ drop i old → slice_get new i ≡ Some x
      → drop (suc i) (set new i y) ≡ drop (suc i) old
  next-left i old [] x y e at = absurd (cc)
  next-left zero [] (n ∷ ns) x y e at = absurd (cc)
  next-left zero (o ∷ os) (n ∷ ns) x y e at = cc
  next-left (suc i) [] (n ∷ ns) x y e at = absurd (beyond i ns x e at)
  next-left (suc i) (o ∷ os) (n ∷ ns) x y e at = next-left i os ns x y e at

  -- one item more
  pub written-next : (i : ℕ) (old new : List A) (x y : A) → IsWrittenBelow i old new → slice_get new i ≡ Some x
      → see y ≡ h (see x) → IsWrittenBelow (i + 1) old (set new i y)
  written-next i old new x y w at is = rw (add-one i) record {
    written = next-written i old new x y w at is;
    left = next-left i old new x y w.left at;
  }

  -- all items
  pub written-all : (n : ℕ) (old new : List A) → IsWrittenBelow n old new → length old ≤ n
      → map see new ≡ map h (map see old)
  written-all n [] [] w l = refl
  written-all zero [] (m ∷ ms) w l = let e = w.left in absurd (cc)
  written-all (suc n) [] (m ∷ ms) w l = let e = w.written in absurd (cc)
  written-all zero (o ∷ os) new w l = absurd (omega arith)
  written-all (suc n) (o ∷ os) [] w l = let e = w.written in absurd (cc)
  written-all (suc n) (o ∷ os) (m ∷ ms) w l =
      let e = w.written in
      let first : see m ≡ h (see o) = cc in
      let rest : map see (take n ms) ≡ map h (map see (take n os)) = cc in
      let more = written-all n os ms (record { written = rest; left = w.left }) (omega arith) in
      ap (λ b. b ∷ map see ms) first ∙ ap (λ bs. h (see o) ∷ bs) more

-- ---- the members of an object, which `get_index_mut` lends

set_value-set : (i : ℕ) (ps : List (List ℕ × JsonValue)) (k : List ℕ) (v w : JsonValue) → slice_get ps i ≡ Some (k, v)
    → set_value ps i w ≡ set ps i (k, w)
set_value-set i [] k v w at = absurd (cc)
set_value-set zero (p ∷ ps) k v w at = let e : p ≡ (k, v) = cc in ap (λ q. (q.0, w) ∷ ps) e
set_value-set (suc i) (p ∷ ps) k v w at = ap (λ qs. p ∷ qs) (set_value-set i ps k v w at)

-- one member more
pub written-next_member : (h : List ℕ × Value → List ℕ × Value) (i : ℕ) (old new : List (List ℕ × JsonValue))
    (k : List ℕ) (v w : JsonValue) → IsWrittenBelow seen_member h i old new → slice_get new i ≡ Some (k, v)
    → (k, view w) ≡ h (k, view v) → IsWrittenBelow seen_member h (i + 1) old (set_value new i w)
written-next_member h i old new k v w before at is =
    rw (set_value-set i new k v w at) (written-next seen_member h i old new (k, v) (k, w) before at is)

-- `get_index_mut` returns a member at each position below the length
pub member-present : (h : List ℕ × Value → List ℕ × Value) (i : ℕ) (old new : List (List ℕ × JsonValue))
    (r : Option (MutBor JsonValue)) → IsWrittenBelow seen_member h i old new → i < length old
    → option_copied_mut r ≡ option_map (λ p. p.1) (slice_get new i) → ((x : MutBor JsonValue) → r ≡ Some x → ⊥) → ⊥
member-present h i old new None before within found never =
    let nothing : List ℕ × JsonValue = ([], Null) in
    let there : slice_get new i ≡ Some (get_or old i nothing) =
    unwritten seen_member h i old new before ∙ slice_get-get_or old i nothing within in
    let some = found ∙ ap (option_map (λ (p : List ℕ × JsonValue). p.1)) there in
    absurd (cc)
member-present h i old new (Some x) before within found never = never x refl

-- ---- a value inside is smaller

pub size-element : (i : ℕ) (vs : List JsonValue) (v : JsonValue) → slice_get vs i ≡ Some v → size v ≤ largest vs
size-element i [] v at = absurd (cc)
size-element zero (w ∷ vs) v at = let e : w ≡ v = cc in omega (arith, ap size e)
size-element (suc i) (w ∷ vs) v at = omega (arith, size-element i vs v at)

pub size-member : (i : ℕ) (ps : List (List ℕ × JsonValue)) (v : JsonValue)
    → Some v ≡ option_map (λ p. p.1) (slice_get ps i) → size v ≤ largest_under ps
size-member i [] v at = absurd (cc)
size-member zero (p ∷ ps) v at = let e : v ≡ p.1 = cc in omega (arith, ap size e)
size-member (suc i) (p ∷ ps) v at = omega (arith, size-member i ps v at)
