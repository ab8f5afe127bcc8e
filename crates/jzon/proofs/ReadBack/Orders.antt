-- Lists in another order, by their positions.
use Rattle.jzon_base.proofs.Common.{◌≡◌, ◌∙◌, ◌≢◌, ℕ, zero, suc, ◌<◌, ◌≤◌, ◌==◌, List, [], ◌∷◌, length, map, get_or}
use Rattle.jzon_base.proofs.Common.{Bool, true, false, cond, Option, Some, None, refl, sym, ap, arith, inl, inr}
use Rattle.jzon_base.proofs.Common.{AllPairs, AllByRecursion, IsDistinct, bytes_eq, cases_lt, cases_eq, nat_tests}
use Rattle.jzon_base.proofs.Common.{length-map, get_or_default, recursion_from_All, IsDistinct-cons, same_Some}
use Rattle.jzon_base.proofs.Common.{none-some, bytes_eq-Decides}
use Rattle.std.proofs.Math.ListN.{get_or-map}
use Rattle.std.proofs.lemmas.List.Elements.{All-from_get_or}
use Rattle.jzon_base.specs.PairList.{keys_of, find}
use Rattle.jzon_base.proofs.Entries.PairLaws.{bytes_eq-other}
use Rattle.jzon_tree.specs.Writing.{IsOrder, text_at}
use Rattle.jzon_tree.proofs.Printing.Orders.{times, times-cons, order_within}

-- the elements at these positions, and d for one past the end of the list
abbrev pub picked : {X : Type 0} → X → List X → List ℕ → List X
picked d xs ps = map (λ i. get_or xs i d) ps

pub map-picked : {X Y : Type 0} (f : X → Y) (d : X) (xs : List X) (ps : List ℕ)
    → map f (picked d xs ps) ≡ picked (f d) (map f xs) ps
map-picked f d xs [] = refl
map-picked f d xs (p ∷ ps) =
    ap (λ y. y ∷ map f (picked d xs ps)) (sym (get_or-map f xs p d))
    ∙ ap (λ ys. get_or (map f xs) p (f d) ∷ ys) (map-picked f d xs ps)

at-each : {X : Type 0} (P : X → Type 0) (d : X) (xs : List X) (i : ℕ) → P d → AllByRecursion P xs → P (get_or xs i d)
at-each P d [] i here all = here
at-each P d (x ∷ xs) zero here all = all.0
at-each P d (x ∷ xs) (suc i) here all = at-each P d xs i here all.1

pub each_picked : {X : Type 0} (P : X → Type 0) (d : X) (xs : List X) (ps : List ℕ) → P d → AllByRecursion P xs
    → AllByRecursion P (picked d xs ps)
each_picked P d xs [] here all = tt
each_picked P d xs (p ∷ ps) here all = (at-each P d xs p here all, each_picked P d xs ps here all)

-- ---- an order has each position below n, and no other

abbrev pub AreBelow : ℕ → List ℕ → Type 0
AreBelow n ps = AllByRecursion (λ i. i < n) ps

pub AreBelow-order : (n : ℕ) (ps : List ℕ) → IsOrder n ps → AreBelow n ps
AreBelow-order n ps o =
    recursion_from_All (λ i. i < n) ps (All-from_get_or (λ i. i < n) ps 0 (order_within n ps o))

-- what an element adds to a count
abbrev tally : Bool → ℕ
tally b = cond b 1 0

tally_here : (p i : ℕ) → p ≡ i → tally (p == i) ≡ 1
tally_here p i h = grind (arith, nat_tests)

tally_elsewhere : (p i : ℕ) → (p ≡ i → ⊥) → tally (p == i) ≡ 0
tally_elsewhere p i h = grind (arith, nat_tests)

pub texts_picked : (ts : List (List ℕ)) (ps : List ℕ) (d : List ℕ) → AreBelow (length ts) ps
    → map (text_at ts) ps ≡ picked d ts ps
texts_picked ts [] d h = refl
texts_picked ts (p ∷ ps) d h =
    ap (λ y. y ∷ map (text_at ts) ps) (get_or_default ts p [] d h.0)
    ∙ ap (λ ys. get_or ts p d ∷ ys) (texts_picked ts ps d h.1)

-- ---- distinct keys stay distinct

apart_keys : (ks : List (List ℕ)) (d : List ℕ) (i j : ℕ) → AllPairs (λ x y. x ≢ y) ks → i < length ks → j < length ks
    → (i ≡ j → ⊥) → get_or ks i d ≡ get_or ks j d → ⊥
apart_keys ks d i j distinct h k ne e =
    elim (cases_lt i j) [
      | inl less ↦ distinct i j d less k e
      | inr more ↦ distinct j i d (omega (arith, ne)) h (sym e)
    ]

apart_from : (ks : List (List ℕ)) (d : List ℕ) (i : ℕ) (ps : List ℕ) → AllPairs (λ x y. x ≢ y) ks → i < length ks
    → AreBelow (length ks) ps → times i ps ≡ 0
    → AllByRecursion (λ y. bytes_eq (get_or ks i d) y ≡ false) (picked d ks ps)
apart_from ks d i [] distinct h below none = tt
apart_from ks d i (p ∷ ps) distinct h below none =
    let cons = times-cons i p ps in
    let ne : (i ≡ p → ⊥) = λ e. omega (arith, none, cons, tally_here p i (sym e)) in (
      bytes_eq-other _ _ (apart_keys ks d i p distinct h below.0 ne),
      apart_from ks d i ps distinct h below.1
          (omega (arith, none)),
    )

pub distinct_picked : (ks : List (List ℕ)) (d : List ℕ) (ps : List ℕ) → AllPairs (λ x y. x ≢ y) ks
    → AreBelow (length ks) ps → ((i : ℕ) → i < length ks → times i ps ≤ 1) → IsDistinct bytes_eq (picked d ks ps)
unfolding IsDistinct
distinct_picked ks d [] distinct below once = tt
distinct_picked ks d (p ∷ ps) distinct below once =
    IsDistinct-cons bytes_eq (get_or ks p d) (picked d ks ps)
    (apart_from ks d p ps distinct below.0 below.1
    (omega (arith, once p below.0, times-cons p p ps, tally_here p p refl)))
    (distinct_picked ks d ps distinct below.1 (λ i h. omega (arith, once i h, times-cons i p ps)))

-- ---- lookups don't depend on the order

module _ {V : Type 0} where
  record IsFound (q : List ℕ) (d : List ℕ × V) (xs : List (List ℕ × V)) (v : V) (i : ℕ) : Type 0 where
    within : i < length xs
    key : (get_or xs i d).0 ≡ q
    value : (get_or xs i d).1 ≡ v

  found_at : (q : List ℕ) (d x : List ℕ × V) (xs : List (List ℕ × V)) (v : V) (b : Bool) → bytes_eq x.0 q ≡ b
      → (find q xs ≡ Some v → (i : ℕ) × IsFound q d xs v i)
      → cond b (Some x.1) (find q xs) ≡ Some v → (i : ℕ) × IsFound q d (x ∷ xs) v i
  found_at q d x xs v true t more f =
      (0, record { within = omega arith; key = (bytes_eq-Decides x.0 q).0 t; value = same_Some x.1 v f })
  found_at q d x xs v false t more f =
      let later = more f in
      (suc later.0, record { within = omega (arith, later.1.within); key = later.1.key; value = later.1.value })

  found_place : (q : List ℕ) (d : List ℕ × V) (xs : List (List ℕ × V)) (v : V) → find q xs ≡ Some v → (i : ℕ)
      × IsFound q d xs v i
  found_place q d [] v e = absurd (none-some v e)
  found_place q d (x ∷ xs) v e = found_at q d x xs v (bytes_eq x.0 q) refl (λ f. found_place q d xs v f) e

  nowhere_at : (q : List ℕ) (x : List ℕ × V) (rest : Option V) (b : Bool) → bytes_eq x.0 q ≡ b
      → cond b (Some x.1) rest ≡ None → (bytes_eq x.0 q ≡ false) × (rest ≡ None)
  nowhere_at q x rest true t f = absurd (none-some x.1 (sym f))
  nowhere_at q x rest false t f = (t, f)

  nowhere : (q : List ℕ) (d : List ℕ × V) (xs : List (List ℕ × V)) (i : ℕ) → find q xs ≡ None → i < length xs
      → bytes_eq (get_or xs i d).0 q ≡ false
  nowhere q d [] i e h = absurd (omega arith)
  nowhere q d (x ∷ xs) zero e h = (nowhere_at q x (find q xs) (bytes_eq x.0 q) refl e).0
  nowhere q d (x ∷ xs) (suc i) e h = nowhere q d xs i (nowhere_at q x (find q xs) (bytes_eq x.0 q) refl e).1
      (omega arith)

  picked_nowhere : (q : List ℕ) (d : List ℕ × V) (xs : List (List ℕ × V)) (ps : List ℕ) → find q xs ≡ None
      → AreBelow (length xs) ps → find q (picked d xs ps) ≡ None
  picked_nowhere q d xs [] e below = refl
  picked_nowhere q d xs (p ∷ ps) e below = rw (nowhere q d xs p e below.0) (picked_nowhere q d xs ps e below.1)

  key_at : (d : List ℕ × V) (xs : List (List ℕ × V)) (i : ℕ) → get_or (keys_of xs) i d.0 ≡ (get_or xs i d).0
  key_at d xs i = get_or-map (λ (p : List ℕ × V). p.0) xs i d

  picked_found : (q : List ℕ) (d : List ℕ × V) (xs : List (List ℕ × V)) (v : V) (i : ℕ) (ps : List ℕ)
      → AllPairs (λ x y. x ≢ y) (keys_of xs)
      → IsFound q d xs v i → AreBelow (length xs) ps → 1 ≤ times i ps → find q (picked d xs ps) ≡ Some v
  picked_found q d xs v i [] distinct f below some = absurd (omega arith)
  picked_found q d xs v i (p ∷ ps) distinct f below some =
      elim (cases_eq p i) [
        | inl e ↦
            (let key : (get_or xs p d).0 ≡ q = ap (λ j. (get_or xs j d).0) e ∙ f.key in
            let yes : bytes_eq (get_or xs p d).0 q ≡ true = (bytes_eq-Decides _ _).1 key in
            rw yes (ap Some (ap (λ j. (get_or xs j d).1) e ∙ f.value)))
        | inr ne ↦
            (let size : length (keys_of xs) ≡ length xs = length-map xs (λ y. y.0) in
            let no : bytes_eq (get_or xs p d).0 q ≡ false =
            bytes_eq-other _ _ (λ e. apart_keys (keys_of xs) d.0 p i distinct (omega (arith, below.0))
            (omega (arith, f.within)) ne
            (key_at d xs p ∙ e ∙ sym f.key ∙ sym (key_at d xs i))) in
            rw no (picked_found q d xs v i ps distinct f below.1
            (omega (arith, some, times-cons i p ps, tally_elsewhere p i ne))))
      ]

  pub find-picked : (q : List ℕ) (d : List ℕ × V) (xs : List (List ℕ × V)) (ps : List ℕ)
      → AllPairs (λ x y. x ≢ y) (keys_of xs) → IsOrder (length xs) ps → find q (picked d xs ps) ≡ find q xs
  find-picked q d xs ps distinct o = by_find (find q xs) refl
    where
      by_find : (f : Option V) → find q xs ≡ f → find q (picked d xs ps) ≡ find q xs
      by_find None e = picked_nowhere q d xs ps e (AreBelow-order (length xs) ps o) ∙ sym e
      by_find (Some v) e =
          let at = found_place q d xs v e in
          picked_found q d xs v at.0 ps distinct at.1 (AreBelow-order (length xs) ps o)
          (omega (arith, o.once at.0 at.1.within)) ∙ sym e
