-- The position of the element that `at_index_mut` lends: the index, but at most the last position.
use Rattle.jzon_base.proofs.Common.{◌≡◌, ℕ, zero, suc, ◌-◌, min, List, [], ◌∷◌, ◌++◌, length, refl, arith, inl, inr}
use Rattle.jzon_base.proofs.Common.{Bool, true, false, if◌then◌else◌, nat_lt, nat_eq, Option, Some, None, ltb-true}
use Rattle.jzon_base.proofs.Common.{lt-ltb, cases_lt}
use Rattle.std.proofs.lemmas.List.{length-append}
use Rattle.jzon_tree.specs.Lent.{with_place, place_in}

within_or_last : {V : Type 0} (null : V) (xs : List V) (i : ℕ) (b : Bool) → nat_lt i (length xs) ≡ b
    → min i (length (if b then xs else xs ++ null ∷ []) - 1) ≡ (if b then i else length xs)
within_or_last null xs i true h = omega (arith, ltb-true i (length xs) h)
within_or_last null xs i false h =
    elim (cases_lt i (length xs)) [
      | inl less ↦ let e = lt-ltb i (length xs) less in absurd (cc (e, h))
      | inr more ↦ omega (arith, more, length-append xs (null ∷ []))
    ]

first_or_second : {V : Type 0} (null : V) (i : ℕ) (b : Bool) → nat_eq i 0 ≡ b
    → min i (length (if b then null ∷ [] else null ∷ null ∷ []) - 1) ≡ (if b then 0 else 1)
first_or_second null i true h = omega arith
first_or_second null zero false h = absurd (cc h)
first_or_second null (suc i) false h = omega arith

pub place_is : {V : Type 0} (null : V) (o : Option (List V)) (i : ℕ)
    → min i (length (with_place null o i) - 1) ≡ place_in o i
place_is null None i = first_or_second null i (nat_eq i 0) refl
place_is null (Some xs) i = within_or_last null xs i (nat_lt i (length xs)) refl
