-- How deep and how heavy the values in a container are, as lists.
use Rattle.std.proofs.Common.{◌≡◌, ℕ, zero, suc, max, List, [], ◌∷◌, map, Bool, ◌&&◌, Option, None, Some, IfSome, nat_lt, nat_le, ap, ◌∙◌, arith}
use Rattle.std.proofs.lemmas.Bool.Decides.{nat_tests}
use Rattle.std.specs.List.{list_all}
use Rattle.jzon.specs.JsonValue.{JsonValue}
use Rattle.jzon.specs.PairList.{values_of}
use Rattle.jzon.specs.Value as value
use Rattle.jzon.specs.Value.{Value, array, object, nest, most_nest, most_nest_under}
use Rattle.jzon.specs.View.{view, viewed}
use Rattle.jzon.proofs.ValueLaws.{view-Array, view-Object, view-Short, view-String, view-Number, view-Null, view-Boolean}

max-below : (a b n : ℕ) → nat_lt (max a b) n ≡ (nat_lt a n && nat_lt b n)
max-below a b n = grind (arith, nat_tests)

one_more : (a n : ℕ) → nat_le (suc a) (suc n) ≡ nat_lt a (suc n)
one_more a n = grind (arith, nat_tests)

none-below : (a b : ℕ) (c : Bool) → nat_le (suc a) 0 ≡ (nat_lt b 0 && c)
none-below a b c = grind (arith, nat_tests)

-- the greatest depth of values is below a bound if each is
most-below : (vs : List Value) (n : ℕ)
    → nat_lt (most_nest (value.values_of vs)) (suc n) ≡ list_all (λ w. nat_lt (nest w) (suc n)) vs
most-below [] n = grind (arith, nat_tests)
most-below (v ∷ vs) n =
    max-below (nest v) (most_nest (value.values_of vs)) (suc n)
    ∙ ap (λ b. nat_lt (nest v) (suc n) && b) (most-below vs n)

pub values-nest : (vs : List Value) (n : ℕ)
    → nat_le (nest (array (value.values_of vs))) n ≡ list_all (λ w. nat_lt (nest w) n) vs
values-nest [] n = grind (arith, nat_tests)
values-nest (v ∷ vs) zero =
    none-below (max (nest v) (most_nest (value.values_of vs))) (nest v) (list_all (λ w. nat_lt (nest w) 0) vs)
values-nest (v ∷ vs) (suc n) =
    one_more (max (nest v) (most_nest (value.values_of vs))) n ∙ most-below (v ∷ vs) n

most_under-below : (ps : List (List ℕ × JsonValue)) (n : ℕ)
    → nat_lt (most_nest_under (value.pairs_of (viewed ps))) (suc n)
    ≡ list_all (λ w. nat_lt (nest w) (suc n)) (map view (values_of ps))
most_under-below [] n = grind (arith, nat_tests)
most_under-below (p ∷ ps) n =
    max-below (nest (view p.1)) (most_nest_under (value.pairs_of (viewed ps))) (suc n)
    ∙ ap (λ b. nat_lt (nest (view p.1)) (suc n) && b) (most_under-below ps n)

pub pairs-nest : (ps : List (List ℕ × JsonValue)) (n : ℕ)
    → nat_le (nest (object (value.pairs_of (viewed ps)))) n ≡ list_all (λ w. nat_lt (nest w) n) (map view (values_of ps))
pairs-nest [] n = grind (arith, nat_tests)
pairs-nest (p ∷ ps) zero =
    none-below (max (nest (view p.1)) (most_nest_under (value.pairs_of (viewed ps)))) (nest (view p.1))
    (list_all (λ w. nat_lt (nest w) 0) (map view (values_of ps)))
pairs-nest (p ∷ ps) (suc n) =
    one_more (max (nest (view p.1)) (most_nest_under (value.pairs_of (viewed ps)))) n ∙ most_under-below (p ∷ ps) n

-- what is seen as such an array, or such an object, nests so deep if each value in it nests less
pub array-nest : (v : JsonValue) (xs : List JsonValue) (n : ℕ) → view v ≡ array (value.values_of (map view xs))
    → nat_le (nest (view v)) n ≡ list_all (λ w. nat_lt (nest w) n) (map view xs)
array-nest v xs n is = ap (λ w. nat_le (nest w) n) is ∙ values-nest (map view xs) n

pub object-nest : (v : JsonValue) (ps : List (List ℕ × JsonValue)) (n : ℕ)
    → view v ≡ object (value.pairs_of (viewed ps))
    → nat_le (nest (view v)) n ≡ list_all (λ w. nat_lt (nest w) n) (map view (values_of ps))
object-nest v ps n is = ap (λ w. nat_le (nest w) n) is ∙ pairs-nest ps n

-- what holds of what is there is followed by what follows from it
pub some-weaker : {A : Type 0} {P Q : Type 0} (o : Option A) → (P → Q) → IfSome o (λ _. P) → IfSome o (λ _. Q)
some-weaker None f h = h
some-weaker (Some x) f h = f h

pub ruleset nesting =
    (view-Array, view-Object, view-Short, view-String, view-Number, view-Null, view-Boolean, values-nest, pairs-nest)
