-- What is arranged of an array's elements, and whether a NaN is among them and among an object's values.
use Rattle.std.proofs.Common.{◌≡◌, ◌||◌, ℕ, List, [], ◌∷◌, map, refl, ap}
use Rattle.std.specs.List.{list_any}
use Rattle.jzon.specs.PairList.{values_of}
use Rattle.jzon.specs.JsonValue.{JsonValue}
use Rattle.jzon.specs.View.{view, viewed}
use Rattle.jzon.specs.Value.{Value, value}
use Rattle.jzon.specs.Value as value
use Rattle.jzon.proofs.ValueLaws.{view-Array, view-Object, view-Short, view-String, view-Number, view-Null}
use Rattle.jzon.proofs.ValueLaws.{view-Boolean}
use Rattle.jzon_tools.specs.Canonical.{arranged, arranged_values, has_nan, have_nan, pairs_have_nan}

pub values-arranged : (leaf : Value → Value) (vs : List Value)
    → arranged_values leaf (value.values_of vs) ≡ value.values_of (map (arranged leaf) vs)
values-arranged leaf [] = refl
values-arranged leaf (v ∷ vs) = ap (λ ws. value (arranged leaf v) ws) (values-arranged leaf vs)

pub values-nan : (vs : List Value) → have_nan (value.values_of vs) ≡ list_any has_nan vs
values-nan [] = refl
values-nan (v ∷ vs) = ap (λ b. has_nan v || b) (values-nan vs)

pub pairs-nan : (ps : List (List ℕ × JsonValue))
    → pairs_have_nan (value.pairs_of (viewed ps)) ≡ list_any has_nan (map view (values_of ps))
pairs-nan [] = refl
pairs-nan (p ∷ ps) = ap (λ b. has_nan (view p.1) || b) (pairs-nan ps)

pub ruleset views = (
  view-Array,
  view-Object,
  view-Short,
  view-String,
  view-Number,
  view-Null,
  view-Boolean,
  values-arranged,
  values-nan,
  pairs-nan,
)
