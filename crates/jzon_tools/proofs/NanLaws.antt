-- What it says of a value that a NaN is inside, or isn't.
use Rattle.std.proofs.Common.{◌≡◌, ◌||◌, ◌∙◌, Bool, true, false, refl, sym}
use Rattle.std.proofs.lemmas.Bool.{false≢true, or_from, or_parts}
use Rattle.jzon.specs.Decimal.{nan}
use Rattle.jzon.specs.Lawful.{HasNoNan, HaveNoNan, PairsHaveNoNan}
use Rattle.jzon.specs.Value.{Value, number, array, object, Values, no_values, value, ValuePairs, no_pairs, pair}
use Rattle.jzon_tools.specs.Canonical.{has_nan, have_nan, pairs_have_nan}

-- P holds if and only if the test finds nothing
abbrev FindsNone : Bool → Type 0 → Type 0
FindsNone b P = (b ≡ false → P) × (P → b ≡ false)

none_of_two : {P Q : Type 0} (a b : Bool) → FindsNone a P → FindsNone b Q → FindsNone (a || b) (P × Q)
none_of_two a b first later = (
  λ e. let both = or_parts a b e in (first.0 both.0, later.0 both.1),
  λ h. or_from a b (first.1 h.0) (later.1 h.1),
)

mutual
  finds : (v : Value) → FindsNone (has_nan v) (HasNoNan v)
  finds (number nan) = (λ e. false≢true (sym e), λ h. absurd h)
  finds (array vs) = finds_among vs
  finds (object ps) = finds_under ps
  finds _ = (λ e. tt, λ h. refl)

  finds_among : (vs : Values) → FindsNone (have_nan vs) (HaveNoNan vs)
  finds_among no_values = (λ e. tt, λ h. refl)
  finds_among (value v vs) = none_of_two (has_nan v) (have_nan vs) (finds v) (finds_among vs)

  finds_under : (ps : ValuePairs) → FindsNone (pairs_have_nan ps) (PairsHaveNoNan ps)
  finds_under no_pairs = (λ e. tt, λ h. refl)
  finds_under (pair k v ps) = none_of_two (has_nan v) (pairs_have_nan ps) (finds v) (finds_under ps)

pub has_nan-true : (v : Value) → has_nan v ≡ true → HasNoNan v → ⊥
has_nan-true v e h = false≢true (sym ((finds v).1 h) ∙ e)

pub has_nan-false : (v : Value) → has_nan v ≡ false → HasNoNan v
has_nan-false v = (finds v).0

pub ruleset nan_laws = (has_nan-true, has_nan-false)
