use Rattle.std.proofs.Common.{◌≡◌, ◌≤◌, ◌*◌, ◌+◌, map}
use Rattle.std.specs.List.{list_any}
use Rattle.std.specs.Slice.Iter.{iter_rest}
use Rattle.jzon.specs.Measure.{size, largest}
use Rattle.jzon.specs.View.{view}
use Rattle.jzon_tools.specs.Canonical.{has_nan}
use Rattle.jzon_tools.proofs.canonical.+nan.Given as goal

-- no value so far has a NaN
abbrev pub invariant-any_has_nan-loop-value : goal.invariant-any_has_nan-loop-value
invariant-any_has_nan-loop-value l =
    (list_any has_nan (map view (iter_rest l.value-iterator)) ≡ list_any has_nan (map view (iter_rest l.values)))
    × (largest (iter_rest l.value-iterator) ≤ largest (iter_rest l.values))

abbrev pub decreases-has_nan : goal.decreases-has_nan
decreases-has_nan l = 2 * size l.value.now

abbrev pub decreases-any_has_nan : goal.decreases-any_has_nan
decreases-any_has_nan l = 2 * largest (iter_rest l.values) + 1
