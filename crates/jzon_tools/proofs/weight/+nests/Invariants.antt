use Rattle.std.proofs.Common.{◌≡◌, ◌≤◌, ◌*◌, ◌+◌, map, nat_lt}
use Rattle.std.specs.List.{list_all}
use Rattle.std.specs.Slice.Iter.{iter_rest}
use Rattle.jzon.specs.Measure.{size, largest}
use Rattle.jzon.specs.Value.{nest}
use Rattle.jzon.specs.View.{view}
use Rattle.jzon_tools.proofs.weight.+nests.Given as goal

-- the values so far are not too deep
abbrev pub invariant-all_nest_within-loop-value : goal.invariant-all_nest_within-loop-value
invariant-all_nest_within-loop-value l =
    (list_all (λ v. nat_lt (nest v) l.depth) (map view (iter_rest l.value-iterator))
    ≡ list_all (λ v. nat_lt (nest v) l.depth) (map view (iter_rest l.values)))
    × (largest (iter_rest l.value-iterator) ≤ largest (iter_rest l.values))

abbrev pub decreases-nests_within : goal.decreases-nests_within
decreases-nests_within l = 2 * size l.value.now

abbrev pub decreases-all_nest_within : goal.decreases-all_nest_within
decreases-all_nest_within l = 2 * largest (iter_rest l.values) + 1
