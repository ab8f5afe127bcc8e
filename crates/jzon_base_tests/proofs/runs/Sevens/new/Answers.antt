use Rattle.std.specs.List.{IsDistinct}
use Rattle.jzon_base.proofs.KeyIndex.Tables.{IsIndexOf-none}
use Rattle.jzon_base_tests.proofs.runs.Sevens.new.Goals as goal

pub invariant_of-result : goal.invariant_of-result
unfolding IsDistinct
invariant_of-result c = rw (c.new.ensures.items, c.new-2.ensures) (IsIndexOf-none, tt)
