use Rattle.jzon_base.proofs.Common.{zip}
use Rattle.jzon_base.proofs.Entries.Merges.{IsMerging}
use Rattle.jzon_base.proofs.keys.put_each.Given as goal

abbrev pub invariant-loop-at : goal.invariant-loop-at
invariant-loop-at g l = IsMerging (zip l.initial.keys.items l.initial.values.items) l.keys.items l.values.items l.index
    l.kept l.at
