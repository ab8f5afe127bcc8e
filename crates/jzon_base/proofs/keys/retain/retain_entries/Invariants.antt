use Rattle.jzon_base.proofs.Common.{length, zip, CalledAtPair, TakesPair}
use Rattle.jzon_base.proofs.Entries.Retention.{IsSifted}
use Rattle.jzon_base.proofs.keys.retain.retain_entries.Given as goal

abbrev pub invariant-loop-at : goal.invariant-loop-at
invariant-loop-at g l = IsSifted (CalledAtPair g.F.FnMut) (TakesPair g.F.FnMut) l.initial.keep
    (zip l.initial.keys.items l.initial.values.items) (length l.initial.keys.items) l.keep l.keys.items
    l.values.items l.kept l.at
