use Rattle.jzon.specs.Entries.{entries_of}
use Rattle.jzon.specs.View.{viewed}
use Rattle.jzon_tools.proofs.MergeDiffSteps.{RemovesBut}
use Rattle.jzon_tools.proofs.merge.changes.removed.Given as goal

abbrev pub invariant-loop-key : goal.invariant-loop-key
invariant-loop-key l =
    RemovesBut l.key-iterator (viewed (entries_of l.from)) (viewed (entries_of l.to)) (viewed (entries_of l.patch))
