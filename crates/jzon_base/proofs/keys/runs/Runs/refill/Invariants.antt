use Rattle.jzon_base.proofs.Common.{◌≡◌, length}
use Rattle.jzon_base.proofs.KeyIndex.Refills.{AreRefilled}
use Rattle.jzon_base.proofs.keys.runs.Runs.refill.Given as goal

abbrev pub invariant-loop-at : goal.invariant-loop-at
invariant-loop-at l = record {
  count : length l.self-inside.runs.items ≡ length l.initial.self-inside.runs.items;
  refilled : AreRefilled l.keys l.self-inside.runs.items l.from l.at;
}
