use Rattle.std.proofs.Common.{◌≤◌, length}
use Rattle.jzon_pointer.proofs.LocateElements.{Reaches}
use Rattle.jzon_pointer.proofs.locate.element_at.Given as goal

abbrev pub invariant-loop-passed : goal.invariant-loop-passed
invariant-loop-passed l = record {
  within : (l.start ≤ l.at) × (l.at ≤ length l.bytes);
  reaches : Reaches l.bytes l.start l.index l._passed l.at;
}
