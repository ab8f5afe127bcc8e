use Rattle.jzon_base.proofs.Common.{◌≡◌, ◌-◌, length}
use Rattle.jzon.specs.Private.OpenContainers.{before_item, IsBeforeItem}
use Rattle.jzon.proofs.Texts.Cursors.{Reached}
use Rattle.jzon.proofs.parser.Parser.read_to_end.Given as goal

abbrev pub invariant-loop-kind : goal.invariant-loop-kind
invariant-loop-kind l = record {
  strict : l.self.stacks.strict ≡ l.self.cursor.reading.strict;
  before : IsBeforeItem l.self.cursor l.self.stacks;
  came : Reached l.initial.self.cursor (before_item l.initial.self.stacks) l.self.cursor (before_item l.self.stacks);
}

abbrev pub decreases-loop-kind : goal.decreases-loop-kind
decreases-loop-kind l = length l.self.cursor.source.now - l.self.cursor.index
