use Rattle.jzon_base.proofs.Common.{◌-◌, length}
use Rattle.jzon.specs.Private.OpenContainers.{before_item, KeepsAround, IsBeforeItem}
use Rattle.jzon.proofs.Texts.Cursors.{Reached}
use Rattle.jzon.proofs.parser.Parser.read_items.Given as goal

abbrev pub invariant-loop-self : goal.invariant-loop-self
invariant-loop-self l = record {
  kept : KeepsAround l.initial.self.stacks l.self.stacks;
  before : IsBeforeItem l.self.cursor l.self.stacks;
  came : Reached l.initial.self.cursor (before_item l.initial.self.stacks) l.self.cursor (before_item l.self.stacks);
}

abbrev pub decreases-loop-self : goal.decreases-loop-self
decreases-loop-self l = length l.self.cursor.source.now - l.self.cursor.index
