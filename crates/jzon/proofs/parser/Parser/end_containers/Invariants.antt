use Rattle.jzon_base.proofs.Common.{◌≡◌, ◌<◌, ◌-◌, length}
use Rattle.jzon.specs.Private.Machine.{after_value}
use Rattle.jzon.specs.Private.OpenContainers.{frames_around, whole, HasAllValues}
use Rattle.jzon.proofs.Texts.Cursors.{Reached}
use Rattle.jzon.proofs.parser.Parser.end_containers.Given as goal

abbrev pub invariant-loop-self : goal.invariant-loop-self
invariant-loop-self l = record {
  strict : l.self.stacks.strict ≡ l.initial.self.stacks.strict;
  even : HasAllValues l.self.stacks.innermost.kind l.self.stacks.innermost;
  room : length l.self.stacks.around < l.self.cursor.reading.depth;
  came :
      Reached l.initial.self.cursor (after_value (frames_around l.initial.self.stacks)
      (whole l.initial.self.stacks.innermost)) l.self.cursor
      (after_value (frames_around l.self.stacks) (whole l.self.stacks.innermost));
}

abbrev pub decreases-loop-self : goal.decreases-loop-self
decreases-loop-self l = length l.self.cursor.source.now - l.self.cursor.index
