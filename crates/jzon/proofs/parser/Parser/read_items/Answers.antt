use Rattle.jzon_base.proofs.Common.{◌≢◌, subst}
use Rattle.jzon.specs.Private.Brackets.{closer}
use Rattle.jzon.specs.Private.Cursor.{next_byte}
use Rattle.jzon.specs.Private.OpenContainers.{frames_around}
use Rattle.jzon.proofs.Containers.FrameViews.{fresh_is_empty}
use Rattle.jzon.proofs.parser.Parser.read_items.Goals as goal

pub read_value-requires-clause-some : goal.read_value-requires-clause-some
read_value-requires-clause-some c fresh =
    let s = c.loop-self.self.stacks in
    let first = fresh_is_empty s.innermost.kind (frames_around s) s.innermost fresh in
    subst (λ b. next_byte c.loop-self.self.cursor ≢ closer b) first.1 (c.loop-self.invariant.before.some first.0)
