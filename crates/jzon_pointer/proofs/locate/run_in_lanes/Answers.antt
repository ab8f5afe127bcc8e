use Rattle.jzon_pointer.proofs.LocatePlain.{block_none, block_some}
use Rattle.jzon_pointer.proofs.locate.run_in_lanes.Goals as goal

pub returns-then-mask-eq0 : goal.returns-then-mask-eq0
returns-then-mask-eq0 c =
    block_none c.args.turn c.args.bound c.args.bytes.now c.args.start c.requires c.if-mask-eq0.true

pub returns-else-mask-eq0 : goal.returns-else-mask-eq0
returns-else-mask-eq0 c =
    block_some c.args.turn c.args.bound c.args.bytes.now c.args.start c.requires c.if-mask-eq0.false
