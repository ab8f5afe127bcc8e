use Rattle.jzon_base.proofs.Common.{refl, arith}
use Rattle.jzon_base.proofs.Strings.PlainBlocks.{block_none, block_some}
use Rattle.jzon_base.proofs.util.plain.escapes_in_lanes.Goals as goal

pub returns-clause-none : goal.returns-clause-none
returns-clause-none g c = λ none. block_none _ _ _ c.args.bytes.now c.args.start g.row.N c.requires.room (omega arith)
    c.type_inv.bytes none refl

pub returns-clause-some : goal.returns-clause-some
returns-clause-some g c = λ some. block_some _ _ _ c.args.bytes.now c.args.start g.row.N c.requires.room (omega arith)
    c.type_inv.bytes some refl
