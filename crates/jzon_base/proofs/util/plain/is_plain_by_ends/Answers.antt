use Rattle.jzon_base.proofs.Common.{◌+◌, replicate, length-replicate}
use Rattle.std.proofs.lemmas.Bool.{eqb-true}
use Rattle.jzon_base.proofs.Strings.PlainBlocks.{plain_by_ends}
use Rattle.jzon_base.proofs.util.plain.is_plain_by_ends.Goals as goal

pub returns : goal.returns
returns g c = λ none.
    let n = g.row.N in
    plain_by_ends c.args.bytes.now (replicate (n + n) 0) n (length-replicate (n + n) 0) c.requires.ends.0
    c.requires.ends.1 (rw c.requires.lanes.1 at (c.escapes_in_lanes.ensures.none (eqb-true _ 0 none)))
