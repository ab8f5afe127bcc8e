use Rattle.jzon_base.proofs.Common.{arith}
use Rattle.jzon_base.specs.Private.PlainBytes.{is_plain}
use Rattle.jzon_base.proofs.Strings.PlainBlocks.{prefix_ends, prefix_passes}
use Rattle.jzon_base.proofs.util.plain.plain_len.Goals as goal

pub returns-then-plain-lt-HALF : goal.returns-then-plain-lt-HALF
returns-then-plain-lt-HALF c =
    prefix_ends is_plain c.args.bytes.now 16 c.plain_in_lanes-plain.result (omega arith) c.plain_in_lanes-plain.ensures
    (omega arith)

pub plain_after_half-requires : goal.plain_after_half-requires
plain_after_half-requires c =
    let first = prefix_passes is_plain c.args.bytes.now 16 c.plain_in_lanes-plain.result (omega arith)
    c.plain_in_lanes-plain.ensures (omega arith) in
    omega (arith, first)
