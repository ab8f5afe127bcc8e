use Rattle.jzon_base.proofs.Common.{◌≡◌, ◌+◌, ◌-◌, ◌≤◌, length, arith, prefix_len, prefix_len-le-length}
use Rattle.jzon_base.specs.Private.PlainBytes.{is_plain}
use Rattle.jzon_base.proofs.Strings.PlainBlocks.{passes_block, ends_in_block, ends_in_last}
use Rattle.jzon_base.proofs.util.plain.plain_after_half.Goals as goal

pub overflow_sub-last : goal.overflow_sub-last
overflow_sub-last c = omega (arith, c.requires, prefix_len-le-length is_plain c.args.bytes.now)

pub plain_in_lanes-requires-clause-room : goal.plain_in_lanes-requires-clause-room
plain_in_lanes-requires-clause-room c =
    omega (arith, c.requires, prefix_len-le-length is_plain c.args.bytes.now)

pub overflow_add-result : goal.overflow_add-result
overflow_add-result c =
    let half : 16 ≤ length c.args.bytes.now =
    omega (arith, c.requires, prefix_len-le-length is_plain c.args.bytes.now) in
    let whole : length c.args.bytes.now - 16 + c.plain_in_lanes.result ≡ prefix_len is_plain c.args.bytes.now =
    ends_in_last c.args.bytes.now (length c.args.bytes.now - 16) 16 c.plain_in_lanes.result (omega arith)
    c.plain_in_lanes.ensures (omega (arith, c.requires)) in
    omega (arith, prefix_len-le-length is_plain c.args.bytes.now)

pub returns-then-bytes-lt-BLOCK : goal.returns-then-bytes-lt-BLOCK
returns-then-bytes-lt-BLOCK c =
    let half : 16 ≤ length c.args.bytes.now =
    omega (arith, c.requires, prefix_len-le-length is_plain c.args.bytes.now) in
    ends_in_last c.args.bytes.now (length c.args.bytes.now - 16) 16 c.plain_in_lanes.result (omega arith)
    c.plain_in_lanes.ensures (omega (arith, c.requires))

pub returns-then-plain-lt-BLOCK : goal.returns-then-plain-lt-BLOCK
returns-then-plain-lt-BLOCK c =
    ends_in_block c.args.bytes.now c.loop-start.start 32 c.plain_in_lanes-plain.result (omega arith)
    c.plain_in_lanes-plain.ensures (omega arith) c.loop-start.invariant

pub loop-start-preserved : goal.loop-start-preserved
loop-start-preserved c =
    passes_block c.args.bytes.now c.loop-start.start 32 c.plain_in_lanes-plain.result (omega arith)
    c.plain_in_lanes-plain.ensures (omega arith) c.loop-start.invariant

pub returns : goal.returns
returns c =
    ends_in_last c.args.bytes.now (length c.args.bytes.now - 32) 32 c.plain_in_lanes-2.result (omega arith)
    c.plain_in_lanes-2.ensures (omega arith)

pub overflow_add-result-2 : goal.overflow_add-result-2
overflow_add-result-2 c =
    let whole : length c.args.bytes.now - 32 + c.plain_in_lanes-2.result ≡ prefix_len is_plain c.args.bytes.now =
    ends_in_last c.args.bytes.now (length c.args.bytes.now - 32) 32 c.plain_in_lanes-2.result (omega arith)
    c.plain_in_lanes-2.ensures (omega arith) in
    omega (arith, prefix_len-le-length is_plain c.args.bytes.now)
