use Rattle.jzon_base.proofs.Common.{◌≡◌, ◌+◌, ◌-◌, length, arith, prefix_len, prefix_len-le-length}
use Rattle.jzon_base.specs.Private.PlainBytes.{is_plain}
use Rattle.jzon_base.proofs.Strings.PlainBlocks.{prefix_ends, prefix_passes, ends_in_last}
use Rattle.jzon_base.proofs.util.plain.plain_by_ends.Goals as goal

pub returns-then-plain : goal.returns-then-plain
returns-then-plain g c = prefix_ends is_plain c.args.bytes.now g.row.N c.plain_in_lanes-plain.result (omega arith)
    c.plain_in_lanes-plain.ensures (omega arith)

pub returns : goal.returns
returns g c =
    let first = prefix_passes is_plain c.args.bytes.now g.row.N c.plain_in_lanes-plain.result (omega arith)
    c.plain_in_lanes-plain.ensures (omega arith) in
    ends_in_last c.args.bytes.now (length c.args.bytes.now - g.row.N) g.row.N c.plain_in_lanes.result (omega arith)
    c.plain_in_lanes.ensures (omega (arith, first))

pub overflow_add-result : goal.overflow_add-result
overflow_add-result g c =
    let first = prefix_passes is_plain c.args.bytes.now g.row.N c.plain_in_lanes-plain.result (omega arith)
    c.plain_in_lanes-plain.ensures (omega arith) in
    let whole : length c.args.bytes.now - g.row.N + c.plain_in_lanes.result ≡ prefix_len is_plain c.args.bytes.now =
    ends_in_last c.args.bytes.now (length c.args.bytes.now - g.row.N) g.row.N c.plain_in_lanes.result (omega arith)
    c.plain_in_lanes.ensures (omega (arith, first)) in
    omega (arith, prefix_len-le-length is_plain c.args.bytes.now)
