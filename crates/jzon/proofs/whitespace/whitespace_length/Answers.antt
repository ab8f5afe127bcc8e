use Rattle.jzon_base.proofs.Common.{ℕ, arith, prefix_len-le-length}
use lib.Count.{count_trailing_zeros}
use Rattle.jzon_tree.specs.Writing.{is_whitespace}
use Rattle.jzon.proofs.Texts.WhitespaceBlocks.{in_any, ends_above, ends_after}
use Rattle.jzon.proofs.whitespace.whitespace_length.Goals as goal

pub overflow_add-result : goal.overflow_add-result
overflow_add-result c =
    let block = in_any c.args.strict c.args.bytes.now 16 (c.unusual_in_lanes-others.ensures.none c.if-others-eq0.true) in
    let whole = ends_after c.args.strict c.args.bytes.now 16 c.rest_length.result block c.rest_length.ensures in
    omega (arith, whole, prefix_len-le-length (is_whitespace c.args.strict) c.args.bytes.now)

pub returns-then-others-eq0 : goal.returns-then-others-eq0
returns-then-others-eq0 c =
    let block = in_any c.args.strict c.args.bytes.now 16 (c.unusual_in_lanes-others.ensures.none c.if-others-eq0.true) in
    ends_after c.args.strict c.args.bytes.now 16 c.rest_length.result block c.rest_length.ensures

pub returns-then-bytes-end-gt32 : goal.returns-then-bytes-end-gt32
returns-then-bytes-end-gt32 c =
    let run : ℕ = count_trailing_zeros 64 c.unusual_in_lanes-others.result in
    let counted = c.unusual_in_lanes-others.ensures.some c.if-others-eq0.false in
    ends_above c.args.strict c.args.bytes.now run (in_any c.args.strict c.args.bytes.now run counted)
    c.if-bytes-end-gt32.true
