use Rattle.jzon_base.proofs.Common.{◌+◌, ℕ, arith, prefix_len-le-length}
use lib.Count.{count_trailing_zeros}
use Rattle.jzon_tree.specs.Writing.{is_whitespace}
use Rattle.jzon.proofs.Texts.WhitespaceBlocks.{goes_on, ends_above, ends_after}
use Rattle.jzon.proofs.whitespace.rest_length.Goals as goal

pub returns-then-bytes-end-gt32 : goal.returns-then-bytes-end-gt32
returns-then-bytes-end-gt32 c =
    let run : ℕ = count_trailing_zeros 64 c.others_in_lanes-others.result in
    let counted = c.others_in_lanes-others.ensures.some c.if-others-ne0.true in
    let at = goes_on c.args.strict c.args.bytes.now c.loop-len.len run c.loop-len.invariant.1
    (omega (arith, counted)) in
    ends_above c.args.strict c.args.bytes.now (c.loop-len.len + run) at c.if-bytes-end-gt32.true

pub overflow_add-result : goal.overflow_add-result
overflow_add-result c =
    let run : ℕ = count_trailing_zeros 64 c.others_in_lanes-others.result in
    let counted = c.others_in_lanes-others.ensures.some c.if-others-ne0.true in
    let at = goes_on c.args.strict c.args.bytes.now c.loop-len.len run c.loop-len.invariant.1
    (omega (arith, counted)) in
    let whole = ends_after c.args.strict c.args.bytes.now (c.loop-len.len + run) c.whitespace_by_bytes.result at
    c.whitespace_by_bytes.ensures in
    omega (arith, whole, prefix_len-le-length (is_whitespace c.args.strict) c.args.bytes.now)

pub returns-then-others-ne0 : goal.returns-then-others-ne0
returns-then-others-ne0 c =
    let run : ℕ = count_trailing_zeros 64 c.others_in_lanes-others.result in
    let counted = c.others_in_lanes-others.ensures.some c.if-others-ne0.true in
    let at = goes_on c.args.strict c.args.bytes.now c.loop-len.len run c.loop-len.invariant.1
    (omega (arith, counted)) in
    ends_after c.args.strict c.args.bytes.now (c.loop-len.len + run) c.whitespace_by_bytes.result at
    c.whitespace_by_bytes.ensures

pub loop-len-preserved : goal.loop-len-preserved
loop-len-preserved c = (
  omega arith,
  goes_on c.args.strict c.args.bytes.now c.loop-len.len 16 c.loop-len.invariant.1
      (c.others_in_lanes-others.ensures.none c.if-others-ne0.false),
)

pub overflow_add-result-2 : goal.overflow_add-result-2
overflow_add-result-2 c =
    let whole = ends_after c.args.strict c.args.bytes.now c.loop-len.len c.whitespace_by_bytes-2.result
    c.loop-len.invariant.1 c.whitespace_by_bytes-2.ensures in
    omega (arith, whole, prefix_len-le-length (is_whitespace c.args.strict) c.args.bytes.now)

pub returns : goal.returns
returns c = ends_after c.args.strict c.args.bytes.now c.loop-len.len c.whitespace_by_bytes-2.result
    c.loop-len.invariant.1 c.whitespace_by_bytes-2.ensures
