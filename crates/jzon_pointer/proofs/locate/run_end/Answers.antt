use Rattle.jzon_base.proofs.Common.{◌≤◌, ◌+◌, ◌∙◌, ap, arith, drop, drop-drop, length, length-drop, prefix_len, take_rest}
use Rattle.jzon.specs.Private.Lines.{is_below}
use Rattle.jzon_base.proofs.Strings.PlainBlocks.{prefix_ends, prefix_passes}
use Rattle.jzon.proofs.Texts.AsciiRuns.{within_run}
use Rattle.jzon_pointer.proofs.locate.run_end.Goals as goal

pub returns-then-run-lt-LANES : goal.returns-then-run-lt-LANES
returns-then-run-lt-LANES c =
    let p = is_below c.args.turn c.args.bound in
    let d = c.args.bytes.now in
    let i = c.loop-at.at in
    let ends = prefix_ends p (drop i d) 16 c.run_in_lanes-run.result (omega (arith, length-drop i d))
    c.run_in_lanes-run.ensures c.if-run-lt-LANES.true in
    omega (arith, ends, c.loop-at.invariant.1)

pub loop-at-preserved : goal.loop-at-preserved
loop-at-preserved c =
    let p = is_below c.args.turn c.args.bound in
    let d = c.args.bytes.now in
    let i = c.loop-at.at in
    let goes = prefix_passes p (drop i d) 16 c.run_in_lanes-run.result (omega (arith, length-drop i d))
    c.run_in_lanes-run.ensures (omega (arith, c.if-run-lt-LANES.false)) in
    (omega arith, omega (arith, goes, ap (prefix_len p) (drop-drop 16 i d), c.loop-at.invariant.1))

pub overflow_add-result-2 : goal.overflow_add-result-2
overflow_add-result-2 c =
    let p = is_below c.args.turn c.args.bound in
    let d = c.args.bytes.now in
    let i = c.loop-at.at in
    let le : i + c.run_by_bytes.result ≤ length d = within_run p d i c.run_by_bytes.result c.loop-at.invariant.0
    (c.run_by_bytes.ensures ∙ ap (prefix_len p) (take_rest d i)) in
    omega arith
