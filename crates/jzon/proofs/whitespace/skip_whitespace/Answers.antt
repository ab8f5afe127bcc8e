use Rattle.jzon_base.proofs.Common.{◌≡◌, ◌∙◌, ap, arith, drop, length, take, take_rest, ◌+◌, ◌-◌, ◌≤◌, prefix_len}
use Rattle.jzon_tree.specs.Writing.{is_whitespace}
use Rattle.jzon.specs.Private.Machine.{no_frames}
use Rattle.jzon.proofs.Containers.ContainerSteps.{whitespace_skips}
use Rattle.jzon.proofs.Texts.AsciiRuns.{before_skips, space_alone, from_skip, boundary_skip, stops_run, within_run}
use Rattle.jzon.proofs.whitespace.skip_whitespace.Goals as goal

run : (c : goal.After-whitespace_length) → c.whitespace_length.result
    ≡ prefix_len (is_whitespace c.args.reading.strict) (drop c.args.start c.args.source.now)
run c =
    c.whitespace_length.ensures ∙ ap (λ t. prefix_len (is_whitespace t)
    (take (length c.as_bytes.result.now - c.args.start) (drop c.args.start c.as_bytes.result.now))) c.strict.ensures
    ∙ ap (prefix_len (is_whitespace c.args.reading.strict))
    (ap (λ bs. take (length bs - c.args.start) (drop c.args.start bs)) c.as_bytes.ensures.value
    ∙ take_rest c.args.source.now c.args.start)

pub overflow_add-result-2 : goal.overflow_add-result-2
overflow_add-result-2 c =
    let le : c.args.start + c.whitespace_length.result ≤ length c.args.source.now =
    within_run (is_whitespace c.args.reading.strict) c.args.source.now c.args.start c.whitespace_length.result
    c.requires.0
    (run c) in
    omega arith

pub returns-then-is_above_space-2-clause-boundary : goal.returns-then-is_above_space-2-clause-boundary
returns-then-is_above_space-2-clause-boundary c =
    let next = c.is_above_space-then-has_byte.ensures in
    let whitespace = c.has_byte.ensures.0 c.if-has_byte.true in
    boundary_skip c.args.reading _ (is_whitespace c.args.reading.strict) c.args.source.now c.args.start 1
    (before_skips c.args.reading no_frames) c.utf8.source c.requires
    (space_alone c.args.reading.strict c.args.source.now c.args.start
    (next.within c.if-is_above_space-2.true) whitespace.1
    (next.above c.if-is_above_space-2.true))

pub returns-then-is_above_space-2-clause-outcome : goal.returns-then-is_above_space-2-clause-outcome
returns-then-is_above_space-2-clause-outcome c p allows =
    let next = c.is_above_space-then-has_byte.ensures in
    let whitespace = c.has_byte.ensures.0 c.if-has_byte.true in
    from_skip c.args.reading _ (is_whitespace c.args.reading.strict) c.args.source.now c.args.start 1
    (whitespace_skips c.args.reading p allows) c.utf8.source c.requires
    (space_alone c.args.reading.strict c.args.source.now c.args.start
    (next.within c.if-is_above_space-2.true) whitespace.1
    (next.above c.if-is_above_space-2.true))

pub returns-clause-boundary : goal.returns-clause-boundary
returns-clause-boundary c =
    boundary_skip c.args.reading _ (is_whitespace c.args.reading.strict) c.args.source.now c.args.start
    c.whitespace_length.result (before_skips c.args.reading no_frames) c.utf8.source c.requires (run c)

pub returns-clause-outcome : goal.returns-clause-outcome
returns-clause-outcome c p allows =
    from_skip c.args.reading _ (is_whitespace c.args.reading.strict) c.args.source.now c.args.start
    c.whitespace_length.result (whitespace_skips c.args.reading p allows) c.utf8.source c.requires (run c)

pub returns-clause-stop : goal.returns-clause-stop
returns-clause-stop c lt = stops_run (is_whitespace c.args.reading.strict) c.args.source.now c.args.start
    c.whitespace_length.result (run c) lt
