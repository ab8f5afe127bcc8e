use Rattle.jzon_base.proofs.Common.{◌≡◌, ◌≤◌, ◌+◌, ◌-◌, ◌∙◌, ap, arith, take, drop, length, take_rest, prefix_len}
use Rattle.jzon_base.specs.Private.PlainBytes.{is_plain}
use Rattle.jzon.proofs.Texts.AsciiRuns.{stops_run, within_run}
use Rattle.jzon.proofs.Strings.PlainRuns.{plain_boundary, plain_no_escape, plain_run}
use Rattle.jzon.proofs.string.plain_end.Goals as goal

run : (c : goal.After-plain_len) → c.plain_len.result ≡ prefix_len is_plain (drop c.args.start c.args.source.now)
run c =
    c.plain_len.ensures
    ∙ ap (prefix_len is_plain)
    (ap (λ bs. take (length bs - c.args.start) (drop c.args.start bs)) c.as_bytes.ensures.value
    ∙ take_rest c.args.source.now c.args.start)

pub overflow_add-result : goal.overflow_add-result
overflow_add-result c =
    let le : c.args.start + c.plain_len.result ≤ length c.args.source.now =
    within_run is_plain c.args.source.now c.args.start c.plain_len.result c.requires.0 (run c) in
    omega arith

pub returns-clause-boundary : goal.returns-clause-boundary
returns-clause-boundary c = plain_boundary c.args.source.now c.args.start c.plain_len.result c.requires.0 (run c)

pub returns-clause-stop : goal.returns-clause-stop
returns-clause-stop c lt = stops_run is_plain c.args.source.now c.args.start c.plain_len.result (run c) lt

pub returns-clause-no_escape : goal.returns-clause-no_escape
returns-clause-no_escape c = plain_no_escape c.args.source.now c.args.start c.plain_len.result (run c)

pub returns-clause-outcome : goal.returns-clause-outcome
returns-clause-outcome c r role bs =
    plain_run r role bs c.args.source.now c.args.start c.plain_len.result c.utf8.source c.requires (run c)
