use Rattle.jzon_base.proofs.Common.{◌≡◌, ◌≤◌, ◌+◌, ◌∙◌, ap, arith, drop, length, take_rest, prefix_len}
use Rattle.jzon_base.specs.Private.PlainBytes.{is_plain}
use Rattle.jzon.proofs.Texts.AsciiRuns.{within_run}
use Rattle.jzon_pointer.proofs.LocatePlain.{string_plain}
use Rattle.jzon_pointer.proofs.locate.plain_end.Goals as goal

run : (c : goal.After-plain_len) → c.plain_len.result ≡ prefix_len is_plain (drop c.args.at c.args.bytes.now)
run c = c.plain_len.ensures ∙ ap (prefix_len is_plain) (take_rest c.args.bytes.now c.args.at)

pub overflow_add-result : goal.overflow_add-result
overflow_add-result c =
    let le : c.args.at + c.plain_len.result ≤ length c.args.bytes.now =
    within_run is_plain c.args.bytes.now c.args.at c.plain_len.result c.requires (run c) in
    omega arith

pub returns-clause-string : goal.returns-clause-string
returns-clause-string c = string_plain c.args.bytes.now c.args.at c.plain_len.result (run c)

pub returns-clause-within : goal.returns-clause-within
returns-clause-within c = within_run is_plain c.args.bytes.now c.args.at c.plain_len.result c.requires (run c)
