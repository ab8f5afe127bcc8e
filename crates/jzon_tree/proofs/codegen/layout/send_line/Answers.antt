use Rattle.jzon_base.proofs.Common.{arith}
use Rattle.jzon_tree.proofs.Printing.Appends.{Sends-at_err}
use Rattle.jzon_tree.proofs.Printing.SpaceRuns.{take-line, line_stopped, line_continued, line_whole}
use Rattle.jzon_tree.proofs.codegen.layout.send_line.Goals as goal

pub returns-in_err-send-clause-bytes : goal.returns-in_err-send-clause-bytes
returns-in_err-send-clause-bytes g c =
    Sends-at_err _ _ _ _ c.from_residual.ensures.0
    (line_stopped c.args.spaces c.min-first.result _
    (take-line 63 c.min-first.result (omega (arith, c.min-first.ensures))) (omega (arith, c.min-first.ensures))
    _ _ c.in_err-send.ensures.bytes)

pub returns-then-first-spaces-clause-bytes : goal.returns-then-first-spaces-clause-bytes
returns-then-first-spaces-clause-bytes g c =
    line_continued c.args.spaces c.min-first.result _
    (take-line 63 c.min-first.result (omega (arith, c.min-first.ensures))) (omega (arith, c.min-first.ensures))
    _ _ _ _ c.in_ok-send.ensures.bytes c.send_spaces.ensures.bytes

pub returns-clause-bytes : goal.returns-clause-bytes
returns-clause-bytes g c =
    line_whole c.args.spaces c.min-first.result _
    (take-line 63 c.min-first.result (omega (arith, c.min-first.ensures))) (omega (arith, c.min-first.ensures))
    _ _ (omega (arith, c.if-first-spaces.false)) c.in_ok-send.ensures.bytes
