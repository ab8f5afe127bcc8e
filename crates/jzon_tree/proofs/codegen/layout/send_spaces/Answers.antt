use Rattle.jzon_base.proofs.Common.{ℕ, arith, take-replicate}
use Rattle.jzon_tree.proofs.Printing.Appends.{Sends-at_err}
use Rattle.jzon_tree.proofs.Printing.SpaceRuns.{spaces_stopped, spaces_sent}
use Rattle.jzon_tree.proofs.codegen.layout.send_spaces.Goals as goal

pub returns-in_err-send-clause-bytes : goal.returns-in_err-send-clause-bytes
returns-in_err-send-clause-bytes g c =
    Sends-at_err _ _ _ _ c.from_residual.ensures.0
    (spaces_stopped c.args.spaces c.loop-left.left c.min-count.result _
    (take-replicate {X = ℕ} c.min-count.result 512 32 (omega (arith, c.min-count.ensures)))
    (omega (arith, c.min-count.ensures))
    c.loop-left.invariant.0 _ _ _ c.loop-left.invariant.1 c.in_err-send.ensures.bytes)

pub loop-left-preserved : goal.loop-left-preserved
loop-left-preserved g c = (
  omega (arith, c.min-count.ensures),
  spaces_sent c.args.spaces c.loop-left.left c.min-count.result _
      (take-replicate {X = ℕ} c.min-count.result 512 32 (omega (arith, c.min-count.ensures)))
      (omega (arith, c.min-count.ensures))
      c.loop-left.invariant.0 _ _ _ c.loop-left.invariant.1 c.in_ok-send.ensures.bytes,
)
