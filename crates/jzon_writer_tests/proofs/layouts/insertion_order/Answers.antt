use Rattle.std.proofs.Common.{◌∙◌, ◌++◌, ◌∷◌, [], ap, sym}
use Rattle.jzon.proofs.Sorted.{insertion_more}
use Rattle.jzon_writer_tests.proofs.layouts.insertion_order.Goals as goal

pub loop-position-preserved : goal.loop-position-preserved
loop-position-preserved c = c.in_ok-push.ensures.items ∙ ap (λ ps. ps ++ c.loop-position.position ∷ [])
    c.loop-position.invariant ∙ sym (insertion_more c.loop-position.position)
