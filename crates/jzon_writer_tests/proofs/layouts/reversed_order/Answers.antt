use Rattle.std.proofs.Common.{sym}
use Rattle.std.proofs.lemmas.List.{length-map}
use Rattle.jzon.specs.Entries.{entries_of}
use Rattle.jzon.proofs.Sorted.{IsOrder_permuted}
use Rattle.jzon_writer_tests.proofs.layouts.reversed_order.Goals as goal

pub returns : goal.returns
returns c =
    rw (length-map (entries_of c.args.object.now) (λ p. p.0), sym c.len.ensures.len)
    (IsOrder_permuted c.len.result _ _ c.in_ok-positions.ensures c.reverse.ensures.permutation)
