use Rattle.std.proofs.Common.{◌≤◌, ◌∙◌, ap, arith}
use Rattle.jzon.specs.Entries.{entries_of}
use Rattle.jzon.specs.Measure.{size, largest_under}
use Rattle.jzon.specs.View.{view, viewed}
use Rattle.jzon.proofs.ValueLaws.{viewed-put}
use Rattle.jzon_tools.proofs.SortedCopies.{copied-next, copied-all, size-pointed}
use Rattle.jzon_tools.proofs.canonical.sorted_copies.+sorted.Goals as goal

pub sorted_object-sorted-requires : goal.sorted_object-sorted-requires
sorted_object-sorted-requires t c =
    let ps = entries_of c.args.object.now in
    let small : size c.loop-key-item.result.1.now ≤ largest_under ps =
    size-pointed ps c.deref-key-items.result.now c.loop-key.key-index c.loop-key-item.result c.loop-key-test.true
    c.loop-key-item.is (rw c.deref-key-items.ensures.value c.in_ok-entries.ensures.same) in
    (omega (arith, small, c.decreases), tt)

pub sorted_object-loop-key-preserved : goal.sorted_object-loop-key-preserved
sorted_object-loop-key-preserved t c =
    let e = c.loop-key-item.result in
    ap viewed c.in_ok-insert.ensures.ok ∙ viewed-put e.0.now c.in_ok-sorted.field-0 (entries_of c.loop-key.copy)
    ∙ copied-next (λ v. v) c.deref-key-items.result.now c.loop-key.key-index e
    (view c.in_ok-sorted.field-0) (viewed (entries_of c.loop-key.copy)) c.loop-key-test.true c.loop-key-item.is
    c.in_ok-sorted.ensures.sorted c.loop-key.invariant

pub sorted_object-returns-clause-copy : goal.sorted_object-returns-clause-copy
sorted_object-returns-clause-copy t c =
    copied-all (λ v. v) (entries_of c.args.object.now) c.deref-key-items.result.now c.loop-key.key-index
    (viewed (entries_of c.loop-key.copy)) c.loop-key-test.false
    (rw c.deref-key-items.ensures.value c.in_ok-entries.ensures.same)
    (rw c.deref-key-items.ensures.value c.in_ok-entries.ensures.sorted) c.loop-key.invariant
