use Rattle.jzon_base.proofs.Common.{arith, rules, take, take_all}
use Rattle.jzon_tree.specs.declared.value.JsonValue.{the_lemmas}
use Rattle.jzon_tree.specs.Entries.{entries_of}
use Rattle.jzon_tree.specs.View.{view}
use Rattle.jzon_tree.proofs.Values.Inspections.{inside, inside_more, inspected_object}
use Rattle.jzon_tree.proofs.Printing.OrderedEntries.{whole_object, pairs_more, most-at}
use Rattle.jzon_tree.proofs.value.inspect.+inspect.Goals as goal

pub inspect_object-inspect-requires : goal.inspect_object-inspect-requires
inspect_object-inspect-requires t c =
    let larger = most-at (entries_of c.args.object.now) c.loop-index.index c.get_at.result.0.now c.get_at.result.1.now
    c.get_at.ensures in
    (search (rules, larger, the_lemmas), tt)

pub inspect_object-loop-index-preserved : goal.inspect_object-loop-index-preserved
inspect_object-loop-index-preserved t c =
    let es = entries_of c.args.object.now in
    let i = c.loop-index.index in (
      pairs_more es i c.get_at.result.0.now c.get_at.result.1.now c.get_at.ensures (search rules)
          c.inspect.ensures.value c.loop-index.invariant.0,
      rw (inside_more es i c.get_at.result.0.now c.get_at.result.1.now c.get_at.ensures)
          (c.with-found.ensures (inside (take i es)) (view c.get_at.result.1.now) c.loop-index.invariant.1
          c.inspect.ensures),
    )

pub inspect_object-returns : goal.inspect_object-returns
inspect_object-returns t c =
    let es = entries_of c.args.object.now in
    let whole = take_all c.loop-index.index es (omega (arith, c.len-index-end.ensures.len)) in
    inspected_object es _ (whole_object es c.len-index-end.ensures.distinct (rw whole at c.loop-index.invariant.0))
    (rw whole at c.loop-index.invariant.1)
