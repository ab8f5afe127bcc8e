use Rattle.std.proofs.Common.{◌≤◌, ◌∙◌, [], ◌∷◌, refl, ap, arith}
use Rattle.jzon.specs.Entries.{entries_of}
use Rattle.jzon.specs.Measure.{size, largest_under}
use Rattle.jzon.specs.Text.{compact}
use Rattle.jzon.specs.Value.{object}
use Rattle.jzon.proofs.FormattedPieces.{none_shown, item_shown, items_shown}
use Rattle.jzon_tools.proofs.CanonicalPieces.{adds_both, adds_equal, item_text, entry_text, item_nan}
use Rattle.jzon_tools.proofs.CanonicalPieces.{entry_nan, array_written, no_nan_more}
use Rattle.jzon_tools.proofs.CanonicalPieces.{no_nan_all, array_nan, object_nan}
use Rattle.jzon_tools.proofs.CanonicalPieces.{object_written, sorted_whole}
use Rattle.jzon_tools.proofs.SortedCopies.{size-pointed}
use Rattle.jzon_tools.proofs.canonical.+write.Goals as goal

pub write_array-loop-index-init : goal.write_array-loop-index-init
write_array-loop-index-init g t c =
    ((91 ∷ [], c.in_ok-write_char.ensures.bytes, none_shown item_text 91 93 c.args.items.now), refl)

pub write_array-loop-index-preserved : goal.write_array-loop-index-preserved
write_array-loop-index-preserved g t c =
    let items = c.args.items.now in
    let i = c.loop-index.index in
    let x = c.index-items-index.result in
    let so_far = c.loop-index.invariant in (
      (
        _,
        adds_both _ _ _ _ _ (adds_both _ _ _ _ _ so_far.0.1 c.in_ok-write_comma.ensures)
            c.in_ok-write_value.ensures.text,
        item_shown item_text 91 93 items i x (omega arith) c.index-items-index.is so_far.0.0 so_far.0.2,
      ),
      no_nan_more item_nan items i x (omega arith) c.index-items-index.is c.in_ok-write_value.ensures.nan so_far.1,
    )

pub write_array-returns-clause-text : goal.write_array-returns-clause-text
write_array-returns-clause-text g t c =
    let items = c.args.items.now in
    let so_far = c.loop-index.invariant in
    adds_equal _ _ _ _
    (items_shown item_text 91 93 items c.loop-index.index (omega arith) so_far.0.0 so_far.0.2 ∙ array_written items)
    (adds_both _ _ _ _ _ so_far.0.1 c.in_ok-write_char-2.ensures.bytes)

pub write_array-returns-clause-nan : goal.write_array-returns-clause-nan
write_array-returns-clause-nan g t c =
    array_nan c.args.items.now
    ∙ no_nan_all item_nan c.args.items.now c.loop-index.index (omega arith) c.loop-index.invariant.1

pub write_object-loop-index-init : goal.write_object-loop-index-init
write_object-loop-index-init g t c =
    ((123 ∷ [], c.in_ok-write_char.ensures.bytes, none_shown entry_text 123 125 c.deref-entry-items.result.now), refl)

pub write_object-write_value-requires : goal.write_object-write_value-requires
write_object-write_value-requires g t c κs within =
    let ps = entries_of c.args.object.now in
    let es = c.deref-entry-items.result.now in
    let small : size c.entry-item.result.1.now ≤ largest_under ps =
    size-pointed ps es c.loop-index.index c.entry-item.result c.loop-index-test.true c.entry-item.is
    (rw c.deref-entry-items.ensures.value c.in_ok-entries.ensures.same) in
    (omega (arith, small, c.decreases), within)

pub write_object-loop-index-preserved : goal.write_object-loop-index-preserved
write_object-loop-index-preserved g t c =
    let es = c.deref-entry-items.result.now in
    let i = c.loop-index.index in
    let e = c.entry-item.result in
    let so_far = c.loop-index.invariant in (
      (
        _,
        adds_both _ _ _ _ _ (adds_both _ _ _ _ _ so_far.0.1 c.in_ok-write_comma.ensures)
            (adds_both _ _ _ _ _ c.in_ok-write_string.ensures.bytes
            (adds_both _ _ _ _ _ c.in_ok-write_char-2.ensures.bytes c.in_ok-write_value.ensures.text)),
        item_shown entry_text 123 125 es i e c.loop-index-test.true c.entry-item.is so_far.0.0 so_far.0.2,
      ),
      no_nan_more entry_nan es i e c.loop-index-test.true c.entry-item.is c.in_ok-write_value.ensures.nan so_far.1,
    )

pub write_object-returns-clause-text : goal.write_object-returns-clause-text
write_object-returns-clause-text g t c =
    let es = c.deref-entry-items.result.now in
    let so_far = c.loop-index.invariant in
    let whole = sorted_whole (entries_of c.args.object.now) es
    (rw c.deref-entry-items.ensures.value c.in_ok-entries.ensures.same)
    (rw c.deref-entry-items.ensures.value c.in_ok-entries.ensures.sorted) in
    adds_equal _ _ _ _
    (items_shown entry_text 123 125 es c.loop-index.index (omega (arith, c.loop-index-test.false)) so_far.0.0 so_far.0.2
    ∙ object_written es ∙ ap (λ qs. compact (object qs)) whole)
    (adds_both _ _ _ _ _ so_far.0.1 c.in_ok-write_char-3.ensures.bytes)

pub write_object-returns-clause-nan : goal.write_object-returns-clause-nan
write_object-returns-clause-nan g t c =
    let es = c.deref-entry-items.result.now in
    object_nan (entries_of c.args.object.now) es (rw c.deref-entry-items.ensures.value c.in_ok-entries.ensures.same)
    ∙ no_nan_all entry_nan es c.loop-index.index c.loop-index-test.false c.loop-index.invariant.1
