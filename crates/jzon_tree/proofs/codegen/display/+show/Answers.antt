use Rattle.jzon_base.proofs.Common.{[], ◌∷◌, ◌∙◌, sym, refl, List, ℕ, arith, rules, has_written_append}
use Rattle.jzon_base.proofs.Common.{has_written_of_eq}
use Rattle.std.proofs.lemmas.Option.{get_or_from_slice_get, slice_get_within}
use Rattle.jzon_tree.specs.declared.value.JsonValue.{JsonValue, the_lemmas}
use Rattle.jzon_tree.specs.Entries.{entries_of}
use Rattle.jzon_tree.proofs.Printing.OrderedEntries.{most-at}
use Rattle.jzon_tree.proofs.Printing.FormattedPieces.{item_shown, items_shown, none_shown, item_text, entry_text, array_shown}
use Rattle.jzon_tree.proofs.Printing.FormattedPieces.{object_shown}
use Rattle.jzon_tree.proofs.codegen.display.+show.Goals as goal

pub show_array-loop-index-init : goal.show_array-loop-index-init
show_array-loop-index-init g t c = λ plain.
    (91 ∷ [], c.in_ok-write_str.ensures.writes plain refl, none_shown item_text 91 93 c.args.items.now)

pub show_array-loop-index-preserved : goal.show_array-loop-index-preserved
show_array-loop-index-preserved g t c = λ plain.
    let so_far = c.loop-index.invariant plain in
    let comma = c.in_ok-show_comma.ensures so_far.1.plain refl in
    let item = c.in_ok-show.ensures comma.plain refl in
    let took = g.W.Write.write_str_gives in (
      _,
      has_written_append took _ _ _ _ _ (has_written_append took _ _ _ _ _ so_far.1 comma) item,
      item_shown item_text 91 93 c.args.items.now c.loop-index.index c.index-items-index.result (omega arith)
          c.index-items-index.is so_far.0 so_far.2,
    )

pub show_array-returns : goal.show_array-returns
show_array-returns g t c = λ plain ok.
    let so_far = c.loop-index.invariant plain in
    let took = g.W.Write.write_str_gives in
    has_written_of_eq took _ _ _ _
    (items_shown item_text 91 93 c.args.items.now c.loop-index.index (omega arith) so_far.0 so_far.2
    ∙ array_shown c.args.items.now)
    (has_written_append took _ _ _ _ _ so_far.1 (c.write_str-2.ensures.writes so_far.1.plain ok))

pub show_object-loop-index-init : goal.show_object-loop-index-init
show_object-loop-index-init g t c = λ plain. (
  123 ∷ [],
  c.in_ok-write_str.ensures.writes plain refl,
  none_shown entry_text 123 125
      (entries_of c.args.object.now),
)

pub show_object-show-requires : goal.show_object-show-requires
show_object-show-requires g t c κs within =
    let larger = most-at (entries_of c.args.object.now) c.loop-index.index c.get_at.result.0.now c.get_at.result.1.now
    c.get_at.ensures in
    (search (rules, larger, the_lemmas), within)

pub show_object-loop-index-preserved : goal.show_object-loop-index-preserved
show_object-loop-index-preserved g t c = λ plain.
    let entries = entries_of c.args.object.now in
    let entry : List ℕ × JsonValue = (c.get_at.result.0.now, c.get_at.result.1.now) in
    let so_far = c.loop-index.invariant plain in
    let comma = c.in_ok-show_comma.ensures so_far.1.plain refl in
    let key = c.in_ok-show_string.ensures comma.plain refl in
    let colon = c.in_ok-write_str-2.ensures.writes key.plain refl in
    let value = c.in_ok-show.ensures colon.plain refl in
    let took = g.W.Write.write_str_gives in (
      _,
      has_written_append took _ _ _ _ _ (has_written_append took _ _ _ _ _ so_far.1 comma)
          (has_written_append took _ _ _ _ _ key (has_written_append took _ _ _ _ _ colon value)),
      item_shown entry_text 123 125 entries c.loop-index.index entry
          (slice_get_within entries c.loop-index.index entry c.get_at.ensures)
          (sym (get_or_from_slice_get entries c.loop-index.index entry entry c.get_at.ensures)) so_far.0 so_far.2,
    )

pub show_object-returns : goal.show_object-returns
show_object-returns g t c = λ plain ok.
    let entries = entries_of c.args.object.now in
    let so_far = c.loop-index.invariant plain in
    let took = g.W.Write.write_str_gives in
    has_written_of_eq took _ _ _ _
    (items_shown entry_text 123 125 entries c.loop-index.index (omega (arith, c.len-index-end.ensures.len)) so_far.0
    so_far.2
    ∙ object_shown entries)
    (has_written_append took _ _ _ _ _ so_far.1 (c.write_str-2.ensures.writes so_far.1.plain ok))
