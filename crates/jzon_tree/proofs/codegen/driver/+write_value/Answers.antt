use Rattle.jzon_base.proofs.Common.{ℕ, List, [], ◌+◌, refl, sym, map, length, take, drop, arith, rules, subst}
use Rattle.jzon_base.proofs.Common.{take_all}
use Rattle.jzon_tree.specs.declared.value.JsonValue.{the_lemmas}
use Rattle.jzon_tree.specs.Entries.{entries_of}
use Rattle.jzon_tree.specs.Generator.{IsPrintedKey, Just, positions}
use Rattle.jzon_tree.specs.Lawful.{IsPair}
use Rattle.jzon_tree.specs.Private.Printing.{IsEntry}
use Rattle.jzon_tree.specs.Value.{Value}
use Rattle.jzon_tree.specs.View.{view, view_object, viewed}
use Rattle.jzon_tree.specs.Writing.{Writes}
use Rattle.jzon_tree.proofs.Printing.Emissions.{Added-nothing, PrintsIf-after, Failed-begins}
use Rattle.jzon_tree.proofs.Printing.Emissions.{Stopped-failed, PrintsIf-at_err, stored_ok, stored_err}
use Rattle.jzon_tree.proofs.Printing.Exits.{array_at_opening, array_at_indent, array_at_items, array_at_close, items_at_begin}
use Rattle.jzon_tree.proofs.Printing.Exits.{items_at_item, items_more, members_at_begin, members_at_entry, members_more}
use Rattle.jzon_tree.proofs.Printing.Exits.{object_at_opening, object_at_indent, object_at_members, object_at_close}
use Rattle.jzon_tree.proofs.Printing.Exits.{pair_value, after_key}
use Rattle.jzon_tree.proofs.Printing.OrderedEntries.{after_order, no_pair, some_pair, entry_named, answer_allowed, answer_order}
use Rattle.jzon_tree.proofs.Printing.OrderedEntries.{answer_length, most-at, map-at, map-take_more, length-map-take, not_empty}
use Rattle.jzon_tree.proofs.Printing.OrderedEntries.{length-viewed, keyed_more, named_more, pairs_named, whole_object}
use Rattle.jzon_tree.proofs.Printing.Members.{members_none}
use Rattle.jzon_tree.proofs.Printing.Writings.{some_writing}
use Rattle.jzon_tree.proofs.Printing.Orders.{order_within}
use Rattle.jzon_tree.proofs.codegen.driver.+write_value.Goals as goal

pub write_array-returns-in_err-try_write_char-clause-written :
    goal.write_array-returns-in_err-try_write_char-clause-written
write_array-returns-in_err-try_write_char-clause-written g t c =
    array_at_opening _ (g.met.G.Generator.style_law c.args.g.now) (map view c.args.items.now)
    (not_empty c.args.items.now c.is_empty.result c.is_empty.ensures c.if-is_empty.false) _ _
    c.from_residual.ensures.0 c.in_err-try_write_char.ensures.bytes

pub write_array-returns-in_err-store-clause-written : goal.write_array-returns-in_err-store-clause-written
write_array-returns-in_err-store-clause-written g t c =
    array_at_indent _ (g.met.G.Generator.style_law c.args.g.now) (map view c.args.items.now)
    (not_empty c.args.items.now c.is_empty.result c.is_empty.ensures c.if-is_empty.false) _ _ _
    c.in_ok-try_write_char.ensures.bytes c.from_residual-in_err-store.ensures.0
    (rw (stored_err _ _ _ refl c.in_err-store.ensures.answer).1 at c.indent.ensures).1

pub write_array-returns-in_err-write_items-clause-written : goal.write_array-returns-in_err-write_items-clause-written
write_array-returns-in_err-write_items-clause-written g t c =
    array_at_items _ (g.met.G.Generator.style_law c.args.g.now) (map view c.args.items.now)
    (not_empty c.args.items.now c.is_empty.result c.is_empty.ensures c.if-is_empty.false) _ _ _
    c.in_ok-try_write_char.ensures.bytes _
    (rw (stored_ok _ _ _ refl c.in_ok-store.ensures.answer) at c.indent.ensures)
    c.from_residual-in_err-write_items.ensures.0
    c.in_err-write_items.ensures.written

pub write_array-returns-clause-written : goal.write_array-returns-clause-written
write_array-returns-clause-written g t c =
    array_at_close _ (g.met.G.Generator.style_law c.args.g.now) (map view c.args.items.now)
    (not_empty c.args.items.now c.is_empty.result c.is_empty.ensures c.if-is_empty.false) _ _ _
    c.in_ok-try_write_char.ensures.bytes _
    (rw (stored_ok _ _ _ refl c.in_ok-store.ensures.answer) at c.indent.ensures) _ c.in_ok-write_items.ensures.written
    c.close.ensures.bytes

pub write_items-returns-in_err-begin_item-clause-written : goal.write_items-returns-in_err-begin_item-clause-written
write_items-returns-in_err-begin_item-clause-written g t c =
    let items = c.args.items.now in
    let i = c.loop-index.index in
    let x = c.index-items-index.result in
    rw (map-at view items i x (omega arith) c.index-items-index.is)
    (items_at_begin _ (g.met.G.Generator.style_law c.args.g.now) (map view (take i items)) (view x)
    (map view (drop (i + 1) items)) _ _ c.loop-index.invariant.0 _ c.from_residual.ensures.0
    (rw (length-map-take view items i (omega arith)) c.in_err-begin_item.ensures.bytes))

pub write_items-returns-in_err-write_value-clause-written : goal.write_items-returns-in_err-write_value-clause-written
write_items-returns-in_err-write_value-clause-written g t c =
    let items = c.args.items.now in
    let i = c.loop-index.index in
    let x = c.index-items-index.result in
    rw (map-at view items i x (omega arith) c.index-items-index.is)
    (items_at_item _ (g.met.G.Generator.style_law c.args.g.now) (map view (take i items)) (view x)
    (map view (drop (i + 1) items)) _ _ c.loop-index.invariant.0 _
    (rw (length-map-take view items i (omega arith)) c.in_ok-begin_item.ensures.bytes) _
    c.from_residual-in_err-write_value.ensures.0 c.in_err-write_value.ensures.written)

pub write_items-loop-index-preserved : goal.write_items-loop-index-preserved
write_items-loop-index-preserved g t c =
    let items = c.args.items.now in
    let i = c.loop-index.index in
    let x = c.index-items-index.result in (
      rw (map-take_more view items i x (omega arith) c.index-items-index.is)
          (items_more _ (g.met.G.Generator.style_law c.args.g.now) (map view (take i items)) (view x)
          (map view (drop (i + 1) items)) _ _ c.loop-index.invariant.0 _
          (rw (length-map-take view items i (omega arith)) c.in_ok-begin_item.ensures.bytes)
          c.in_ok-write_value.ensures.written),
      keyed_more items i x (omega arith) c.index-items-index.is c.loop-index.invariant.1
          c.in_ok-write_value.ensures.value,
    )

pub write_pair-returns-in_err-try_write_key-clause-written : goal.write_pair-returns-in_err-try_write_key-clause-written
write_pair-returns-in_err-try_write_key-clause-written g t c =
    let a = g.G.Generator.meaning c.args.g.now in
    let e : List ℕ × Value = (c.args.key.now, view c.args.value.now) in
    PrintsIf-at_err _ _ _ _ _ c.from_residual.ensures.0 (λ keyed. Stopped-failed _ _ _
    (Failed-begins (IsPrintedKey a.style e.0) (IsEntry a.style a.dent e) _ _
    (after_key a.style a.dent e (g.met.G.Generator.style_law c.args.g.now) keyed) c.in_err-try_write_key.ensures.bytes))

pub write_pair-returns-clause-written : goal.write_pair-returns-clause-written
write_pair-returns-clause-written g t c =
    let a = g.G.Generator.meaning c.args.g.now in
    let e : List ℕ × Value = (c.args.key.now, view c.args.value.now) in
    PrintsIf-after (IsPrintedKey a.style e.0) (λ s d. Writes s d e.1) (IsEntry a.style a.dent e) _ _ _
    (pair_value a.style a.dent e) c.in_ok-try_write_key.ensures.bytes _ _ c.write_value.ensures.written

pub write_members-position_of-position-requires : goal.write_members-position_of-position-requires
write_members-position_of-position-requires g t c =
    let length_is = answer_length (g.G.Generator.meaning c.args.g.now).style (entries_of c.args.object.now)
    c.args.order.now c.requires in
    rw c.len.ensures.len (record {
      index_in_range = rw length_is
          (rw c.len-index-end.ensures.len at c.loop-index-test.true);
    })

pub write_members-get_at-requires : goal.write_members-get_at-requires
write_members-get_at-requires g t c =
    let entries = entries_of c.args.object.now in
    let length_is = answer_length (g.G.Generator.meaning c.args.g.now).style entries c.args.order.now c.requires in
    let within = order_within (length (viewed entries)) (positions (length entries) c.args.order.now)
    (answer_order (g.G.Generator.meaning c.args.g.now).style entries c.args.order.now c.requires) c.loop-index.index
    (rw length_is (rw c.len-index-end.ensures.len at c.loop-index-test.true)) in
    rw (c.position_of-position.ensures, c.len.ensures.len) (rw (length-viewed entries) at within)

pub write_members-loop-index-init : goal.write_members-loop-index-init
write_members-loop-index-init g t c =
    let a = g.G.Generator.meaning c.args.g.now in
    let entries = entries_of c.args.object.now in (
      Added-nothing _ a (members_none a.style a.dent (viewed entries) (positions (length entries) c.args.order.now)
          (answer_order a.style entries c.args.order.now c.requires)),
      λ k h. absurd (omega arith),
    )

pub write_members-write_pair-requires : goal.write_members-write_pair-requires
write_members-write_pair-requires g t c =
    let larger = most-at (entries_of c.args.object.now) c.position_of-position.result c.get_at.result.0.now
    c.get_at.result.1.now c.get_at.ensures in
    λ k within. (search (rules, larger, the_lemmas), within)

pub write_members-returns-in_err-begin_item-clause-written : goal.write_members-returns-in_err-begin_item-clause-written
write_members-returns-in_err-begin_item-clause-written g t c =
    let a = g.G.Generator.meaning c.args.g.now in
    let entries = entries_of c.args.object.now in
    let length_is = answer_length a.style entries c.args.order.now c.requires in
    members_at_begin a (g.met.G.Generator.style_law c.args.g.now) (viewed entries)
    (positions (length entries) c.args.order.now) (answer_order a.style entries c.args.order.now c.requires)
    c.loop-index.index _ (rw length_is (rw c.len-index-end.ensures.len at c.loop-index-test.true))
    (entry_named entries c.position_of-position.result _ c.get_at.result.0.now c.get_at.result.1.now
    (rw c.len.ensures.len at c.position_of-position.ensures) c.get_at.ensures)
    _ _ c.loop-index.invariant.0 _ c.from_residual.ensures.0 c.in_err-begin_item.ensures.bytes

pub write_members-returns-in_err-write_pair-clause-written : goal.write_members-returns-in_err-write_pair-clause-written
write_members-returns-in_err-write_pair-clause-written g t c =
    let a = g.G.Generator.meaning c.args.g.now in
    let entries = entries_of c.args.object.now in
    let length_is = answer_length a.style entries c.args.order.now c.requires in
    members_at_entry a (g.met.G.Generator.style_law c.args.g.now) (viewed entries)
    (positions (length entries) c.args.order.now) (answer_order a.style entries c.args.order.now c.requires)
    c.loop-index.index _ (rw length_is (rw c.len-index-end.ensures.len at c.loop-index-test.true))
    (entry_named entries c.position_of-position.result _ c.get_at.result.0.now c.get_at.result.1.now
    (rw c.len.ensures.len at c.position_of-position.ensures) c.get_at.ensures)
    _ _ c.loop-index.invariant.0 _ c.in_ok-begin_item.ensures.bytes _ c.from_residual-in_err-write_pair.ensures.0
    c.in_err-write_pair.ensures.written

pub write_members-loop-index-preserved : goal.write_members-loop-index-preserved
write_members-loop-index-preserved g t c =
    let a = g.G.Generator.meaning c.args.g.now in
    let entries = entries_of c.args.object.now in
    let length_is = answer_length a.style entries c.args.order.now c.requires in
    let here = entry_named entries c.position_of-position.result _ c.get_at.result.0.now c.get_at.result.1.now
    (rw c.len.ensures.len at c.position_of-position.ensures) c.get_at.ensures in (
      members_more a (g.met.G.Generator.style_law c.args.g.now) (viewed entries)
          (positions (length entries) c.args.order.now) (answer_order a.style entries c.args.order.now c.requires)
          c.loop-index.index _ (rw length_is (rw c.len-index-end.ensures.len at c.loop-index-test.true)) here
          _ _ c.loop-index.invariant.0 _ c.in_ok-begin_item.ensures.bytes c.in_ok-write_pair.ensures.written,
      named_more (viewed entries) (positions (length entries) c.args.order.now) c.loop-index.index
          (subst IsPair (sym here) c.in_ok-write_pair.ensures.value) c.loop-index.invariant.1,
    )

pub write_members-returns-clause-written : goal.write_members-returns-clause-written
write_members-returns-clause-written g t c =
    let length_is = answer_length (g.G.Generator.meaning c.args.g.now).style (entries_of c.args.object.now)
    c.args.order.now c.requires in
    rw (take_all c.loop-index.index (positions (length (entries_of c.args.object.now)) c.args.order.now)
    (omega (arith, length_is, c.len-index-end.ensures.len))) at c.loop-index.invariant.0

pub write_pairs-returns-in_err-order-clause-written : goal.write_pairs-returns-in_err-order-clause-written
write_pairs-returns-in_err-order-clause-written g t c =
    let a = g.G.Generator.meaning c.args.g.now in
    let v = view_object c.args.object.now in
    PrintsIf-at_err _ _ _ _ _ c.from_residual.ensures.0 (λ keyed. Stopped-failed _ _ _
    (Failed-begins (Just []) (Writes a.style a.dent v) _ _ (λ x e. rw e
    (some_writing a.style (g.met.G.Generator.style_law c.args.g.now) a.dent v keyed))
    (rw (stored_err _ _ _ refl c.in_err-order.ensures.answer).1 at c.order.ensures)))

pub write_pairs-returns-then-is_empty-clause-written : goal.write_pairs-returns-then-is_empty-clause-written
write_pairs-returns-then-is_empty-clause-written g t c =
    let order = rw (stored_ok _ _ _ refl c.in_ok-order.ensures.answer) at c.order.ensures in
    after_order _ _ _ (view_object c.args.object.now) _ _ order.0
    (no_pair _ _ (entries_of c.args.object.now) c.is_empty.result _ _ c.is_empty.ensures c.if-is_empty.true
    c.try_write.ensures.bytes)

pub write_pairs-returns-in_err-try_write_char-clause-written :
    goal.write_pairs-returns-in_err-try_write_char-clause-written
write_pairs-returns-in_err-try_write_char-clause-written g t c =
    let s = (g.G.Generator.meaning c.args.g.now).style in
    let es = entries_of c.args.object.now in
    let order = rw (stored_ok _ _ _ refl c.in_ok-order.ensures.answer) at c.order.ensures in
    after_order _ _ _ (view_object c.args.object.now) _ _ order.0
    (object_at_opening _ (g.met.G.Generator.style_law c.order.new.self) (viewed es)
    _ (answer_order s es _ order.1) (rw order.0.style (answer_allowed s es _ order.1))
    (some_pair es c.is_empty.result c.is_empty.ensures c.if-is_empty.false) _ _
    c.from_residual-in_err-try_write_char.ensures.0 c.in_err-try_write_char.ensures.bytes)

pub write_pairs-returns-in_err-store-clause-written : goal.write_pairs-returns-in_err-store-clause-written
write_pairs-returns-in_err-store-clause-written g t c =
    let s = (g.G.Generator.meaning c.args.g.now).style in
    let es = entries_of c.args.object.now in
    let order = rw (stored_ok _ _ _ refl c.in_ok-order.ensures.answer) at c.order.ensures in
    after_order _ _ _ (view_object c.args.object.now) _ _ order.0
    (object_at_indent _ (g.met.G.Generator.style_law c.order.new.self) (viewed es)
    _ (answer_order s es _ order.1) (rw order.0.style (answer_allowed s es _ order.1))
    (some_pair es c.is_empty.result c.is_empty.ensures c.if-is_empty.false) _ _ _ c.in_ok-try_write_char.ensures.bytes
    c.from_residual-in_err-store.ensures.0
    (rw (stored_err _ _ _ refl c.in_err-store.ensures.answer).1 at c.indent.ensures).1)

pub write_pairs-returns-in_err-write_members-clause-written :
    goal.write_pairs-returns-in_err-write_members-clause-written
write_pairs-returns-in_err-write_members-clause-written g t c =
    let s = (g.G.Generator.meaning c.args.g.now).style in
    let es = entries_of c.args.object.now in
    let order = rw (stored_ok _ _ _ refl c.in_ok-order.ensures.answer) at c.order.ensures in
    after_order _ _ _ (view_object c.args.object.now) _ _ order.0
    (object_at_members _ (g.met.G.Generator.style_law c.order.new.self) (viewed es)
    _ (answer_order s es _ order.1) (rw order.0.style (answer_allowed s es _ order.1))
    (some_pair es c.is_empty.result c.is_empty.ensures c.if-is_empty.false) _ _ _ c.in_ok-try_write_char.ensures.bytes _
    (rw (stored_ok _ _ _ refl c.in_ok-store.ensures.answer) at c.indent.ensures)
    c.from_residual-in_err-write_members.ensures.0 c.in_err-write_members.ensures.written)

pub write_pairs-returns-clause-written : goal.write_pairs-returns-clause-written
write_pairs-returns-clause-written g t c =
    let s = (g.G.Generator.meaning c.args.g.now).style in
    let es = entries_of c.args.object.now in
    let order = rw (stored_ok _ _ _ refl c.in_ok-order.ensures.answer) at c.order.ensures in
    after_order _ _ _ (view_object c.args.object.now) _ _ order.0
    (object_at_close _ (g.met.G.Generator.style_law c.order.new.self) (viewed es)
    _ (answer_order s es _ order.1) (rw order.0.style (answer_allowed s es _ order.1))
    (some_pair es c.is_empty.result c.is_empty.ensures c.if-is_empty.false) _ _ _ c.in_ok-try_write_char.ensures.bytes _
    (rw (stored_ok _ _ _ refl c.in_ok-store.ensures.answer) at c.indent.ensures) _ c.in_ok-write_members.ensures.written
    c.close.ensures.bytes)

pub write_members-returns-clause-value : goal.write_members-returns-clause-value
write_members-returns-clause-value g t c =
    let entries = entries_of c.args.object.now in
    let style = (g.G.Generator.meaning c.args.g.now).style in
    let length_is = answer_length style entries c.args.order.now c.requires in
    whole_object entries c.len-index-end.ensures.distinct
    (pairs_named (viewed entries) (positions (length entries) c.args.order.now)
    (answer_order style entries c.args.order.now c.requires)
    (λ k h. c.loop-index.invariant.1 k (omega (arith, length_is, c.len-index-end.ensures.len, h))))
