use Rattle.jzon_base.proofs.Common.{◌≡◌, ◌<◌, ◌+◌, ◌++◌, ◌∷◌, ◌∙◌, [], length, get_or, take, map, refl, sym, ap, subst}
use Rattle.jzon_base.proofs.Common.{arith, rules, false≢true, take_all, take_more, map-append, get_or-map}
use Rattle.std.proofs.Math.ListN.{length-map}
use Rattle.jzon_tree.specs.declared.value.JsonValue.{the_lemmas}
use Rattle.jzon_tree.specs.Entries.{entries_of}
use Rattle.jzon_tree.specs.View.{view}
use Rattle.jzon_tree.proofs.Values.Inspections.{AreReadable, readable_more, readable_at, inside, inside_more, inside_at}
use Rattle.jzon_tree.proofs.Values.Inspections.{object_readable}
use Rattle.jzon_tree.proofs.Printing.OrderedEntries.{whole_object, pairs_more, most-at}
use Rattle.jzon_tree.proofs.value.readable.+is_readable.Goals as goal

pub are_items_readable-returns-then-not-is_readable_inside-clause-readable :
    goal.are_items_readable-returns-then-not-is_readable_inside-clause-readable
are_items_readable-returns-then-not-is_readable_inside-clause-readable t c =
    let js = c.args.items.now in
    let i = c.loop-item.item-index in
    let x = c.item-item.result in
    let l : i < length js = omega arith in
    let at : get_or (map view js) i (view x) ≡ view x = get_or-map view js i x (view x) l ∙ ap view (sym c.item-item.is) in (
      λ e. absurd (false≢true e),
      λ h. absurd (false≢true (sym c.if-not-is_readable_inside.true
          ∙ c.is_readable_inside.ensures.readable.1 (readable_at (map view js) i (view x) c.args.depth
          (omega (arith, l, length-map js view)) at h))),
    )

pub are_items_readable-loop-item-preserved : goal.are_items_readable-loop-item-preserved
are_items_readable-loop-item-preserved t c =
    let js = c.args.items.now in
    let i = c.loop-item.item-index in
    let x = c.item-item.result in
    let l : i < length js = omega arith in
    let more : map view (take (i + 1) js) ≡ map view (take i js) ++ view x ∷ [] =
    ap (map view) (take_more js i x l ∙ ap (λ y. take i js ++ y ∷ []) (sym c.item-item.is))
    ∙ map-append view (take i js) (x ∷ []) in
    subst (λ vs. AreReadable vs c.args.depth) (sym more)
    (readable_more (map view (take i js)) (view x) c.args.depth c.loop-item.invariant
    (c.is_readable_inside.ensures.value c.if-not-is_readable_inside.false)
    (c.is_readable_inside.ensures.readable.0 c.if-not-is_readable_inside.false))

pub is_object_readable-is_readable_inside-requires : goal.is_object_readable-is_readable_inside-requires
is_object_readable-is_readable_inside-requires t c =
    let larger = most-at (entries_of c.args.object.now) c.loop-index.index c.get_at.result.0.now c.get_at.result.1.now
    c.get_at.ensures in
    (search (rules, larger, the_lemmas), tt)

pub is_object_readable-returns-then-not-is_readable_inside-clause-readable :
    goal.is_object_readable-returns-then-not-is_readable_inside-clause-readable
is_object_readable-returns-then-not-is_readable_inside-clause-readable t c =
    let es = entries_of c.args.object.now in
    let i = c.loop-index.index in
    let v = c.get_at.result.1.now in
    let at = inside_at es i c.get_at.result.0.now v c.get_at.ensures in (
      λ e. absurd (false≢true e),
      λ h. absurd (false≢true (sym c.if-not-is_readable_inside.true
          ∙ c.is_readable_inside.ensures.readable.1 (readable_at (inside es) i (view v) c.args.depth at.0 at.1
          ((object_readable es c.args.depth).0 h)))),
    )

pub is_object_readable-loop-index-preserved : goal.is_object_readable-loop-index-preserved
is_object_readable-loop-index-preserved t c =
    let es = entries_of c.args.object.now in
    let i = c.loop-index.index in
    let k = c.get_at.result.0.now in
    let v = c.get_at.result.1.now in
    let value = c.is_readable_inside.ensures.value c.if-not-is_readable_inside.false in (
      pairs_more es i k v c.get_at.ensures (search rules) value c.loop-index.invariant.0,
      rw (inside_more es i k v c.get_at.ensures) (readable_more (inside (take i es)) (view v) c.args.depth
          c.loop-index.invariant.1 value (c.is_readable_inside.ensures.readable.0 c.if-not-is_readable_inside.false)),
    )

pub is_object_readable-returns-clause-value : goal.is_object_readable-returns-clause-value
is_object_readable-returns-clause-value t c = λ _.
    let es = entries_of c.args.object.now in
    let whole = take_all c.loop-index.index es (omega (arith, c.len-index-end.ensures.len)) in
    whole_object es c.len-index-end.ensures.distinct (rw whole at c.loop-index.invariant.0)

pub is_object_readable-returns-clause-readable : goal.is_object_readable-returns-clause-readable
is_object_readable-returns-clause-readable t c =
    let es = entries_of c.args.object.now in
    let whole = take_all c.loop-index.index es (omega (arith, c.len-index-end.ensures.len)) in
    let all : AreReadable (inside es) c.args.depth = rw whole at c.loop-index.invariant.1 in
    (λ _. (object_readable es c.args.depth).1 (all.clear, all.shallow), λ _. refl)
