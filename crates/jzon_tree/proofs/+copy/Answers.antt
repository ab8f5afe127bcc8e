use Rattle.jzon_base.proofs.Common.{◌≡◌, ◌∙◌, ◌+◌, ◌<◌, ◌++◌, ◌∷◌, [], ℕ, List, ap, map, take, length, get_or, arith, rules}
use Rattle.std.proofs.lemmas.List.{map-append, map_more}
use Rattle.jzon_tree.specs.Entries.{entries_of}
use Rattle.jzon_tree.specs.Value.{object}
use Rattle.jzon_tree.specs.View.{view}
use Rattle.jzon_tree.specs.declared.value.JsonValue.{JsonValue, the_lemmas}
use Rattle.jzon_tree.proofs.Values.Views.{view_pairs-zip, views}
use Rattle.jzon_tree.proofs.+copy.Goals.{clone::copy_items-in-Null, clone::copy_items-in-Short, clone::copy_items-in-Number}
use Rattle.jzon_tree.proofs.+copy.Goals.{clone::copy_items-in-Boolean}
use Rattle.jzon_tree.proofs.+copy.Goals.{clone::copy_items-in-String+in_ok-clone-in-String}
use Rattle.jzon_tree.proofs.+copy.Goals.{clone::copy_items-in-Object+in_ok-copy-in-Object}
use Rattle.jzon_tree.proofs.+copy.Goals.{clone::copy_items-in-Array+in_ok-copy_items-in-Array}
use Rattle.jzon_tree.proofs.+copy.Goals as goal

copied_next : (items old new : List JsonValue) (i : ℕ) (item made : JsonValue)
    → map view old ≡ map view (take i items) → i < length items → item ≡ get_or items i item
    → new ≡ old ++ made ∷ [] → view made ≡ view item → map view new ≡ map view (take (i + 1) items)
copied_next items old new i item made copied within is pushed same =
    let a : map view (old ++ made ∷ []) ≡ map view old ++ view made ∷ [] = map-append view old (made ∷ []) in
    let b : map view (take (i + 1) items) ≡ map view (take i items) ++ view (get_or items i item) ∷ [] =
    map_more view items i item within in
    cc

pub clone::copy_items-loop-item-preserved : goal.clone::copy_items-loop-item-preserved
clone::copy_items-loop-item-preserved t c =
    let items = c.args.items.now in
    let old = c.loop-item.copies.items in
    let i = c.loop-item.item-index in
    let item = c.item-item.result in
    let copied = c.loop-item.invariant.copied in
    elim c.match-item.branch [
      | clone::copy_items-in-Null w ↦ rw w.copies-is (record {
        copied = copied_next items old _ i item _ copied c.loop-item-test.true c.item-item.is
            w.push_reserved.ensures.items (cc);
        counted = omega arith;
        room = omega arith;
      })
      | clone::copy_items-in-Short w ↦ rw w.copies-is (record {
        copied = copied_next items old _ i item _ copied c.loop-item-test.true c.item-item.is
            w.push_reserved-in-Short.ensures.items (cc);
        counted = omega arith;
        room = omega arith;
      })
      | clone::copy_items-in-Number w ↦ rw w.copies-is (record {
        copied = copied_next items old _ i item _ copied c.loop-item-test.true c.item-item.is
            w.push_reserved-in-Number.ensures.items (cc);
        counted = omega arith;
        room = omega arith;
      })
      | clone::copy_items-in-Boolean w ↦ rw w.copies-is (record {
        copied = copied_next items old _ i item _ copied c.loop-item-test.true c.item-item.is
            w.push_reserved-in-Boolean.ensures.items (cc);
        counted = omega arith;
        room = omega arith;
      })
      | clone::copy_items-in-String+in_ok-clone-in-String w ↦ rw w.copies-is (record {
        copied = copied_next items old _ i item _ copied c.loop-item-test.true c.item-item.is
            w.push_reserved-in-String.ensures.items (search (rules, the_lemmas, views));
        counted = omega arith;
        room = omega arith;
      })
      | clone::copy_items-in-Object+in_ok-copy-in-Object w ↦ rw w.copies-is (record {
        copied = copied_next items old _ i item _ copied c.loop-item-test.true c.item-item.is
            w.push_reserved-in-Object.ensures.items (search (rules, the_lemmas, views));
        counted = omega arith;
        room = omega arith;
      })
      | clone::copy_items-in-Array+in_ok-copy_items-in-Array w ↦ rw w.copies-is (record {
        copied = copied_next items old _ i item _ copied c.loop-item-test.true c.item-item.is
            w.push_reserved-in-Array.ensures.items (search (rules, the_lemmas, views));
        counted = omega arith;
        room = omega arith;
      })
    ]

pub object::Object::copy-returns : goal.object::Object::copy-returns
object::Object::copy-returns t c =
    let pairs = entries_of c.args.self.now in
    rw c.in_ok-pairs.ensures
    (ap object (view_pairs-zip pairs c.in_ok-values.values.items
    (c.in_ok-values.ensures ∙ ap (map view) c.values.ensures)))
