use Rattle.std.proofs.Common.{◌≡◌, ◌≤◌, ◌-◌, ◌^◌, min, ℕ, List, length, map, Some, option_map, slice_get}
use Rattle.std.proofs.Common.{refl, sym, ap, ◌∙◌, arith}
use Rattle.std.proofs.lemmas.Option.{slice_get-map, slice_get_read}
use Rattle.jzon.specs.Entries.{entries_of}
use Rattle.jzon.specs.JsonValue.{JsonValue}
use Rattle.jzon.specs.Measure.{size, largest, largest_under}
use Rattle.jzon.specs.View.{view}
use Rattle.jzon.proofs.InPlace.{seen_member, unwritten, written-next, written-all, size-element, size-member}
use Rattle.jzon.proofs.InPlace.{member-present}
use Rattle.jzon_tools.specs.Redact.{hidden_count, redacted, redacted_member}
use Rattle.jzon_tools.proofs.RedactSteps.{counted-next, member-counted, member-redacted}
use Rattle.jzon_tools.proofs.redact.+redact.Goals.{redact_members-in-Some, redact_members-in_default}
use Rattle.jzon_tools.proofs.redact.+redact.Goals as goal

pub redact_elements-redact-requires : goal.redact_elements-redact-requires
redact_elements-redact-requires t c =
    let i = c.loop-item.item-index in
    let items = c.args.items.now.items in
    let names = map (λ n. n.now) c.args.names.now in
    let there : slice_get c.loop-item.item-items i ≡ Some c.item-item.result =
    slice_get_read c.loop-item.item-items (length c.loop-item.item-items) i c.item-item.result refl (omega arith)
    c.item-item.is in
    let first : slice_get items i ≡ Some c.item-item.result =
    ap (λ xs. slice_get xs i) (sym c.deref_mut-item-items.ensures.value)
    ∙ sym (unwritten view (redacted names) i c.deref_mut-item-items.result.now c.loop-item.item-items
    c.loop-item.invariant.written) ∙ there in
    let small : size c.item-item.result ≤ largest items = size-element i items c.item-item.result first in
    (omega (arith, small, ap size c.item-item.is, c.decreases), tt)

pub redact_elements-loop-item-preserved : goal.redact_elements-loop-item-preserved
redact_elements-loop-item-preserved t c =
    let i = c.loop-item.item-index in
    let names = map (λ n. n.now) c.args.names.now in
    let old = c.deref_mut-item-items.result.now in
    let x = c.item-item.result in
    let there : slice_get c.loop-item.item-items i ≡ Some x =
    slice_get_read c.loop-item.item-items (length c.loop-item.item-items) i x refl (omega arith) c.item-item.is in
    record {
      written = written-next view (redacted names) i old c.loop-item.item-items x c.redact.new.value
          c.loop-item.invariant.written there
          (c.redact.ensures.value ∙ ap (λ v. redacted names (view v)) (sym c.item-item.is));
      counted = c.saturating_add-count.ensures ∙ counted-next (hidden_count names) (map view old) i (view x) c.loop-item.count
          c.redact.result (slice_get-map view old i ∙ ap (option_map view)
          (sym (unwritten view (redacted names) i old c.loop-item.item-items c.loop-item.invariant.written) ∙ there))
          c.loop-item.invariant.counted
          (c.redact.ensures.count ∙ ap (λ v. min (hidden_count names (view v)) (2 ^ 64 - 1)) (sym c.item-item.is));
    }

pub redact_members-redact_member-requires : goal.redact_members-redact_member-requires
redact_members-redact_member-requires t c =
    let i = c.loop-index.index in
    let names = map (λ n. n.now) c.args.names.now in
    let small : size c.in-Some.value.now ≤ largest_under (entries_of c.args.object.now) =
    size-member i (entries_of c.args.object.now) c.in-Some.value.now
    (c.in-Some.ensures.value ∙ ap (λ m. option_map (λ (p : List ℕ × JsonValue). p.1) m)
    (unwritten seen_member (redacted_member names) i (entries_of c.args.object.now) (entries_of c.loop-index.object)
    c.loop-index.invariant.written)) in
    (omega (arith, small, c.decreases), tt)

pub redact_members-loop-index-preserved : goal.redact_members-loop-index-preserved
redact_members-loop-index-preserved t c =
    let i = c.loop-index.index in
    let names = map (λ n. n.now) c.args.names.now in
    let old = entries_of c.args.object.now in
    let new = entries_of c.loop-index.object in
    elim c.match-get_index_mut.branch [
      | redact_members-in-Some w ↦ record {
        written = rw w.object-is
            (member-redacted names i old new (slice_get new i) c.hides_member-hides.result w.in-Some.value.now
            w.redact_member.new.value refl c.loop-index.invariant.written w.in-Some.ensures.value
            c.hides_member-hides.ensures w.redact_member.ensures.value);
        counted = w.count-is ∙ w.saturating_add-count.ensures
            ∙ member-counted names i old new (slice_get new i) c.hides_member-hides.result w.in-Some.value.now
            c.loop-index.count w.redact_member.result refl c.loop-index.invariant.written w.in-Some.ensures.value
            c.hides_member-hides.ensures c.loop-index.invariant.counted w.redact_member.ensures.count;
      }
      | redact_members-in_default w ↦ absurd
          (member-present (redacted_member names) i old new c.get_index_mut.result c.loop-index.invariant.written
          (omega (arith, c.len-index-end.ensures.len, c.loop-index-test.true)) c.get_index_mut.ensures.value
          w.in_default.not-Some)
    ]

pub redact_members-returns-clause-value : goal.redact_members-returns-clause-value
redact_members-returns-clause-value t c =
    written-all seen_member (redacted_member (map (λ n. n.now) c.args.names.now)) c.loop-index.index
    (entries_of c.args.object.now) (entries_of c.loop-index.object) c.loop-index.invariant.written
    (omega (arith, c.len-index-end.ensures.len, c.loop-index-test.false))
