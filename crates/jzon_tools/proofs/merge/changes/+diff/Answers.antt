use Rattle.std.proofs.Common.{◌≡◌, Option, Ok, option_map, ap, sym, ◌∙◌, subst, refl, arith}
use Rattle.jzon.specs.Entries.{entries_of}
use Rattle.jzon.specs.Measure.{largest_under}
use Rattle.jzon.specs.Readers.{or_null}
use Rattle.jzon.specs.Value.{Value}
use Rattle.jzon.specs.View.{view, view_object, view_pairs, viewed}
use Rattle.jzon.proofs.ValueLaws.{view-Object}
use Rattle.jzon_tools.specs.MergeDiff.{AddsChange, MergesInto, NoneChanges}
use Rattle.jzon_tools.proofs.MergeDiffSteps.{apart-entries, change-none, change-put, changes-end, changes-next, changes-none, changes-start}
use Rattle.jzon_tools.proofs.MergeDiffSteps.{distinct-entries, empty-viewed, entries-object, got, if_some, kept-object, merges-alike, nested-none, put-viewed}
use Rattle.jzon_tools.proofs.merge.changes.+diff.Goals as goal

pub members-loop-key-init : goal.members-loop-key-init
members-loop-key-init t c =
    let to = entries_of c.args.to.now in
    let plain : c.into_iter-key-iterator.result ≡ to = cc in (
      changes-start (viewed c.into_iter-key-iterator.result) (viewed (entries_of c.args.from.now)) (viewed to)
          (viewed (entries_of c.in_ok-patch.patch)) (ap viewed plain) (distinct-entries to c.len-2.ensures.distinct)
          c.in_ok-patch.ensures.ok,
      omega (arith, ap largest_under plain),
    )

pub members-returns-then-not-branch-clause-none : goal.members-returns-then-not-branch-clause-none
members-returns-then-not-branch-clause-none t c =
    let from = entries_of c.args.from.now in
    let key = c.in-Some.key.now in
    let v = view c.in-Some.value.now in
    λ _. changes-none key v (viewed c.loop-key.key-iterator) (viewed c.next.new.self) (viewed from)
    (viewed (entries_of c.args.to.now)) (viewed (entries_of c.loop-key.patch)) (ap viewed c.in-Some.ensures.steps)
    (apart-entries from c.len.ensures.distinct) c.loop-key.invariant.0
    (subst (λ (o : Option Value). NoneChanges o v) (got key from c.get.result c.get.ensures)
    (c.in_ok-member.ensures.none (ap (λ b. Ok b) c.if-not-branch.true)))

pub members-loop-key-preserved : goal.members-loop-key-preserved
members-loop-key-preserved t c =
    let from = entries_of c.args.from.now in
    let key = c.in-Some.key.now in
    let v = view c.in-Some.value.now in
    let before = viewed (entries_of c.loop-key.patch) in
    let after = viewed (entries_of c.member.new.patch) in (
      changes-next key v (viewed c.loop-key.key-iterator) (viewed c.next.new.self) (viewed from)
          (viewed (entries_of c.args.to.now)) before after (ap viewed c.in-Some.ensures.steps) c.loop-key.invariant.0
          (subst (λ (o : Option Value). AddsChange key o v before after) (got key from c.get.result c.get.ensures)
          (c.in_ok-member.ensures.ok (ap (λ b. Ok b) c.if-not-branch.false))),
      omega (arith, c.loop-key.invariant.1, ap largest_under c.in-Some.ensures.steps),
    )

pub members-returns-clause-patch : goal.members-returns-clause-patch
members-returns-clause-patch t c =
    changes-end (viewed c.loop-key.key-iterator) (viewed (entries_of c.args.from.now))
    (viewed (entries_of c.args.to.now)) (viewed (entries_of c.loop-key.patch)) (ap viewed c.in-None.ensures.steps.0)
    (apart-entries (entries_of c.args.from.now) c.len.ensures.distinct) c.loop-key.invariant.0

pub nested-returns-in_default-clause-none : goal.nested-returns-in_default-clause-none
nested-returns-in_default-clause-none t c =
    let o = option_map (λ v. view v.now) c.args.old in
    λ _. nested-none o (view_object c.object_of.result.now) (view_pairs (entries_of c.args.to.now))
    (entries-object c.object_of.result.now _ c.object_of.ensures) (c.in_ok-change.ensures.none c.in_default.is)

pub nested-returns-then-has_object-clause-ok : goal.nested-returns-then-has_object-clause-ok
nested-returns-then-has_object-clause-ok t c =
    let o = option_map (λ v. view v.now) c.args.old in
    let n = view_object c.args.to.now in
    let u = c.object_of.result.now in
    let rs = viewed (entries_of c.in-Some.change) in
    λ _. change-none c.args.key.now o n (viewed (entries_of c.args.patch.now))
    (kept-object o (view_object u) n rs (sym c.has_object.ensures ∙ c.if-has_object.true)
    (entries-object u _ c.object_of.ensures)
    (empty-viewed (entries_of c.in-Some.change) (sym c.is_empty.ensures ∙ c.if-is_empty.true))
    (if_some c.in_ok-change.field-0 (λ p. MergesInto (view_object u) n (view_object p)) c.in-Some.change c.in-Some.is
    c.in_ok-change.ensures.patch))

pub nested-returns-clause-ok : goal.nested-returns-clause-ok
nested-returns-clause-ok t c =
    let o = option_map (λ v. view v.now) c.args.old in
    let n = view_object c.args.to.now in
    let u = c.object_of.result.now in
    let w = view_object c.in-Some.change in
    λ _. change-put c.args.key.now o n w (viewed (entries_of c.args.patch.now)) (viewed (entries_of c.insert.new.self))
    refl
    (merges-alike (view_object u) (or_null o) n w (entries-object u _ c.object_of.ensures)
    (if_some c.in_ok-change.field-0 (λ p. MergesInto (view_object u) n (view_object p)) c.in-Some.change c.in-Some.is
    c.in_ok-change.ensures.patch))
    (put-viewed c.args.key.now _ w (entries_of c.args.patch.now) (entries_of c.insert.new.self)
    c.in_ok-insert.ensures.ok (view-Object c.in-Some.change))
