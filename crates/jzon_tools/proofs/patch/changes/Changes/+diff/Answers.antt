use Rattle.std.proofs.Common.{◌≡◌, ◌≤◌, ◌+◌, ◌-◌, suc, List, ℕ, map, ◌∷◌, [], None, Some, refl, sym, ap, ◌∙◌, subst, arith, length, string_bytes}
use Rattle.std.specs.List.{IsDistinct}
use Rattle.std.proofs.lemmas.List.{length-map}
use Rattle.std.specs.Option.{option_copied}
use Rattle.std.specs.Str.{bytes_eq}
use Rattle.jzon.specs.Entries.{entries_of}
use Rattle.jzon.specs.Measure.{size, largest, largest_under}
use Rattle.jzon.specs.PairList.{find, keys_of}
use Rattle.jzon.specs.SameLaws.{same_at}
use Rattle.jzon.specs.Value.{Value}
use Rattle.jzon.specs.View.{view, viewed}
use Rattle.jzon.proofs.ValueLaws.{keys-viewed}
use Rattle.jzon_tools.specs.Diff.{AddsElements, AddsMember, IsBelow, operations_of}
use Rattle.jzon_pointer.specs.Escaped.{escaped}
use Rattle.jzon_pointer.specs.Names.{is_among}
use Rattle.jzon_tools.proofs.DiffElements.{element-changed, element-kept, elements-both, elements-end, elements-none, seen-at, size-item, to-is}
use Rattle.jzon_tools.proofs.DiffSteps.{member-changed, member-kept, member-added, member-removed, changes-none}
use Rattle.jzon_tools.proofs.DiffSteps.{objects-empty, size-found, seen, seen-there, on_ok, pending-start, pending-next, tail-apart, among-there}
use Rattle.jzon_tools.proofs.DiffSteps.{first-there, rest-there, awaited-start, awaited-next, awaited-same, progress-end, Progress, pending, awaited}
use Rattle.jzon_pointer.proofs.EscapedSteps.{pushed-tokens}
use Rattle.jzon_tools.proofs.patch.changes.Changes.+diff.Goals.{member-in-Some-Some-2+in_ok-value-in-Some-Some-2, member-in-Some-None+in_ok-remove-in-Some-None, member-in-None-Some+in_ok-add-in-None-Some, member-in-None-None}
use Rattle.jzon_tools.proofs.patch.changes.Changes.+diff.Goals as goal

pub change-loop-index-init : goal.change-loop-index-init
change-loop-index-init t c = (
  elements-none (string_bytes c.args.self.now.path) (map view c.args.from.now) (map view c.args.to.now)
      (c.args.start, c.args.start) (operations_of c.args.self.now) (operations_of c.args.self.now) refl,
  refl,
)

pub change-loop-index-preserved : goal.change-loop-index-preserved
change-loop-index-preserved t c =
    let path = string_bytes c.args.self.now.path in
    let us = map view c.args.from.now in
    let vs = map view c.args.to.now in
    let i = c.loop-index.index in
    let mid = operations_of c.loop-index.self in
    let after = operations_of c.element.new.self in (
      elements-both path us vs (c.args.start, c.args.start) (i, i) (i + 1, i + 1) (operations_of c.args.self.now) mid after
          c.loop-index.invariant.0
          (subst (λ (p : List ℕ). AddsElements p us vs (i, i) (i + 1, i + 1) mid after) c.loop-index.invariant.1
          c.in_ok-element.ensures.ok),
      c.in_ok-element.ensures.path ∙ c.loop-index.invariant.1,
    )

pub change-returns-clause-ok : goal.change-returns-clause-ok
change-returns-clause-ok t c =
    let i = c.loop-index.index in
    let last : i ≡ c.args.end = omega (arith, c.loop-index.auto.index-end, c.loop-index-test.false) in
    to-is (string_bytes c.args.self.now.path) (map view c.args.from.now) (map view c.args.to.now)
    (c.args.start, c.args.start) i i c.args.end c.args.end (operations_of c.args.self.now)
    (operations_of c.loop-index.self) last last c.loop-index.invariant.0

pub element-returns-then-eq-clause-ok : goal.element-returns-then-eq-clause-ok
element-returns-then-eq-clause-ok t c =
    let i = c.args.index in
    let us = map view c.args.from.now in
    let vs = map view c.args.to.now in
    let all = operations_of c.args.self.now in
    to-is (string_bytes c.args.self.now.path) us vs (i, i) (suc i) (suc i) (i + 1) (i + 1) all all (omega arith) (omega arith)
    (element-kept (string_bytes c.args.self.now.path) us vs i (view c.index-from-index.result)
    (view c.index-to-index.result) all all
    (seen-at c.args.from.now i c.index-from-index.result c.requires.index.0 c.index-from-index.is)
    (seen-at c.args.to.now i c.index-to-index.result c.requires.index.1 c.index-to-index.is)
    (sym c.eq.ensures ∙ c.if-eq.true) refl)

pub element-returns-clause-ok : goal.element-returns-clause-ok
element-returns-clause-ok t c =
    let path = string_bytes c.args.self.now.path in
    let i = c.args.index in
    let us = map view c.args.from.now in
    let vs = map view c.args.to.now in
    let before = operations_of c.args.self.now in
    let after = operations_of c.value.new.self in
    to-is path us vs (i, i) (suc i) (suc i) (i + 1) (i + 1) before after (omega arith) (omega arith)
    (element-changed path (string_bytes c.push_index.new.path) us vs i (view c.index-from-index.result)
    (view c.index-to-index.result) before after (omega (arith, c.ranges.index.fits))
    (seen-at c.args.from.now i c.index-from-index.result c.requires.index.0 c.index-from-index.is)
    (seen-at c.args.to.now i c.index-to-index.result c.requires.index.1 c.index-to-index.is)
    c.in_ok-push_index.ensures.below c.in_ok-value.ensures.ok)

pub element-value-requires : goal.element-value-requires
element-value-requires t c =
    let small : size c.index-from-index.result ≤ largest c.args.from.now =
    size-item c.args.from.now c.args.index c.index-from-index.result c.requires.index.0 c.index-from-index.is in
    (omega (arith, small), tt)

pub elements-returns-clause-ok : goal.elements-returns-clause-ok
elements-returns-clause-ok t c =
    let path = string_bytes c.args.self.now.path in
    let us = map view c.args.from.now in
    let vs = map view c.args.to.now in
    let start = c.common-start.result.0 in
    let kept = c.common-start.result.1 in
    let both = c.min.result - kept in
    let k = length c.args.from.now - kept in
    let j = length c.args.to.now - kept in
    let before = operations_of c.args.self.now in
    let one = operations_of c.change.new.self in
    let two = operations_of c.cut.new.self in
    let after = operations_of c.extend.new.self in
    let same = c.in_ok-change.ensures.path in
    let cut : AddsElements path us vs (both, both) (both, k) one two =
    subst (λ (p : List ℕ). AddsElements p us vs (both, both) (both, k) one two) same c.in_ok-cut.ensures.ok in
    on_ok c.extend.result
    (λ (extends : (rest : ℕ) → rest ≤ length c.args.from.now
    → AddsElements (string_bytes c.cut.new.self.path) us vs (both, rest) (j, rest) two after).
    elements-end path us vs start j k before after
    (omega (arith, c.common-start.ensures.room.0, length-map c.args.from.now view))
    c.common-start.ensures.start c.common-start.ensures.end
    (elements-both path us vs (start, start) (both, both) (j, k) before one after c.in_ok-change.ensures.ok
    (elements-both path us vs (both, both) (both, k) (j, k) one two after cut
    (subst (λ (p : List ℕ). AddsElements p us vs (both, k) (j, k) two after) (c.in_ok-cut.ensures.path ∙ same)
    (extends k (omega arith))))))
    c.extend.ensures.ok

pub member-returns-then-eq-clause-ok : goal.member-returns-then-eq-clause-ok
member-returns-then-eq-clause-ok t c =
    let F = viewed (entries_of c.args.from.now) in
    let T = viewed (entries_of c.args.to.now) in
    let k = c.args.key.now in
    let u = c.in-Some-Some.old.now in
    let v = c.in-Some-Some.new.now in
    let all = operations_of c.args.self.now in
    member-kept (string_bytes c.args.self.now.path) k F T all all
    (ap (λ o. same_at o (find k T))
    (seen k (entries_of c.args.from.now) (Some u) (sym (ap option_copied c.in-Some-Some.is-0) ∙ c.look-old.ensures))
    ∙ ap (same_at (Some (view u)))
    (seen k (entries_of c.args.to.now) (Some v) (sym (ap option_copied c.in-Some-Some.is-1) ∙ c.look-new.ensures))
    ∙ sym c.eq.ensures ∙ c.if-eq.true) refl

pub member-value-requires : goal.member-value-requires
member-value-requires t c =
    let u = c.in-Some-Some-2.old.now in
    let small : size u ≤ largest_under (entries_of c.args.from.now) =
    size-found c.args.key.now (entries_of c.args.from.now) u
    (sym c.look-old.ensures ∙ ap option_copied c.in-Some-Some-2.is-0) in
    (omega (arith, small), tt)

pub member-returns-clause-ok : goal.member-returns-clause-ok
member-returns-clause-ok t c =
    let path = string_bytes c.args.self.now.path in
    let place = string_bytes c.push_token.new.pointer in
    let from = entries_of c.args.from.now in
    let to = entries_of c.args.to.now in
    let F = viewed from in
    let T = viewed to in
    let k = c.args.key.now in
    let before = operations_of c.args.self.now in
    let after = operations_of c.match-old-2.self in
    let text = c.in_ok-push_token.ensures.text in
    let below : IsBelow path (escaped k) place = (text, λ ts tokens. pushed-tokens path place k ts text tokens) in
    elim c.match-old-2.branch [
      | member-in-Some-Some-2+in_ok-value-in-Some-Some-2 w ↦
          let u = w.in-Some-Some-2.old.now in
          let v = w.in-Some-Some-2.new.now in
          subst (λ (l : List Value). AddsMember path k F T before l) (sym (ap operations_of w.self-is))
          (member-changed path k place F T (view u) (view v) before (operations_of w.value.new.self)
          (seen k from (Some u) (sym (ap option_copied w.in-Some-Some-2.is-0) ∙ c.look-old.ensures))
          (seen k to (Some v) (sym (ap option_copied w.in-Some-Some-2.is-1) ∙ c.look-new.ensures))
          below w.in_ok-value-in-Some-Some-2.ensures.ok)
      | member-in-Some-None+in_ok-remove-in-Some-None w ↦
          let u = w.in-Some-None._old.now in
          let op = w.in_ok-remove-in-Some-None.ensures.ok in
          subst (λ (l : List Value). AddsMember path k F T before l) (sym (ap operations_of w.self-is))
          (member-removed path k place F T (view u) op.0 before (operations_of w.remove.new.self)
          (seen k from (Some u) (sym (ap option_copied w.in-Some-None.is-0) ∙ c.look-old.ensures))
          (seen k to None (sym (ap option_copied w.in-Some-None.is-1) ∙ c.look-new.ensures))
          below op.1 op.2)
      | member-in-None-Some+in_ok-add-in-None-Some w ↦
          let v = w.in-None-Some.new.now in
          let op = w.in_ok-add-in-None-Some.ensures.ok in
          subst (λ (l : List Value). AddsMember path k F T before l) (sym (ap operations_of w.self-is))
          (member-added path k place F T (view v) op.0 before (operations_of w.add.new.self)
          (seen k from None (sym (ap option_copied w.in-None-Some.is-0) ∙ c.look-old.ensures))
          (seen k to (Some v) (sym (ap option_copied w.in-None-Some.is-1) ∙ c.look-new.ensures))
          below op.1 op.2)
      | member-in-None-None w ↦
          member-kept path k F T before after
          (ap (λ o. same_at o (find k T))
          (seen k from None (sym (ap option_copied w.in-None-None.is-0) ∙ c.look-old.ensures))
          ∙ ap (same_at None) (seen k to None (sym (ap option_copied w.in-None-None.is-1) ∙ c.look-new.ensures)))
          (ap operations_of w.self-is)
    ]

pub members-returns-then-max-eq0-clause-ok : goal.members-returns-then-max-eq0-clause-ok
members-returns-then-max-eq0-clause-ok t c =
    let all = operations_of c.args.self.now in
    changes-none (string_bytes c.args.self.now.path) _ _ all all
    (objects-empty (entries_of c.args.from.now) (entries_of c.args.to.now)
    (omega (arith, c.if-max-eq0.true, c.max.ensures, c.len.ensures.len, c.len-2.ensures.len))
    (omega (arith, c.if-max-eq0.true, c.max.ensures, c.len.ensures.len, c.len-2.ensures.len))) refl

pub members-loop-key-init : goal.members-loop-key-init
members-loop-key-init t c =
    let F = viewed (entries_of c.args.from.now) in
    let plain : c.into_iter-key-iterator.result ≡ keys_of (entries_of c.args.from.now) = cc in
    let all = plain ∙ sym (keys-viewed (entries_of c.args.from.now)) in
    let apart = subst (λ (ks : List (List ℕ)). IsDistinct bytes_eq ks) (sym plain) c.len.ensures.distinct in (
      pending-start (string_bytes c.args.self.now.path) F (viewed (entries_of c.args.to.now))
          c.into_iter-key-iterator.result _ all apart,
      apart,
      λ k h. among-there F k (ap (λ l. is_among l k) (sym all) ∙ h),
      refl,
    )

pub members-loop-key-preserved : goal.members-loop-key-preserved
members-loop-key-preserved t c =
    let path = string_bytes c.args.self.now.path in
    let F = viewed (entries_of c.args.from.now) in
    let T = viewed (entries_of c.args.to.now) in
    let keys = c.loop-key.key-iterator in
    let key = c.in-Some.key.now in
    let rest = c.next.new.self in
    let mid = operations_of c.loop-key.self in
    let after = operations_of c.member.new.self in
    let next : keys ≡ key ∷ rest = c.in-Some.ensures.steps in (
      pending-next path key keys rest F T (operations_of c.args.self.now) mid after next c.loop-key.invariant.1
          (first-there key keys rest F next c.loop-key.invariant.2) c.loop-key.invariant.0
          (subst (λ (p : List ℕ). AddsMember p key F T mid after) c.loop-key.invariant.3 c.in_ok-member.ensures.ok),
      tail-apart key keys rest next c.loop-key.invariant.1,
      rest-there key keys rest F next c.loop-key.invariant.2,
      c.in_ok-member.ensures.path ∙ c.loop-key.invariant.3,
    )

pub members-loop-added-init : goal.members-loop-added-init
members-loop-added-init t c =
    let path = string_bytes c.args.self.now.path in
    let F = viewed (entries_of c.args.from.now) in
    let T = viewed (entries_of c.args.to.now) in
    let keys = c.into_iter-added-iterator.result in
    let before = operations_of c.args.self.now in
    let mid = operations_of c.loop-key.self in
    let plain : keys ≡ keys_of (entries_of c.args.to.now) = c.into_iter-added-iterator.ensures.into_iter_gives ∙ c.keys-added-items.ensures in (
      awaited-start path F T keys before mid (plain ∙ sym (keys-viewed (entries_of c.args.to.now)))
          (subst (λ (l : List (List ℕ)). Progress path F T (pending l F) before mid) c.in-None.ensures.steps.0
          c.loop-key.invariant.0),
      subst (λ (ks : List (List ℕ)). IsDistinct bytes_eq ks) (sym plain) c.len-2.ensures.distinct,
      c.loop-key.invariant.3,
    )

pub members-loop-added-preserved-in-Continue-branch-2 : goal.members-loop-added-preserved-in-Continue-branch-2
members-loop-added-preserved-in-Continue-branch-2 t c =
    let path = string_bytes c.args.self.now.path in
    let F = viewed (entries_of c.args.from.now) in
    let T = viewed (entries_of c.args.to.now) in
    let keys = c.loop-added.added-iterator in
    let key = c.in-Some-added.added.now in
    let rest = c.next-in-loop-added.new.self in
    let mid = operations_of c.loop-added.self in
    let after = operations_of c.member-then-not-has.new.self in
    let next : keys ≡ key ∷ rest = c.in-Some-added.ensures.steps in (
      awaited-next path key keys rest F T (operations_of c.args.self.now) mid after next c.loop-added.invariant.1
          (seen-there key (entries_of c.args.from.now) ∙ sym c.has.ensures ∙ c.if-not-has.true)
          c.loop-added.invariant.0
          (subst (λ (p : List ℕ). AddsMember p key F T mid after) c.loop-added.invariant.2 c.in_ok-member-2.ensures.ok),
      tail-apart key keys rest next c.loop-added.invariant.1,
      c.in_ok-member-2.ensures.path ∙ c.loop-added.invariant.2,
    )

pub members-loop-added-preserved : goal.members-loop-added-preserved
members-loop-added-preserved t c =
    let F = viewed (entries_of c.args.from.now) in
    let keys = c.loop-added.added-iterator in
    let key = c.in-Some-added.added.now in
    let rest = c.next-in-loop-added.new.self in
    let next : keys ≡ key ∷ rest = c.in-Some-added.ensures.steps in (
      awaited-same (string_bytes c.args.self.now.path) key keys rest F (viewed (entries_of c.args.to.now))
          (operations_of c.args.self.now) (operations_of c.loop-added.self) next
          (seen-there key (entries_of c.args.from.now) ∙ sym c.has.ensures ∙ c.if-not-has.false)
          c.loop-added.invariant.0,
      tail-apart key keys rest next c.loop-added.invariant.1,
      c.loop-added.invariant.2,
    )

pub members-returns-clause-ok : goal.members-returns-clause-ok
members-returns-clause-ok t c =
    let path = string_bytes c.args.self.now.path in
    let F = viewed (entries_of c.args.from.now) in
    let T = viewed (entries_of c.args.to.now) in
    let before = operations_of c.args.self.now in
    let after = operations_of c.loop-added.self in
    progress-end path F T (awaited [] F) before after (λ k. refl)
    (subst (λ (l : List (List ℕ)). Progress path F T (awaited l F) before after) c.in-None-added.ensures.steps.0
    c.loop-added.invariant.0)
