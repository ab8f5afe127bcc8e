use Rattle.jzon_base.proofs.Common.{◌∙◌, ℕ, List, length, inl, inr, refl, sym, ap, arith, zip_first, zip_second}
use Rattle.jzon_base.specs.PairList.{find}
use Rattle.jzon_tree.specs.Entries.{entries_of}
use Rattle.jzon_tree.specs.declared.value.JsonValue.{JsonValue}
use Rattle.jzon_tree.specs.Same.{same, passes}
use Rattle.jzon_tree.specs.View.{view}
use Rattle.jzon_tree.proofs.Values.Views.{view_found}
use Rattle.jzon_tree.proofs.Values.Comparisons.{lengths_differ, counts_differ, value_differs, compared_next, left_next}
use Rattle.jzon_tree.proofs.Values.Comparisons.{next_found, none_left, all_compared}
use Rattle.jzon_tree.proofs.equal.+same.Goals as goal

pub same_array-returns-then-items-others : goal.same_array-returns-then-items-others
same_array-returns-then-items-others t c = sym (lengths_differ c.args.items.now c.args.others.now
    c.if-items-others.true)

pub ObjectPartialEq::eq-returns-then-len : goal.ObjectPartialEq::eq-returns-then-len
ObjectPartialEq::eq-returns-then-len t c =
    sym (counts_differ (entries_of c.args.self.now) (entries_of c.args.other.now) c.len.ensures.distinct
    c.len-2.ensures.distinct (λ e. c.if-len.true (omega (arith, e))))

pub ObjectPartialEq::eq-find_with_guess-requires : goal.ObjectPartialEq::eq-find_with_guess-requires
ObjectPartialEq::eq-find_with_guess-requires t c =
    next_found (entries_of c.args.other.now) (zip_second c.loop-key.key-iterator) (zip_second c.next.new.self) _ _
    c.loop-key.invariant.1 c.in-Some.ensures.steps.1

pub ObjectPartialEq::eq-returns-in_default : goal.ObjectPartialEq::eq-returns-in_default
ObjectPartialEq::eq-returns-in_default t c =
    let others = entries_of c.args.other.now in
    let found = ap (passes (same (view c.in-Some.value.now)))
    (view_found c.find_with_guess.result (find c.in-Some.key.now others) c.find_with_guess.ensures) in
    sym (value_differs (entries_of c.args.self.now) others (zip_first c.loop-key.key-iterator)
    (zip_first c.next.new.self) _ _ c.loop-key.invariant.0 c.in-Some.ensures.steps.0
    (sym found ∙ rw c.in_default.is refl))

pub ObjectPartialEq::eq-returns-then-not-eq : goal.ObjectPartialEq::eq-returns-then-not-eq
ObjectPartialEq::eq-returns-then-not-eq t c =
    let others = entries_of c.args.other.now in
    let found = ap (passes (same (view c.in-Some.value.now)))
    (view_found c.find_with_guess.result (find c.in-Some.key.now others) c.find_with_guess.ensures) in
    sym (value_differs (entries_of c.args.self.now) others (zip_first c.loop-key.key-iterator)
    (zip_first c.next.new.self) _ _ c.loop-key.invariant.0 c.in-Some.ensures.steps.0
    (sym found ∙ rw c.in-Some-find_with_guess.is (sym c.if-not-eq.ensures)))

pub ObjectPartialEq::eq-loop-key-preserved : goal.ObjectPartialEq::eq-loop-key-preserved
ObjectPartialEq::eq-loop-key-preserved t c =
    let others = entries_of c.args.other.now in
    let found = ap (passes (same (view c.in-Some.value.now)))
    (view_found c.find_with_guess.result (find c.in-Some.key.now others) c.find_with_guess.ensures) in
    let first = c.in-Some.ensures.steps.0 in
    let second = c.in-Some.ensures.steps.1 in
    let counted = ap (λ (xs : List (List ℕ × JsonValue)). length xs) first in
    let beside = ap (λ (xs : List (List ℕ × JsonValue)). length xs) second in (
      compared_next (entries_of c.args.self.now) others (zip_first c.loop-key.key-iterator)
          (zip_first c.next.new.self) _ _ c.loop-key.invariant.0 first (sym found ∙ rw c.in-Some-find_with_guess.is (sym c.if-not-eq.ensures)),
      left_next others (zip_second c.loop-key.key-iterator) (zip_second c.next.new.self) _ _
          c.loop-key.invariant.1 second,
      omega (arith, counted, beside),
    )

pub ObjectPartialEq::eq-returns : goal.ObjectPartialEq::eq-returns
ObjectPartialEq::eq-returns t c =
    sym (all_compared (entries_of c.args.self.now) (entries_of c.args.other.now) (zip_first c.loop-key.key-iterator)
    c.len.ensures.distinct (omega arith) c.loop-key.invariant.0 (elim c.in-None.ensures.steps [
      | inl ended ↦ ended.1.0
      | inr ended ↦ none_left (zip_first c.loop-key.key-iterator) (zip_second c.loop-key.key-iterator)
          c.loop-key.invariant.2 ended.1.0
    ]))
