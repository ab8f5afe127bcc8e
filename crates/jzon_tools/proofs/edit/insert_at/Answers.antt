use Rattle.std.proofs.Common.{◌≡◌, ◌+◌, ◌<◌, IsErr, None, Some, inr, refl, subst, sym, ap, ◌∙◌, rules}
use Rattle.std.proofs.lemmas.Result.{err_from_is_err_and}
use Rattle.jzon.specs.View.{view}
use Rattle.jzon_pointer.specs.Pointer.{inserted_at, value_at, with_new}
use Rattle.jzon_pointer.proofs.ChangeLaws.{changes-kept}
use Rattle.jzon_tools.specs.Patch.{shifted_new}
use Rattle.jzon_tools.proofs.LastSteps.{inserted, shifted, not_inserted, inserted-nowhere, nowhere, entry-missing}
use Rattle.jzon_tools.proofs.PointerDepth.{inserted_depth}
use Rattle.jzon_tools.proofs.edit.insert_at.Goals.{In-Some-Err-NoPlace}
use Rattle.jzon_tools.proofs.edit.insert_at.Goals as goal

pub returns-in-Some-Ok-clause-ok : goal.returns-in-Some-Ok-clause-ok
returns-in-Some-Ok-clause-ok c =
    let p = c.in-Some-Ok.ensures.found in
    let new : with_new (view c.args.new) (view p.0) c.in_ok-left.token.now ≡ Some (view p.1) = search rules in
    inserted c.in_ok-left.ensures.last (view c.args.new) _ (view p.0) (view p.1) _ p.3 new

pub returns-in-Some-Ok-clause-depth : goal.returns-in-Some-Ok-clause-depth
returns-in-Some-Ok-clause-depth c =
    let p = c.in-Some-Ok.ensures.found in
    let new : with_new (view c.args.new) (view p.0) c.in_ok-left.token.now ≡ Some (view p.1) = search rules in
    inserted_depth (view c.args.new) (view c.args.value.now) (view c.change_at.new.value) c.args.path.now
    (inserted c.in_ok-left.ensures.last (view c.args.new) _ (view p.0) (view p.1) _ p.3 new)

pub returns-in-Some-Ok-clause-left : goal.returns-in-Some-Ok-clause-left
returns-in-Some-Ok-clause-left c =
    let p = c.in-Some-Ok.ensures.found in
    let left : c.in-Some-Ok.left + shifted_new (view p.0) c.in_ok-left.token.now ≡ c.args.room = search rules in
    ap (λ n. c.in-Some-Ok.left + n) (shifted c.in_ok-left.ensures.last shifted_new _ (view p.0) (view p.1) _ p.3) ∙ left

pub returns-in-Some-Err-TooMany-clause-err : goal.returns-in-Some-Err-TooMany-clause-err
returns-in-Some-Err-TooMany-clause-err c =
    let p = c.in-Some-Err-TooMany.ensures.found in
    let kept : view p.1 ≡ view p.0 = search rules in changes-kept _ _ (view p.0) (view p.1) _ p.3 kept

pub returns-in-Some-Err-TooMany-clause-many : goal.returns-in-Some-Err-TooMany-clause-many
returns-in-Some-Err-TooMany-clause-many c = λ _.
    let p = c.in-Some-Err-TooMany.ensures.found in
    let less : c.args.room < shifted_new (view p.0) c.in_ok-left.token.now = search rules in
    subst (λ n. c.args.room < n)
    (sym (shifted c.in_ok-left.ensures.last shifted_new _ (view p.0) (view p.1) _ p.3)) less

pub returns-in-Some-Err-OutOfMemory-clause-err : goal.returns-in-Some-Err-OutOfMemory-clause-err
returns-in-Some-Err-OutOfMemory-clause-err c =
    let p = c.in-Some-Err-OutOfMemory.ensures.found in
    let kept : view p.1 ≡ view p.0 = search rules in changes-kept _ _ (view p.0) (view p.1) _ p.3 kept

-- there is no place for it, and the value is as it was
kept : (c : In-Some-Err-NoPlace) → IsErr (value_at (view c.change_at.new.value) c.args.path.now)
    × (view c.change_at.new.value ≡ view c.args.value.now)
    × (inserted_at (view c.args.new) (view c.args.value.now) c.args.path.now ≡ None)
kept c =
    let p = c.in-Some-Err-NoPlace.ensures.found in
    let new : with_new (view c.args.new) (view p.0) c.in_ok-left.token.now ≡ None = search rules in
    let same : view p.1 ≡ view p.0 = search rules in
    not_inserted c.in_ok-left.ensures.last (view c.args.new) _ (view p.0) (view p.1) _ p.3 new same

pub why_none-requires : goal.why_none-requires
why_none-requires c = (kept c).0

pub returns-in-Some-Err-NoPlace-clause-err : goal.returns-in-Some-Err-NoPlace-clause-err
returns-in-Some-Err-NoPlace-clause-err c =
    (kept (goal.at.returns-in-Some-Err-NoPlace-clause-err c).In-Some-Err-NoPlace).1

pub returns-in-Some-Err-NoPlace-clause-error : goal.returns-in-Some-Err-NoPlace-clause-error
returns-in-Some-Err-NoPlace-clause-error c =
    let there = kept (goal.at.returns-in-Some-Err-NoPlace-clause-error c).In-Some-Err-NoPlace in
    inr (inr (_, refl, there.2, entry-missing c.in_ok-left.ensures.last _ _ _ c.why_none.ensures there.1))

pub why_none-requires-in-None : goal.why_none-requires-in-None
why_none-requires-in-None c = nowhere c.in_ok-left.ensures.last _ _ (c.in-None.ensures.missing refl)

pub returns-in-None-clause-error : goal.returns-in-None-clause-error
returns-in-None-clause-error c =
    let lacks = c.in-None.ensures.missing refl in
    inr (inr (
      _,
      refl,
      inserted-nowhere c.in_ok-left.ensures.last (view c.args.new) _ _ lacks,
      entry-missing c.in_ok-left.ensures.last _ _ _ c.why_none-in-None.ensures lacks.1,
    ))

pub returns-in_err-left-clause-error : goal.returns-in_err-left-clause-error
returns-in_err-left-clause-error c =
    let failed = err_from_is_err_and c.from_residual.result c.from_residual.ensures.1 in
    rw failed.1 (rw failed.2 (inr (inr (
      _,
      refl,
      c.in_err-left.ensures.nothing (view c.args.new) (view c.args.value.now),
      c.in_err-left.ensures.error (view c.args.value.now),
    ))))
