use Rattle.std.proofs.Common.{◌≡◌, ◌+◌, ◌<◌, None, Some, IsErr, inr, refl, subst, sym, ap, ◌∙◌, rules}
use Rattle.std.proofs.lemmas.Result.{err_from_is_err_and}
use Rattle.jzon.specs.View.{view}
use Rattle.jzon_pointer.specs.Pointer.{child_of, value_at, without}
use Rattle.jzon_pointer.proofs.ChangeLaws.{changes-kept}
use Rattle.jzon_tools.specs.Patch.{shifted_out}
use Rattle.jzon_tools.proofs.LastSteps.{entry-found, removed, shifted, nothing-there, nowhere, entry-missing}
use Rattle.jzon_tools.proofs.edit.remove_at.Goals.{In-Some-Err-NoChild}
use Rattle.jzon_tools.proofs.edit.remove_at.Goals as goal

pub returns-in-Some-Ok-clause-old : goal.returns-in-Some-Ok-clause-old
returns-in-Some-Ok-clause-old c =
    let p = c.in-Some-Ok.ensures.found in
    let child : child_of (view p.0) c.in_ok-left.token.now ≡ Some (view c.in-Some-Ok.taken.0) = search rules in
    entry-found c.in_ok-left.ensures.last _ (view p.0) (view p.1) _ _ p.3 child

pub returns-in-Some-Ok-clause-new : goal.returns-in-Some-Ok-clause-new
returns-in-Some-Ok-clause-new c =
    let p = c.in-Some-Ok.ensures.found in
    let left : without (view p.0) c.in_ok-left.token.now ≡ Some (view p.1) = search rules in
    removed c.in_ok-left.ensures.last _ (view p.0) (view p.1) _ p.3 left

pub returns-in-Some-Ok-clause-left : goal.returns-in-Some-Ok-clause-left
returns-in-Some-Ok-clause-left c =
    let p = c.in-Some-Ok.ensures.found in
    let left : c.in-Some-Ok.taken.1 + shifted_out (view p.0) c.in_ok-left.token.now ≡ c.args.room = search rules in
    ap (λ n. c.in-Some-Ok.taken.1 + n) (shifted c.in_ok-left.ensures.last shifted_out _ (view p.0) (view p.1) _ p.3)
    ∙ left

pub returns-in-Some-Err-TooMany-clause-err : goal.returns-in-Some-Err-TooMany-clause-err
returns-in-Some-Err-TooMany-clause-err c =
    let p = c.in-Some-Err-TooMany.ensures.found in
    let kept : view p.1 ≡ view p.0 = search rules in changes-kept _ _ (view p.0) (view p.1) _ p.3 kept

pub returns-in-Some-Err-TooMany-clause-many : goal.returns-in-Some-Err-TooMany-clause-many
returns-in-Some-Err-TooMany-clause-many c = λ _.
    let p = c.in-Some-Err-TooMany.ensures.found in
    let less : c.args.room < shifted_out (view p.0) c.in_ok-left.token.now = search rules in
    subst (λ n. c.args.room < n)
    (sym (shifted c.in_ok-left.ensures.last shifted_out _ (view p.0) (view p.1) _ p.3)) less

-- nothing is there, and the value is as it was
kept : (c : In-Some-Err-NoChild) → IsErr (value_at (view c.change_at.new.value) c.args.path.now)
    × (view c.change_at.new.value ≡ view c.args.value.now)
kept c =
    let p = c.in-Some-Err-NoChild.ensures.found in
    let child : child_of (view p.0) c.in_ok-left.token.now ≡ None = search rules in
    let same : view p.1 ≡ view p.0 = search rules in
    nothing-there c.in_ok-left.ensures.last _ (view p.0) (view p.1) _ p.3 child same

pub why_none-requires : goal.why_none-requires
why_none-requires c = (kept c).0

pub returns-in-Some-Err-NoChild-clause-err : goal.returns-in-Some-Err-NoChild-clause-err
returns-in-Some-Err-NoChild-clause-err c =
    (kept (goal.at.returns-in-Some-Err-NoChild-clause-err c).In-Some-Err-NoChild).1

pub returns-in-Some-Err-NoChild-clause-error : goal.returns-in-Some-Err-NoChild-clause-error
returns-in-Some-Err-NoChild-clause-error c =
    inr (
      _,
      refl,
      entry-missing c.in_ok-left.ensures.last _ _ _ c.why_none.ensures
          (kept (goal.at.returns-in-Some-Err-NoChild-clause-error c).In-Some-Err-NoChild).1,
    )

pub why_none-requires-in-None : goal.why_none-requires-in-None
why_none-requires-in-None c = nowhere c.in_ok-left.ensures.last _ _ (c.in-None.ensures.missing refl)

pub returns-in-None-clause-error : goal.returns-in-None-clause-error
returns-in-None-clause-error c =
    inr (
      _,
      refl,
      entry-missing c.in_ok-left.ensures.last _ _ _ c.why_none-in-None.ensures (c.in-None.ensures.missing refl).1,
    )

pub returns-in_err-left-clause-error : goal.returns-in_err-left-clause-error
returns-in_err-left-clause-error c =
    let failed = err_from_is_err_and c.from_residual.result c.from_residual.ensures.1 in
    rw failed.1 (rw failed.2 (inr (_, refl, c.in_err-left.ensures.error (view c.args.value.now))))
