use Rattle.std.proofs.Common.{◌+◌, ◌<◌, None, Some, subst, sym, ap, ◌∙◌, arith}
use Rattle.jzon_tools.proofs.EditSteps.{element-new, shifted-element}
use Rattle.jzon_pointer.proofs.PlaceSteps.{array_seen}
use Rattle.jzon_tools.proofs.edit.insert_element.Goals as goal

pub returns-in_default-clause-error : goal.returns-in_default-clause-error
returns-in_default-clause-error c = λ _.
    element-new c.args.items.now.items c.args.token.now c.args.new c.len.result None (omega arith)
    (sym c.in_default.ensures.index)

pub returns-in_default-checked_sub-clause-many : goal.returns-in_default-checked_sub-clause-many
returns-in_default-checked_sub-clause-many c = λ _.
    subst (λ n. c.args.room < n)
    (sym (shifted-element c.args.items.now.items c.args.token.now c.len.result c.in-Some.index (omega arith)
    (sym c.in-Some.ensures.index)))
    (grind arith)

pub returns-clause-ok : goal.returns-clause-ok
returns-clause-ok c =
    element-new c.args.items.now.items c.args.token.now c.args.new c.len.result (Some c.in-Some.index) (omega arith)
    (sym c.in-Some.ensures.index)
    ∙ ap (λ vs. Some (array_seen vs)) (sym c.in_ok-insert.ensures.items)

pub returns-clause-left : goal.returns-clause-left
returns-clause-left c =
    ap (λ n. c.in-Some-checked_sub.left + n)
    (shifted-element c.args.items.now.items c.args.token.now c.len.result c.in-Some.index (omega arith)
    (sym c.in-Some.ensures.index))
    ∙ omega arith
