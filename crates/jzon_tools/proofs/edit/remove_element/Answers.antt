use Rattle.std.proofs.Common.{◌+◌, ◌<◌, Some, option_map, length, refl, subst, sym, ap, ◌∙◌, arith}
use Rattle.std.proofs.lemmas.Option.{slice_get_past, slice_get_read}
use Rattle.jzon.specs.View.{view}
use Rattle.jzon_tools.proofs.EditSteps.{element-removed, shifted-behind}
use Rattle.jzon_pointer.proofs.PlaceSteps.{array_seen, element-found}
use Rattle.jzon_tools.proofs.edit.remove_element.Goals as goal

pub returns-then-index-len-clause-error : goal.returns-then-index-len-clause-error
returns-then-index-len-clause-error c = λ _.
    let items = c.args.items.now.items in
    element-found items c.args.token.now c.in-Some.index (sym c.in-Some.ensures)
    ∙ ap (option_map view) (slice_get_past items c.in-Some.index (omega arith))

pub returns-in_default-checked_sub-clause-many : goal.returns-in_default-checked_sub-clause-many
returns-in_default-checked_sub-clause-many c = λ _.
    subst (λ n. c.args.room < n)
    (sym (shifted-behind c.args.items.now.items c.args.token.now c.in-Some.index (sym c.in-Some.ensures))) (grind arith)

pub returns-clause-old : goal.returns-clause-old
returns-clause-old c =
    let items = c.args.items.now.items in
    let index = c.in-Some.index in
    let there = slice_get_read items (length items) index c.remove.result refl (omega arith) c.remove.ensures.value in
    element-found items c.args.token.now index (sym c.in-Some.ensures) ∙ ap (option_map view) there

pub returns-clause-new : goal.returns-clause-new
returns-clause-new c =
    let items = c.args.items.now.items in
    let index = c.in-Some.index in
    let there = slice_get_read items (length items) index c.remove.result refl (omega arith) c.remove.ensures.value in
    element-removed items c.args.token.now index c.remove.result (sym c.in-Some.ensures) there
    ∙ ap (λ vs. Some (array_seen vs)) (sym c.remove.ensures.items)

pub returns-clause-left : goal.returns-clause-left
returns-clause-left c =
    ap (λ n. c.in-Some-checked_sub.left + n)
    (shifted-behind c.args.items.now.items c.args.token.now c.in-Some.index (sym c.in-Some.ensures))
    ∙ omega arith
