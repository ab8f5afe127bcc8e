use Rattle.std.proofs.Common.{◌+◌, ◌<◌, None, Some, option_map, subst, sym, ap, ◌∙◌, arith}
use Rattle.jzon.specs.Entries.{entries_of}
use Rattle.jzon.specs.Value.{object as seen, pairs_of}
use Rattle.jzon.specs.View.{view, viewed}
use Rattle.jzon_tools.proofs.EditSteps.{member-removed, shifted-members}
use Rattle.jzon_pointer.proofs.NameSteps.{entry-at, named-cut, remove-past}
use Rattle.jzon_pointer.proofs.PlaceSteps.{member-at}
use Rattle.jzon_tools.proofs.edit.remove_member.Goals as goal

pub returns-in_default-clause-error : goal.returns-in_default-clause-error
returns-in_default-clause-error c = λ _. member-at c.args.object.now c.args.token.now None (sym c.in_default.ensures)

pub returns-in_default-checked_sub-clause-many : goal.returns-in_default-checked_sub-clause-many
returns-in_default-checked_sub-clause-many c = λ _.
    subst (λ n. c.args.room < n) (sym (shifted-members c.args.object.now c.args.token.now))
    (omega (arith, c.len.ensures.len))

pub returns-in-None-clause-err : goal.returns-in-None-clause-err
returns-in-None-clause-err c =
    ap (λ ps. seen (pairs_of (viewed ps))) (c.in-None.ensures.after
    ∙ remove-past (entries_of c.args.object.now) c.in-Some.position c.in-None.ensures.entry)

pub returns-in-None-clause-error : goal.returns-in-None-clause-error
returns-in-None-clause-error c = λ _.
    member-at c.args.object.now c.args.token.now (Some c.in-Some.position) (sym c.in-Some.ensures)
    ∙ ap (λ o. option_map view (option_map (λ p. p.1) o)) (sym c.in-None.ensures.entry)

pub returns-in-Some-shift_remove_index-clause-old : goal.returns-in-Some-shift_remove_index-clause-old
returns-in-Some-shift_remove_index-clause-old c =
    member-at c.args.object.now c.args.token.now (Some c.in-Some.position) (sym c.in-Some.ensures)
    ∙ ap (λ o. option_map view (option_map (λ p. p.1) o)) (sym c.in-Some-shift_remove_index.ensures.entry)

pub returns-in-Some-shift_remove_index-clause-new : goal.returns-in-Some-shift_remove_index-clause-new
returns-in-Some-shift_remove_index-clause-new c =
    let token = c.args.token.now in
    let es = entries_of c.args.object.now in
    let i = c.in-Some.position in
    let at = sym c.in-Some.ensures in
    let there = entry-at token es (Some i) at ∙ ap (option_map (λ p. p.1)) (sym c.in-Some-shift_remove_index.ensures.entry) in
    member-removed c.args.object.now token c.in-Some-shift_remove_index.old _ there
    (named-cut token es i at ∙ sym c.in-Some-shift_remove_index.ensures.after)

pub returns-in-Some-shift_remove_index-clause-left : goal.returns-in-Some-shift_remove_index-clause-left
returns-in-Some-shift_remove_index-clause-left c =
    ap (λ n. c.in-Some-checked_sub.left + n) (shifted-members c.args.object.now c.args.token.now)
    ∙ omega (arith, c.len.ensures.len)
