use Rattle.std.proofs.Common.{◌≡◌, ◌<◌, IfErr, subst, sym, ap, ◌∙◌}
use Rattle.jzon.specs.View.{view, view_object}
use Rattle.jzon.proofs.ValueLaws.{view-Object}
use Rattle.jzon_tools.specs.Patch.{shifted_out}
use Rattle.jzon_tools.specs.declared.edit.Unremoved.TheVariants.{TooMany}
use Rattle.jzon_tools.proofs.edit.remove_child.Goals as goal

pub returns-in-Object-clause-many : goal.returns-in-Object-clause-many
returns-in-Object-clause-many c =
    let seen = ap view_object c.in-Object.object-is ∙ sym (ap view c.in-Object.is ∙ view-Object c.in-Object.object) in
    subst (λ v. IfErr c.remove_member.result (λ e. e ≡ TooMany → c.args.room < shifted_out v c.args.token.now)) seen
    c.remove_member.ensures.many
