use Rattle.std.proofs.Common.{◌≡◌, ◌+◌, ℕ, List, Some, sym, ap, ◌∙◌, arith, rules}
use Rattle.jzon.specs.Value.{Value}
use Rattle.jzon.specs.View.{view, view_object}
use Rattle.jzon.proofs.ValueLaws.{view-Object}
use Rattle.jzon_pointer.specs.Pointer.{with_new}
use Rattle.jzon_pointer.proofs.PlaceSteps.{placing}
use Rattle.jzon_tools.specs.Patch.{shifted_new}
use Rattle.jzon_tools.proofs.edit.insert_child.Goals as goal

-- what is put into a value that is seen so, and what is seen then
seen-put : (n v u w x : Value) (t : List ℕ) → v ≡ u → with_new n u t ≡ Some w → x ≡ w → with_new n v t ≡ Some x
seen-put n v u w x t before put after = ap (λ y. with_new n y t) before ∙ put ∙ ap (λ y. Some y) (sym after)

pub returns-in_ok-insert_member-in-Object-clause-ok : goal.returns-in_ok-insert_member-in-Object-clause-ok
returns-in_ok-insert_member-in-Object-clause-ok c =
    let old = c.in-Object.object in
    let new = c.insert_member.new.object in
    let n = view c.args.new in
    let t = c.args.token.now in
    let put : with_new n (view_object old) t ≡ Some (view_object new) = search rules in
    seen-put n (view c.args.value.now) (view_object old) (view_object new) _ t
    (ap view c.in-Object.is ∙ view-Object old) put (search (rules, placing))

pub returns-in_ok-insert_member-in-Object-clause-left : goal.returns-in_ok-insert_member-in-Object-clause-left
returns-in_ok-insert_member-in-Object-clause-left c =
    ap (λ v. c.args.room + shifted_new v c.args.token.now) (ap view c.in-Object.is ∙ view-Object c.in-Object.object)
    ∙ omega arith
