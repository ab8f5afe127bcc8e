use Rattle.jzon_base.proofs.Common.{◌∙◌, Bool, sym, ap, list_any}
use Rattle.jzon_tree.specs.Same.{same}
use Rattle.jzon_tree.specs.Value.{Value}
use Rattle.jzon_tree.specs.View.{view}
use Rattle.jzon_tree.proofs.Values.PartViews.{items-Array, any-viewed}
use Rattle.jzon_tree.proofs.value.JsonValue.contains.Goals as goal

pub returns-in-Array : goal.returns-in-Array
returns-in-Array c =
    let test : Value → Bool = λ v. same v (view c.args.value.now) in
    rw (c.in-Array.is) (rw c.deref.ensures.value at c.contains.ensures.value
    ∙ sym (ap (list_any test) (items-Array c.in-Array.items) ∙ any-viewed test c.in-Array.items.items))
