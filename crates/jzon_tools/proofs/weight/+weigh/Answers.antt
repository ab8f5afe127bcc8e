use Rattle.std.proofs.Common.{◌≡◌, ◌∙◌, ap, arith, sym}
use Rattle.std.specs.Slice.Iter.{iter_rest}
use Rattle.jzon.specs.Entries.{entries_of}
use Rattle.jzon.specs.Value.{array}
use Rattle.jzon.specs.View.{view, view_values}
use Rattle.jzon.proofs.ValueLaws.{view-Array, view-Object}
use Rattle.jzon_tools.specs.Weight.{weight}
use Rattle.jzon_tools.proofs.WeightSteps.{array-nest, object-nest, some-weaker}
use Rattle.jzon_tools.proofs.weight.+weigh.Goals as goal

pub weigh-returns-in-Array-clause-depth : goal.weigh-returns-in-Array-clause-depth
weigh-returns-in-Array-clause-depth t c =
    let all : c.in-Array.items.items ≡ iter_rest c.iter.result = cc in
    let is : view c.args.value.now ≡ array (view_values (iter_rest c.iter.result)) =
    ap view c.in-Array.is ∙ view-Array c.in-Array.items ∙ ap (λ xs. array (view_values xs)) all in
    some-weaker c.weigh_items.result
    (λ deep. array-nest c.args.value.now (iter_rest c.iter.result) c.args.depth is ∙ deep) c.weigh_items.ensures.depth

pub weigh-returns-in-Array-clause-none : goal.weigh-returns-in-Array-clause-none
weigh-returns-in-Array-clause-none t c none deep =
    let all : c.in-Array.items.items ≡ iter_rest c.iter.result = cc in
    let is : view c.args.value.now ≡ array (view_values (iter_rest c.iter.result)) =
    ap view c.in-Array.is ∙ view-Array c.in-Array.items ∙ ap (λ xs. array (view_values xs)) all in
    let more =
    c.weigh_items.ensures.none none
    (sym (array-nest c.args.value.now (iter_rest c.iter.result) c.args.depth is) ∙ deep) in
    omega (arith, more, ap weight is, c.in_ok-room.ensures)

pub weigh-returns-in-Object-clause-depth : goal.weigh-returns-in-Object-clause-depth
weigh-returns-in-Object-clause-depth t c =
    let is = ap view c.in-Object.is ∙ view-Object c.in-Object.object in
    some-weaker c.weigh_members.result
    (λ deep. object-nest c.args.value.now (entries_of c.in-Object.object) c.args.depth is ∙ deep)
    c.weigh_members.ensures.depth
