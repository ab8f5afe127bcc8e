use Rattle.std.proofs.Common.{◌≡◌, Bor, Some, sym, ap, ◌∙◌}
use Rattle.jzon.specs.JsonValue.{JsonValue}
use Rattle.jzon.specs.View.{view}
use Rattle.jzon.proofs.ValueLaws.{view-Array}
use Rattle.jzon_pointer.specs.Pointer.{index_named, child_of}
use Rattle.jzon_pointer.proofs.PlaceSteps.{array_seen, element-lent}
use Rattle.jzon_pointer.proofs.pointer.child.Goals as goal

pub returns-in_ok-index_of-in-Array : goal.returns-in_ok-index_of-in-Array
returns-in_ok-index_of-in-Array c =
    let token = c.args.token.now in
    let index = c.in_ok-index_of-in-Array.field-0 in
    let named : index_named token ≡ Some index = sym c.in_ok-index_of-in-Array.ensures in
    let seen : array_seen c.deref.result.now ≡ view c.args.value.now =
    ap array_seen c.deref.ensures.value ∙ sym (ap view c.in-Array.is ∙ view-Array c.in-Array.items) in
    element-lent (λ (x : Bor JsonValue). x.now) c.deref.result.now token index c.get.result named c.get.ensures.lookup
    ∙ ap (λ v. child_of v token) seen
