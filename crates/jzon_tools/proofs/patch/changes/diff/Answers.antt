use Rattle.std.proofs.Common.{ap, map, List, ℕ, [], string_bytes, subst}
use Rattle.jzon.specs.Value.{Value}
use Rattle.jzon.specs.View.{view}
use Rattle.jzon.proofs.ValueLaws.{view-Array}
use Rattle.jzon_tools.specs.Diff.{AddsChanges, operations_of}
use Rattle.jzon_tools.proofs.DiffSteps.{turned}
use Rattle.jzon_tools.proofs.patch.changes.diff.Goals as goal

pub returns-clause-patch : goal.returns-clause-patch
returns-clause-patch c =
    let u = view c.args.old.now in
    let v = view c.args.new.now in
    let all = operations_of c.value.new.self in
    turned u v all _ (view-Array c.value.new.self.operations)
    (subst (λ (p : List ℕ). AddsChanges p u v [] all) c.new.ensures.bytes
    (subst (λ (l : List Value). AddsChanges (string_bytes c.new.result) u v l all) (ap (map view) c.new-2.ensures.items)
    c.in_ok-value.ensures.ok))
