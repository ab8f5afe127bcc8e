use Rattle.std.proofs.Common.{◌≡◌, Result, Ok, Err, OnOk, IfOk, Some, rules}
use Rattle.jzon.specs.View.{view}
use Rattle.jzon_pointer.specs.Pointer.{updated_at}
use Rattle.jzon_tools.proofs.PointerDepth.{replaced_depth}
use Rattle.jzon_tools.proofs.edit.replace_at.Goals as goal

on_value : {A E : Type 0} {P : A → Type 0} {Q : Type 0} (r : Result A E) → ((x : A) → P x → Q) → IfOk r P → OnOk r Q
on_value (Ok x) f h = f x h
on_value (Err e) f h = h

pub returns-clause-depth : goal.returns-clause-depth
returns-clause-depth c = on_value c.update_at.result (λ r p.
    let is : updated_at (λ _. Some (view c.args.new)) (view c.args.value.now) c.args.path.now
    ≡ Some (view c.update_at.new.value) = search rules in
    replaced_depth (view c.args.new) (view c.args.value.now) (view c.update_at.new.value) c.args.path.now is)
    c.update_at.ensures.ok
