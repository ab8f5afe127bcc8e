use Rattle.std.proofs.Common.{ap, sym, subst, ◌∙◌}
use Rattle.std.proofs.lemmas.Option.{none-some}
use Rattle.jzon.specs.JsonValue as json
use Rattle.jzon.specs.Readers.{entries}
use Rattle.jzon.specs.Value.{Value}
use Rattle.jzon.specs.View.{view, view_object}
use Rattle.jzon.proofs.ValueLaws.{is_object-not_Object, view-Object}
use Rattle.jzon_tools.specs.MergeDiff.{MergesInto, NoneMergesInto}
use Rattle.jzon_tools.proofs.MergeDiffSteps.{entries-object, if_some, merges-alike, merges-whole, none-alike}
use Rattle.jzon_tools.proofs.merge.changes.diff.Goals as goal

pub returns-in_default : goal.returns-in_default
returns-in_default c =
    let old = view c.args.old.now in
    let v = view c.args.new.now in
    record {
      patch = subst (λ (p : Value). MergesInto old v p) (sym c.in_ok-clone.ensures.copy)
          (merges-whole old v (is_object-not_Object c.args.new.now c.in_default.not-Object));
      none = λ e. absurd (none-some c.in_ok-clone.field-0 (sym e));
      memory = tt;
    }

pub returns-in-Some-clause-patch : goal.returns-in-Some-clause-patch
returns-in-Some-clause-patch c =
    let old = view c.args.old.now in
    let to = c.in-Object.to in
    let u = c.object_of.result.now in
    let p = c.in-Some.patch in
    subst (λ (n : Value). MergesInto old n (view (json.Object p))) (sym (ap view c.in-Object.is ∙ view-Object to))
    (subst (λ (q : Value). MergesInto old (view_object to) q) (sym (view-Object p))
    (merges-alike (view_object u) old (view_object to) (view_object p)
    (entries-object u (entries old) c.object_of.ensures)
    (if_some c.in_ok-patch.field-0 (λ q. MergesInto (view_object u) (view_object to) (view_object q)) p c.in-Some.is
    c.in_ok-patch.ensures.patch)))

pub returns-clause-none : goal.returns-clause-none
returns-clause-none c =
    let old = view c.args.old.now in
    let to = c.in-Object.to in
    let u = c.object_of.result.now in
    λ _. subst (λ (n : Value). NoneMergesInto old n) (sym (ap view c.in-Object.is ∙ view-Object to))
    (none-alike (view_object u) old (view_object to) (entries-object u (entries old) c.object_of.ensures)
    (c.in_ok-patch.ensures.none c.in-None.is))
