use Rattle.jzon_base.proofs.Common.{◌∙◌, ◌++◌, ◌∷◌, [], ap}
use Rattle.jzon.specs.Private.OpenContainers.{value_added}
use Rattle.jzon.proofs.Containers.StackParts.{IsLaidOut-pushed, view-pushed}
use Rattle.jzon.proofs.stacks.Stacks.push_empty.Goals as goal

pub invariant_of-self-2 : goal.invariant_of-self-2
invariant_of-self-2 c = IsLaidOut-pushed c.self.inside c.push_reserved.new.self c.empty.result c.self.invariant
    (c.push_reserved.ensures.items ∙ ap (λ vs. vs ++ c.empty.result ∷ []) c.in_ok-reserve_value.ensures.items)

pub returns : goal.returns
returns c = record {
  ok = (
    c.empty.result,
    c.empty.ensures,
    view-pushed c.self.inside c.push_reserved.new.self c.empty.result c.self.invariant
        (c.push_reserved.ensures.items ∙ ap (λ vs. vs ++ c.empty.result ∷ []) c.in_ok-reserve_value.ensures.items)
        ∙ ap (λ o. value_added o c.empty.result) c.self.view_is,
  );
}
