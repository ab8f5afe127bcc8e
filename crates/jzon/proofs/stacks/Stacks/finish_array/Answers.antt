use Rattle.jzon_base.proofs.Common.{◌∙◌, IfOk-weaker}
use Rattle.jzon.proofs.Containers.StackParts.{IsLaidOut-values_taken, values_here}
use Rattle.jzon.proofs.stacks.Stacks.finish_array.Goals as goal

pub invariant_of-self : goal.invariant_of-self
invariant_of-self c = IsLaidOut-values_taken c.self.inside c.args.self.now c.self.invariant c.self.view_is c.requires
    c.split_off.new.self

pub invariant_of-self-2 : goal.invariant_of-self-2
invariant_of-self-2 c = IsLaidOut-values_taken c.self.inside c.args.self.now c.self.invariant c.self.view_is c.requires
    c.take_all.new.stack

pub returns-then-len-eq1 : goal.returns-then-len-eq1
returns-then-len-eq1 c = IfOk-weaker c.split_off.result _ _
    (λ all same. same ∙ values_here c.self.inside c.args.self.now c.self.invariant c.self.view_is c.requires)
    c.split_off.ensures.tail

pub returns : goal.returns
returns c = IfOk-weaker c.take_all.result _ _
    (λ all same. same ∙ values_here c.self.inside c.args.self.now c.self.invariant c.self.view_is c.requires)
    c.take_all.ensures.all
