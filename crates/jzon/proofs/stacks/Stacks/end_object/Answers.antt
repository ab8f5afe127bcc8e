use Rattle.jzon_base.proofs.Common.{ap}
use Rattle.jzon.proofs.Containers.StackParts.{IsLaidOut-as_many, IsLaidOut-values_cut}
use Rattle.jzon.proofs.stacks.Stacks.end_object.Goals as goal

pub invariant_of-self : goal.invariant_of-self
invariant_of-self c =
    IsLaidOut-as_many c.self.inside c.cut_values.new.stack c.self.invariant c.in_err-values.ensures.err

pub invariant_of-self-in_err-keys : goal.invariant_of-self-in_err-keys
invariant_of-self-in_err-keys c =
    IsLaidOut-values_cut c.self.inside c.split_off.new.self c.cut_values.new.stack c.self.invariant
    (ap (λ v. v.items) c.in_err-keys.ensures.err) c.in_ok-values.ensures.items
