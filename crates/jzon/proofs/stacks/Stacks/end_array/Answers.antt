use Rattle.jzon_base.proofs.Common.{◌≡◌, ◌∙◌, take, ap, arith, Result, Ok, Err, OnOk, OnErr, Vec, Global, vec_len}
use Rattle.jzon_tree.specs.declared.value.JsonValue.{JsonValue}
use Rattle.jzon.specs.Private.OpenContainers.{OpenContainers, innermost_ended}
use Rattle.jzon.specs.Private.Stacks.{containers_of, IsLaidOut}
use Rattle.jzon.specs.declared.stacks.Stacks.TheInside.{Inside}
use Rattle.jzon.proofs.Containers.StackParts.{IsLaidOut-cut, IsLaidOut-as_many, view-array_ended}
use Rattle.jzon.proofs.stacks.Stacks.end_array.Goals as goal

module _ {E : Type 0} (s : Inside) (vs : Vec JsonValue Global) where
  laid_after : (r : Result (Vec JsonValue Global) E) → IsLaidOut s
      → OnOk r (vs.items ≡ take s.innermost.first_value s.values.items) → OnErr r (vec_len vs ≡ vec_len s.values)
      → IsLaidOut (record s { values = vs })
  laid_after (Ok x) h cut same = IsLaidOut-cut s vs h cut
  laid_after (Err e) h cut same = IsLaidOut-as_many s vs h same

  ended : (o : OpenContainers) (r : Result (Vec JsonValue Global) E) → (vs.items ≡ take s.innermost.first_value s.values.items
      → containers_of (record s { values = vs }) ≡ innermost_ended o)
      → OnOk r (vs.items ≡ take s.innermost.first_value s.values.items)
      → OnOk r (containers_of (record s { values = vs }) ≡ innermost_ended o)
  ended o (Ok x) step cut = step cut
  ended o (Err e) step cut = tt

pub invariant_of-self : goal.invariant_of-self
invariant_of-self c = IsLaidOut-cut c.self.inside c.pop.new.self c.self.invariant (c.pop.ensures.rest
    ∙ ap (λ n. take n c.self.inside.values.items) (omega (arith, c.len.ensures, c.if-len-start-eq1.true)))

pub returns-then-len-start-eq1-clause-ok : goal.returns-then-len-start-eq1-clause-ok
returns-then-len-start-eq1-clause-ok c =
    view-array_ended c.self.inside c.pop.new.self c.args.self.now c.self.invariant c.self.view_is c.requires
    (c.pop.ensures.rest
    ∙ ap (λ n. take n c.self.inside.values.items) (omega (arith, c.len.ensures, c.if-len-start-eq1.true)))

pub invariant_of-self-2 : goal.invariant_of-self-2
invariant_of-self-2 c =
    laid_after c.self.inside c.cut_values.new.stack c.cut_values.result c.self.invariant c.cut_values.ensures.items
    c.cut_values.ensures.err

pub returns-clause-ok : goal.returns-clause-ok
returns-clause-ok c =
    ended c.self.inside c.cut_values.new.stack c.args.self.now c.cut_values.result
    (view-array_ended c.self.inside c.cut_values.new.stack c.args.self.now c.self.invariant c.self.view_is c.requires)
    c.cut_values.ensures.items
