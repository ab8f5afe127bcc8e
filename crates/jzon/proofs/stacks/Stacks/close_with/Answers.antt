use Rattle.jzon_base.proofs.Common.{◌∙◌, ◌++◌, ◌∷◌, [], ap, refl, false≢true}
use Rattle.jzon.proofs.Containers.StackParts.{IsBack, IsBack-from, IsLaidOut-back, IsLaidOut-back_pushed}
use Rattle.jzon.proofs.Containers.StackParts.{IsAdded-back}
use Rattle.jzon.proofs.stacks.Stacks.close_with.Goals.{After-reserve_value, then-is_some, else-is_some}
use Rattle.jzon.proofs.stacks.Stacks.close_with.Goals as goal

-- the container around is the innermost one now
back : (c : After-reserve_value) → IsBack c.self.inside c.if-is_some.self-inside
back c = elim c.if-is_some.branch [
  | then-is_some w ↦ IsBack-from c.args.self.now c.self.inside c.if-is_some.self-inside c.pop.new.self c.in-Some.frame
      w.close_known.new.known w.close_known.new.around c.self.invariant c.self.view_is c.requires.ended
      c.in-Some.ensures.items (record {
        usual = λ e. absurd (false≢true (cc (e, w.if-is_some.true, c.is_some.ensures)));
        strict = λ _. w.close_known.ensures;
      }) w.self-inside-is
  | else-is_some w ↦ IsBack-from c.args.self.now c.self.inside c.if-is_some.self-inside c.pop.new.self c.in-Some.frame
      c.self.inside.known c.self.inside.known_around c.self.invariant c.self.view_is c.requires.ended
      c.in-Some.ensures.items (record {
        usual = λ _. refl;
        strict = λ e. absurd (false≢true (cc (e, w.if-is_some.false, c.is_some.ensures)));
      }) w.self-inside-is
]

pub invariant_of-self : goal.invariant_of-self
invariant_of-self c =
    IsLaidOut-back c.self.inside c.if-is_some.self-inside c.reserve_value.new.values
    (back (goal.at.invariant_of-self c).After-reserve_value) c.in_err-reserve_value.ensures.items

pub invariant_of-self-2 : goal.invariant_of-self-2
invariant_of-self-2 c =
    IsLaidOut-back_pushed c.self.inside c.if-is_some.self-inside c.push_reserved.new.self c.args.value
    (back (goal.at.invariant_of-self-2 c).After-reserve_value)
    (c.push_reserved.ensures.items ∙ ap (λ vs. vs ++ c.args.value ∷ []) c.in_ok-reserve_value.ensures.items)

pub returns : goal.returns
returns c =
    IsAdded-back c.args.self.now c.self.inside c.if-is_some.self-inside c.push_reserved.new.self c.args.value
    c.self.view_is (back (goal.at.returns c).After-reserve_value)
    (c.push_reserved.ensures.items ∙ ap (λ vs. vs ++ c.args.value ∷ []) c.in_ok-reserve_value.ensures.items)
