use Rattle.jzon_base.proofs.Common.{◌≡◌, ◌∙◌, ◌++◌, ◌∷◌, [], ap, sym, subst, is_some}
use Rattle.jzon_base.proofs.Common.{IfSome, vec_len}
use Rattle.jzon_base.specs.Private.KnownKeys.{Knows}
use Rattle.jzon.specs.Private.OpenContainers.{OpenContainers, AwaitsValue}
use Rattle.jzon.proofs.Containers.StackParts.{if_none, IsLaidOut-opened}
use Rattle.jzon.proofs.stacks.Stacks.open.Goals.{then-is_some+in_ok-open_known, else-is_some}
use Rattle.jzon.proofs.stacks.Stacks.open.Goals as goal

pub invariant_of-self-2 : goal.invariant_of-self-2
invariant_of-self-2 c = IsLaidOut-opened c.self.inside _ c.self.invariant (elim c.if-is_some.branch [
  | then-is_some+in_ok-open_known w ↦ record {
    keys = ap (λ t. t.keys) w.self-inside-is;
    values = ap (λ t. t.values) w.self-inside-is;
    around = c.push_reserved.ensures.items ∙ ap (λ t. t.around.items ++ t.innermost ∷ []) w.self-inside-is
        ∙ ap (λ fs. fs ++ c.self.inside.innermost ∷ []) c.in_ok-reserve.ensures.items;
    first_key = c.len-self-inside.ensures ∙ ap (λ t. vec_len t.keys) w.self-inside-is;
    first_value = c.len-self-inside-2.ensures ∙ ap (λ t. vec_len t.values) w.self-inside-is;
    strict = ap (λ t. is_some t.known) w.self-inside-is ∙ w.in_ok-open_known.ensures.new
        ∙ sym (cc (w.if-is_some.true, c.is_some.ensures));
    known = subst (λ t. IfSome t.known (Knows [])) (sym w.self-inside-is) w.in_ok-open_known.ensures.known;
    known_around =
        subst (λ t. IfSome c.self.inside.known (λ l. t.known_around.items ≡ c.self.inside.known_around.items ++ l ∷ []))
        (sym w.self-inside-is) w.in_ok-open_known.ensures.around;
  }
  | else-is_some w ↦ record {
    keys = ap (λ t. t.keys) w.self-inside-is;
    values = ap (λ t. t.values) w.self-inside-is;
    around = c.push_reserved.ensures.items ∙ ap (λ t. t.around.items ++ t.innermost ∷ []) w.self-inside-is
        ∙ ap (λ fs. fs ++ c.self.inside.innermost ∷ []) c.in_ok-reserve.ensures.items;
    first_key = c.len-self-inside.ensures ∙ ap (λ t. vec_len t.keys) w.self-inside-is;
    first_value = c.len-self-inside-2.ensures ∙ ap (λ t. vec_len t.values) w.self-inside-is;
    strict = ap (λ t. is_some t.known) w.self-inside-is;
    known =
        subst (λ t. IfSome t.known (Knows [])) (sym w.self-inside-is)
        (if_none _ c.self.inside.known (cc (w.if-is_some.false, c.is_some.ensures)));
    known_around = if_none _ c.self.inside.known (cc (w.if-is_some.false, c.is_some.ensures));
  }
]) (subst (λ (o : OpenContainers). AwaitsValue o.innermost.kind o.innermost) (sym c.self.view_is) c.requires)
