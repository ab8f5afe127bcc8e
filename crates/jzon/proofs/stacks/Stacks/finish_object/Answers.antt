use Rattle.jzon_base.proofs.Common.{◌≡◌, ◌∙◌, ℕ, List, [], length, zip, ap, sym, subst, refl}
use Rattle.jzon_base.proofs.Common.{IfSome, IfOk-weaker}
use Rattle.std.proofs.lemmas.Option.{IfSome_then}
use Rattle.jzon_base.specs.PairList.{put_each}
use Rattle.jzon_base.specs.Private.KnownKeys.{Knows}
use Rattle.jzon_tree.specs.Entries.{entries_of}
use Rattle.jzon_tree.specs.Value as value
use Rattle.jzon_tree.specs.Value.{pairs_of}
use Rattle.jzon_tree.specs.View.{view_object, viewed}
use Rattle.jzon_tree.specs.declared.object.Object.{Object}
use Rattle.jzon_tree.specs.declared.value.JsonValue.{JsonValue}
use Rattle.jzon.specs.Private.OpenContainers.{OpenContainers, HasAllValues, whole, whole_as}
use Rattle.jzon.specs.Private.Stacks.{containers_of, IsLaidOut}
use Rattle.jzon.specs.declared.container_kind.ContainerKind.TheVariants as kinds
use Rattle.jzon.specs.declared.stacks.Stacks.TheInside.{Inside}
use Rattle.jzon.proofs.Containers.StackParts.{if_none, IsLaidOut-keys_left, IsLaidOut-taken, IsLaidOut-values_taken, keys_here, values_here}
use Rattle.jzon.proofs.stacks.Stacks.finish_object.Goals as goal

-- the keys and values that were taken are those of the outermost container
module _ (s : Inside) (o : OpenContainers) (h : IsLaidOut s) (seen : containers_of s ≡ o) (none : o.around ≡ [])
    (ks : List (List ℕ)) (k : ks ≡ s.keys.items) where
  knows : IfSome s.known (Knows ks)
  knows = IfSome_then s.known h.known (λ l p. subst (λ js. Knows js l)
      (ap (λ (q : OpenContainers). q.innermost.keys) seen ∙ sym (k ∙ keys_here s o h seen none)) p.0)

  module _ (vs : List JsonValue) (v : vs ≡ s.values.items) where
    as_many : HasAllValues kinds.Object o.innermost → length vs ≡ length ks
    as_many even = ap length (v ∙ values_here s o h seen none) ∙ sym even ∙ ap length (sym (k ∙ keys_here s o h seen none))

    means : o.innermost.kind ≡ kinds.Object → (object : Object) → entries_of object ≡ put_each (zip ks vs)
        → view_object object ≡ whole o.innermost
    means kind object e = ap (λ es. value.object (pairs_of (viewed es)))
        (e ∙ (λ i. put_each (zip ((k ∙ keys_here s o h seen none) i) ((v ∙ values_here s o h seen none) i))))
        ∙ sym (ap (λ b. whole_as b o.innermost) kind)

pub invariant_of-self : goal.invariant_of-self
invariant_of-self c = IsLaidOut-values_taken c.self.inside c.args.self.now c.self.invariant c.self.view_is
    c.requires.outermost c.take_all.new.stack

pub invariant_of-self-in_err-keys : goal.invariant_of-self-in_err-keys
invariant_of-self-in_err-keys c = IsLaidOut-keys_left c.self.inside c.args.self.now c.self.invariant c.self.view_is
    c.requires.outermost c.take_all-2.new.stack c.take_all.new.stack c.in_err-keys.ensures.err
    c.in_ok-values.ensures.items

pub object_of_known-requires-clause-even : goal.object_of_known-requires-clause-even
object_of_known-requires-clause-even c = as_many c.self.inside c.args.self.now c.self.invariant c.self.view_is
    c.requires.outermost c.in_ok-keys.keys.items c.in_ok-keys.ensures.all c.in_ok-values.values.items
    c.in_ok-values.ensures.all c.requires.even

pub object_of_known-requires-clause-known : goal.object_of_known-requires-clause-known
object_of_known-requires-clause-known c = knows c.self.inside c.args.self.now c.self.invariant c.self.view_is
    c.requires.outermost c.in_ok-keys.keys.items c.in_ok-keys.ensures.all

pub invariant_of-self-then-is_some : goal.invariant_of-self-then-is_some
invariant_of-self-then-is_some c = IsLaidOut-taken c.self.inside c.args.self.now c.self.invariant c.self.view_is
    c.requires.outermost c.take_all-2.new.stack c.take_all.new.stack c.object_of_known.new.known
    (c.object_of_known.ensures.new ∙ sym (cc (c.if-is_some.true, c.is_some.ensures)))
    (subst (λ js. IfSome c.object_of_known.new.known (Knows js)) (sym c.in_ok-keys.ensures.items)
    c.object_of_known.ensures.known)

pub returns-then-is_some : goal.returns-then-is_some
returns-then-is_some c = IfOk-weaker c.object_of_known.result _ _
    (means c.self.inside c.args.self.now c.self.invariant c.self.view_is c.requires.outermost c.in_ok-keys.keys.items
    c.in_ok-keys.ensures.all c.in_ok-values.values.items c.in_ok-values.ensures.all c.requires.object)
    c.object_of_known.ensures.pairs

pub from_entries-requires : goal.from_entries-requires
from_entries-requires c = record {
  even = as_many c.self.inside c.args.self.now c.self.invariant c.self.view_is c.requires.outermost
      c.in_ok-keys.keys.items c.in_ok-keys.ensures.all c.in_ok-values.values.items c.in_ok-values.ensures.all
      c.requires.even;
}

pub invariant_of-self-2 : goal.invariant_of-self-2
invariant_of-self-2 c = IsLaidOut-taken c.self.inside c.args.self.now c.self.invariant c.self.view_is
    c.requires.outermost c.take_all-2.new.stack c.take_all.new.stack c.self.inside.known refl
    (if_none _ c.self.inside.known (cc (c.if-is_some.false, c.is_some.ensures)))

pub returns : goal.returns
returns c = IfOk-weaker c.from_entries.result _ _
    (means c.self.inside c.args.self.now c.self.invariant c.self.view_is c.requires.outermost c.in_ok-keys.keys.items
    c.in_ok-keys.ensures.all c.in_ok-values.values.items c.in_ok-values.ensures.all c.requires.object)
    c.from_entries.ensures.pairs
