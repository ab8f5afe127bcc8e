use Rattle.jzon_base.proofs.Common.{◌≡◌, ◌∙◌, ◌++◌, ◌∷◌, [], ℕ, List, take, ap, is_some}
use Rattle.jzon_base.proofs.Common.{Vec, Global, Result, Ok, Err}
use Rattle.std.specs.Prelude.{reverse}
use Rattle.jzon.specs.declared.stop.Stop.{Stop}
use Rattle.jzon_tree.specs.declared.value.JsonValue.{JsonValue}
use Rattle.jzon.specs.Private.Machine.{Frames, State}
use Rattle.jzon.specs.Private.OpenContainers.{OpenContainers, value_added}
use Rattle.jzon.specs.Private.Targets.{Puts}
use Rattle.jzon.specs.Private.Stacks.{container_of, containers_in, containers_of, IsLaidOut}
use Rattle.jzon.specs.Reading.{Reading}
use Rattle.jzon.specs.declared.stacks.Stacks.TheInside.{Inside}
use Rattle.jzon.proofs.Containers.StackParts.{IsLaidOut-pushed, IsLaidOut-same, view-pushed}
use Rattle.jzon.proofs.stacks.Stacks.push_primitive.Goals as goal

-- a value is added, or none
laid_after : (s : Inside) (mid new : Vec JsonValue Global) (result : Result ℕ Stop) (bs : List ℕ) (i : ℕ)
    (p : Frames → State) (G : Reading → Frames → Type 0) → IsLaidOut s → mid.items ≡ s.values.items
    → Puts (λ v vs. vs.items ≡ mid.items ++ v ∷ []) mid new result bs i p G → IsLaidOut (record s { values = new })
laid_after s mid new (Ok end) bs i p G h same put =
    IsLaidOut-pushed s new put.0 h (put.1 ∙ ap (λ vs. vs ++ put.0 ∷ []) same)
laid_after s mid new (Err e) bs i p G h same put = IsLaidOut-same s new h (ap (λ vs. vs.items) put.0 ∙ same)

-- a clause sees the value added to the innermost container
puts_onto : (s : Inside) (o : OpenContainers) (mid new : Vec JsonValue Global) (result : Result ℕ Stop) (bs : List ℕ)
    (i : ℕ) (p : Frames → State) (G : Reading → Frames → Type 0) → IsLaidOut s → containers_of s ≡ o
    → mid.items ≡ s.values.items → Puts (λ v vs. vs.items ≡ mid.items ++ v ∷ []) mid new result bs i p G
    → Puts (λ v t. t ≡ value_added o v) o (containers_of (record s { values = new })) result bs i p G
puts_onto s o mid new (Ok end) bs i p G h is same put = (
  put.0,
  view-pushed s new put.0 h (put.1 ∙ ap (λ vs. vs ++ put.0 ∷ []) same) ∙ ap (λ z. value_added z put.0) is,
  put.2,
)
puts_onto s o mid new (Err e) bs i p G h is same put = (
  ap (λ vs. record {
    strict = is_some s.known;
    innermost = container_of s.innermost s.keys.items vs;
    around =
        containers_in (reverse s.around.items) (take s.innermost.first_key s.keys.items)
        (take s.innermost.first_value vs);
  }) (ap (λ vs. vs.items) put.0 ∙ same)
      ∙ is,
  put.1,
)

pub invariant_of-self-2 : goal.invariant_of-self-2
invariant_of-self-2 c =
    laid_after c.self.inside c.reserve_value.new.values c.put_primitive.new.target c.put_primitive.result c.args.source.now
    c.args.start _ _ c.self.invariant c.in_ok-reserve_value.ensures.items c.put_primitive.ensures.outcome

pub returns-clause-outcome : goal.returns-clause-outcome
returns-clause-outcome c =
    puts_onto c.self.inside c.args.self.now c.reserve_value.new.values c.put_primitive.new.target c.put_primitive.result
    c.args.source.now c.args.start _ _ c.self.invariant c.self.view_is c.in_ok-reserve_value.ensures.items
    c.put_primitive.ensures.outcome
