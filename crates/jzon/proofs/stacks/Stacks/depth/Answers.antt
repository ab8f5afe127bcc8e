use Rattle.jzon_base.proofs.Common.{length, take, ap, arith}
use Rattle.std.specs.Prelude.{reverse}
use Rattle.std.proofs.lemmas.List.{length-reverse}
use Rattle.jzon.specs.Private.OpenContainers.{OpenContainers}
use Rattle.jzon.proofs.Containers.StackParts.{length-containers_in}
use Rattle.jzon.proofs.stacks.Stacks.depth.Goals as goal

pub returns : goal.returns
returns c =
    let s = c.self.inside in
    omega (
      arith,
      c.len.ensures,
      s.around.ok.0,
      length-containers_in (reverse s.around.items) (take s.innermost.first_key s.keys.items)
          (take s.innermost.first_value s.values.items),
      length-reverse s.around.items,
      ap (λ (o : OpenContainers). length o.around) c.self.view_is,
    )
