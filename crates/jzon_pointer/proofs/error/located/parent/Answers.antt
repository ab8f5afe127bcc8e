use Rattle.std.proofs.Common.{◌∙◌, ◌∷◌, sym, ap, length, length-append, arith}
use Rattle.jzon_pointer.proofs.PlacedSteps.{is-parent, no-parent}
use Rattle.jzon_pointer.proofs.TokenSteps.{last-parts}
use Rattle.jzon_pointer.proofs.error.located.parent.Goals as goal

pub returns-in-Some-clause-parent : goal.returns-in-Some-clause-parent
returns-in-Some-clause-parent c = λ q k.
    let cut = rw c.in-Some.is at (last-parts 47 c.args.pointer.now c.rsplit_once.result c.rsplit_once.ensures.cases (omega arith)) in
    is-parent c.args.pointer.now c.in-Some.object.now c.in-Some._key.now q k cut.0 cut.1

pub returns-in-Some-clause-whole : goal.returns-in-Some-clause-whole
returns-in-Some-clause-whole c = λ is.
    let cut = rw c.in-Some.is at (last-parts 47 c.args.pointer.now c.rsplit_once.result c.rsplit_once.ensures.cases (omega arith)) in
    let some = length-append c.in-Some.object.now (47 ∷ c.in-Some._key.now) in
    absurd (omega (arith, some, ap length (sym is ∙ cut.0)))

pub returns-in-None-clause-parent : goal.returns-in-None-clause-parent
returns-in-None-clause-parent c = λ q k.
    let lacks = rw c.in-None.is at (last-parts 47 c.args.pointer.now c.rsplit_once.result c.rsplit_once.ensures.cases (omega arith)) in
    no-parent c.args.pointer.now c.args.pointer.now q k lacks
