use Rattle.std.proofs.Common.{sym, ap, ◌∙◌, map-id, arith}
use Rattle.std.proofs.lemmas.Iterator.{YieldsList-from_chars}
use Rattle.std.proofs.lemmas.Iterator.Consumers.{YieldsList-end}
use Rattle.jzon_pointer.specs.Shown.{widest}
use Rattle.jzon_pointer.proofs.ErrorLengths.{widest-more, widest-some}
use Rattle.jzon_pointer.proofs.shown.widest.Goals as goal

pub loop-ch-preserved : goal.loop-ch-preserved
loop-ch-preserved c =
    let more = widest-more c.loop-ch.yielded c.in-Some.ch in
    omega (arith, more, c.loop-ch.invariant, c.max-most.ensures, c.width.ensures)

pub returns-clause-widest : goal.returns-clause-widest
returns-clause-widest c =
    let end = YieldsList-end (YieldsList-from_chars c.args.text.now c.utf8.text cc) c.loop-ch.yielded _ c.loop-ch.yielded_by _ _ c.in-None.is c.next.ensures.steps in
    c.loop-ch.invariant ∙ ap widest (sym (map-id c.loop-ch.yielded) ∙ end.0)

pub returns-clause-some : goal.returns-clause-some
returns-clause-some c =
    let some = widest-some c.loop-ch.yielded in
    omega (arith, some, c.loop-ch.invariant)
