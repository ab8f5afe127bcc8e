use Rattle.std.proofs.Common.{◌-◌, ◌^◌, [], flat_map, length, length-append, min, sym, ap, ◌∙◌, map-id, arith}
use Rattle.std.proofs.lemmas.Iterator.{YieldsList-from_chars}
use Rattle.std.proofs.lemmas.Iterator.Consumers.{YieldsList-end}
use Rattle.std.proofs.lemmas.List.{flat_map_more}
use Rattle.jzon_pointer.specs.Shown.{shown_char}
use Rattle.jzon_pointer.proofs.shown.shown_len.Goals as goal

pub loop-ch-preserved : goal.loop-ch-preserved
loop-ch-preserved c =
    let more = ap length (flat_map_more shown_char [] c.loop-ch.yielded c.in-Some.ch) in
    let both = length-append (flat_map shown_char c.loop-ch.yielded) (shown_char c.in-Some.ch) in
    omega (arith, more, both, c.loop-ch.invariant, c.saturating_add-bytes.ensures, c.width.ensures)

pub returns : goal.returns
returns c =
    let end = YieldsList-end (YieldsList-from_chars c.args.text.now c.utf8.text cc) c.loop-ch.yielded _ c.loop-ch.yielded_by _ _ c.in-None.is c.next.ensures.steps in
    c.loop-ch.invariant ∙ ap (λ cs. min (length (flat_map shown_char cs)) (2 ^ 64 - 1)) (sym (map-id c.loop-ch.yielded) ∙ end.0)
