use Rattle.std.proofs.Common.{[], flat_map, refl, sym, ap, ◌∙◌, map-id}
use Rattle.std.proofs.Output.{has_written_append, has_written_of_eq}
use Rattle.std.proofs.lemmas.Iterator.{YieldsList-from_chars}
use Rattle.std.proofs.lemmas.Iterator.Consumers.{YieldsList-end}
use Rattle.std.proofs.lemmas.List.{flat_map_more}
use Rattle.jzon_pointer.specs.Shown.{shown_char}
use Rattle.jzon_pointer.proofs.shown.show_text.Goals as goal

pub loop-ch-preserved : goal.loop-ch-preserved
loop-ch-preserved g c = λ plain.
    let so_far = c.loop-ch.invariant plain in
    let took = g.W.Write.write_str_gives in
    has_written_of_eq took _ _ _ _ (flat_map_more shown_char [] c.loop-ch.yielded c.in-Some.ch)
    (has_written_append took _ _ _ _ _ so_far (c.in_ok-show_char.ensures so_far.plain refl))

pub returns : goal.returns
returns g c = λ plain ok.
    let took = g.W.Write.write_str_gives in
    let end = YieldsList-end (YieldsList-from_chars c.args.text.now c.utf8.text cc) c.loop-ch.yielded _ c.loop-ch.yielded_by _ _ c.in-None.is c.next.ensures.steps in
    has_written_of_eq took _ _ _ _ (ap (flat_map shown_char) (sym (map-id c.loop-ch.yielded) ∙ end.0)) (c.loop-ch.invariant plain)
